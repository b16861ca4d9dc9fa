use Rattle.std.proofs.Common.{arith, refl, ap, ◌∙◌, append_assoc}
use Rattle.script_tree.specs.Grammar.{verdict}
use Rattle.script_parse_terms.proofs.Machine.{made}
use Rattle.script_parse.proofs.Options.{timer_with_all}
use Rattle.script_parse.proofs.timers.timer.Goals as goal

pub returns : goal.returns
returns c = rw (c.in_ok-new.ensures.ok, c.into_inner.ensures, c.into_inner-2.ensures, c.unboxed.ensures) (record {
  shorter = omega (arith, c.requires.begun.shorter, c.in_ok-name.ensures.shorter, c.in_ok-rest.ensures.read.shorter, c.in_ok-activity.ensures.shorter, c.in_ok-start.ensures.shorter, c.in_ok-repeat.ensures.shorter, c.in_ok-keep.ensures.read.shorter, c.in_ok-rest-2.ensures.read.shorter);
  spelled = rw (c.requires.begun.spelled, c.in_ok-name.ensures.spelled, c.in_ok-rest.ensures.read.spelled, c.in_ok-activity.ensures.spelled, c.in_ok-start.ensures.spelled, c.in_ok-repeat.ensures.spelled, c.in_ok-keep.ensures.read.spelled, c.in_ok-rest-2.ensures.read.spelled) (simp append_assoc);
  good_one = rw (c.in_ok-name.ensures.good_one, c.in_ok-activity.ensures.good_one, c.in_ok-start.ensures.good_one, c.in_ok-repeat.ensures.good_one, c.in_ok-keep.ensures.read.good_one) refl;
  goes_on = λ ps i. c.requires.begun.goes_on ps i ∙ c.in_ok-name.ensures.goes_on _ _ ∙ c.in_ok-rest.ensures.read.goes_on _ _ ∙ c.in_ok-activity.ensures.goes_on _ _ ∙ c.in_ok-start.ensures.goes_on _ _ ∙ made _ _ _ _ _ ∙ c.in_ok-repeat.ensures.goes_on _ _ ∙ c.in_ok-keep.ensures.read.goes_on _ _ ∙ c.in_ok-rest-2.ensures.read.goes_on _ _ ∙ ap (λ l. verdict ps l c.args.depth c.in_ok-rest-2.rest.now) (timer_with_all _ _ _ _ _ i);
})
