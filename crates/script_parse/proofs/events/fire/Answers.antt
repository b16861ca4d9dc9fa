use Rattle.std.proofs.Common.{arith, refl, ap, ◌∙◌, append_assoc}
use Rattle.script_tree.specs.Grammar.{verdict}
use Rattle.script_parse_terms.proofs.Machine.{made}
use Rattle.script_parse.proofs.Options.{fired_with_all}
use Rattle.script_parse.proofs.events.fire.Goals as goal

pub returns : goal.returns
returns c = record {
  shorter = omega (arith, c.requires.begun.shorter, c.in_ok-event.ensures.shorter, c.in_ok-rest.ensures.read.shorter, c.in_ok-e.ensures.shorter, c.in_ok-service.ensures.shorter, c.in_ok-list.ensures.shorter, c.in_ok-rest-2.ensures.read.shorter);
  spelled = rw (c.requires.begun.spelled, c.in_ok-event.ensures.spelled, c.in_ok-rest.ensures.read.spelled, c.in_ok-e.ensures.spelled, c.in_ok-service.ensures.spelled, c.in_ok-list.ensures.spelled, c.in_ok-rest-2.ensures.read.spelled) (simp append_assoc);
  good_one = rw (c.in_ok-event.ensures.good_one, c.in_ok-e.ensures.good_one, c.in_ok-service.ensures.good_one, c.in_ok-list.ensures.good_one) refl;
  goes_on = λ ps i. c.requires.begun.goes_on ps i ∙ c.in_ok-event.ensures.goes_on _ _ ∙ c.in_ok-rest.ensures.read.goes_on _ _ ∙ c.in_ok-e.ensures.goes_on _ _ ∙ made _ _ _ _ _ ∙ c.in_ok-service.ensures.goes_on _ _ ∙ c.in_ok-list.ensures.goes_on _ _ ∙ c.in_ok-rest-2.ensures.read.goes_on _ _ ∙ ap (λ l. verdict ps l c.args.depth c.in_ok-rest-2.rest.now) (fired_with_all _ _ _ _ i);
}
