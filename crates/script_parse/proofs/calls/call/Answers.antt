use Rattle.std.proofs.Common.{arith, ap, ◌∙◌, append_assoc}
use Rattle.std.proofs.lemmas.Bool.Decides.{nat_tests}
use Rattle.script_tree.specs.Grammar.{verdict}
use Rattle.script_parse_terms.proofs.Machine.{made}
use Rattle.script_parse.proofs.Options.{called_with_all}
use Rattle.script_parse.proofs.calls.call.Goals as goal

pub returns : goal.returns
returns c = record {
  shorter = omega (arith, c.requires.begun.shorter, c.in_ok-child.ensures.shorter, c.in_ok-rest.ensures.read.shorter, c.in_ok-method.ensures.shorter, c.in_ok-inner.ensures.read.shorter, c.in_ok-list.ensures.shorter, c.in_ok-result.ensures.shorter);
  spelled = rw (c.requires.begun.spelled, c.in_ok-child.ensures.spelled, c.in_ok-rest.ensures.read.spelled, c.in_ok-method.ensures.spelled, c.in_ok-inner.ensures.read.spelled, c.in_ok-list.ensures.spelled, c.in_ok-result.ensures.spelled) (simp append_assoc);
  good_one = rw (c.in_ok-child.ensures.good_one, c.in_ok-method.ensures.good_one, c.in_ok-list.ensures.good_one, c.in_ok-result.ensures.good_one) (grind (arith, nat_tests));
  goes_on = λ ps i. c.requires.begun.goes_on ps i ∙ c.in_ok-child.ensures.goes_on _ _ ∙ c.in_ok-rest.ensures.read.goes_on _ _ ∙ c.in_ok-method.ensures.goes_on _ _ ∙ c.in_ok-inner.ensures.read.goes_on _ _ ∙ made _ _ _ _ _ ∙ c.in_ok-list.ensures.goes_on _ _ ∙ c.in_ok-result.ensures.goes_on _ _ ∙ ap (λ l. verdict ps l c.args.depth c.in_ok-result.rest.now) (called_with_all _ _ _ _ i);
}
