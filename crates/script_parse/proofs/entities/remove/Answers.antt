use Rattle.std.proofs.Common.{arith, ◌∙◌, append_assoc}
use Rattle.script_parse_terms.proofs.Machine.{made}
use Rattle.script_parse.proofs.entities.remove.Goals as goal

pub returns : goal.returns
returns c = record {
  shorter = omega (arith, c.requires.begun.shorter, c.in_ok-child.ensures.shorter, c.in_ok-rest.ensures.read.shorter);
  spelled = rw (c.requires.begun.spelled, c.in_ok-child.ensures.spelled, c.in_ok-rest.ensures.read.spelled) (simp append_assoc);
  good_one = c.in_ok-child.ensures.good_one;
  goes_on = λ ps i. c.requires.begun.goes_on ps i ∙ c.in_ok-child.ensures.goes_on _ _ ∙ made _ _ _ _ _ ∙ c.in_ok-rest.ensures.read.goes_on _ _;
}
