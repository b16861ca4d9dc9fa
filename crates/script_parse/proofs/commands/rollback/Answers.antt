use Rattle.std.proofs.Common.{arith, refl, ◌∙◌, append_assoc}
use Rattle.script_parse_terms.proofs.Machine.{made}
use Rattle.script_parse.proofs.commands.rollback.Goals as goal

pub returns-clause-read : goal.returns-clause-read
returns-clause-read c = record {
  shorter = omega (arith, c.requires.begun.shorter, c.in_ok-rest.ensures.read.shorter);
  spelled = rw (c.requires.begun.spelled, c.in_ok-rest.ensures.read.spelled) (simp append_assoc);
  good_one = refl;
  goes_on = λ ps i. c.requires.begun.goes_on ps i ∙ made _ _ _ _ _ ∙ c.in_ok-rest.ensures.read.goes_on _ _;
}
