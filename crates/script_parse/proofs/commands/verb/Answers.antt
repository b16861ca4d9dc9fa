use Rattle.std.proofs.Common.{arith, ◌∙◌, append_assoc}
use Rattle.script_parse.proofs.commands.verb.Goals as goal

pub returns : goal.returns
returns c = record {
  shorter = omega (arith, c.requires.begun.shorter, c.in_ok-e.ensures.shorter);
  spelled = rw (c.requires.begun.spelled, c.in_ok-e.ensures.spelled) (simp append_assoc);
  good_one = c.in_ok-e.ensures.good_one;
  goes_on = λ ps i. c.requires.begun.goes_on ps i ∙ c.in_ok-e.ensures.makes _ _ _;
}
