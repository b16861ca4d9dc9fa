use Rattle.std.proofs.Common.{arith, refl, ◌∙◌, append_assoc}
use Rattle.script_parse.proofs.activities.mask.Goals as goal

pub returns : goal.returns
returns c = record {
  shorter = omega (arith, c.requires.begun.shorter, c.in_ok-event.ensures.shorter, c.in_ok-rest.ensures.read.shorter, c.in_ok-e.ensures.shorter);
  spelled = rw (c.requires.begun.spelled, c.in_ok-event.ensures.spelled, c.in_ok-rest.ensures.read.spelled, c.in_ok-e.ensures.spelled) (simp append_assoc);
  good_one = rw (c.in_ok-event.ensures.good_one, c.in_ok-e.ensures.good_one) refl;
  goes_on = λ ps i. c.requires.begun.goes_on ps i ∙ c.in_ok-event.ensures.goes_on _ _ ∙ c.in_ok-rest.ensures.read.goes_on _ _ ∙ c.in_ok-e.ensures.makes _ _ _;
}
