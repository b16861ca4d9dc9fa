use Rattle.std.proofs.Common.{arith, refl, ◌∙◌, append_assoc}
use Rattle.script_parse.proofs.assignments.attribute.Goals as goal

pub returns : goal.returns
returns c = rw c.into_inner.ensures (record {
  shorter = omega (arith, c.requires.begun.shorter, c.in_ok-rest.ensures.read.shorter, c.in_ok-activity.ensures.shorter, c.in_ok-name.ensures.shorter, c.in_ok-rest-2.ensures.read.shorter, c.in_ok-rest-3.ensures.read.shorter, c.in_ok-e.ensures.shorter);
  spelled = rw (c.requires.begun.spelled, c.in_ok-rest.ensures.read.spelled, c.in_ok-activity.ensures.spelled, c.in_ok-name.ensures.spelled, c.in_ok-rest-2.ensures.read.spelled, c.in_ok-rest-3.ensures.read.spelled, c.in_ok-e.ensures.spelled) (simp append_assoc);
  good_one = rw (c.in_ok-activity.ensures.good_one, c.in_ok-name.ensures.good_one, c.in_ok-e.ensures.good_one) refl;
  goes_on = λ ps i. c.requires.begun.goes_on ps i ∙ c.in_ok-rest.ensures.read.goes_on _ _ ∙ c.in_ok-activity.ensures.goes_on _ _ ∙ c.in_ok-name.ensures.goes_on _ _ ∙ c.in_ok-rest-2.ensures.read.goes_on _ _ ∙ c.in_ok-rest-3.ensures.read.goes_on _ _ ∙ c.in_ok-e.ensures.makes _ _ _;
})
