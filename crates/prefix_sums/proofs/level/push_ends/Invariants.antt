-- the ends that are there are right
use Rattle.std.proofs.Common.{◌-◌, ◌≤◌, length, vec_len, vec_capacity}
use Rattle.prefix_sums.specs.Levels.{AreEndsUpTo}
use Rattle.prefix_sums.proofs.level.push_ends.Given as goal

abbrev pub invariant-ends : goal.invariant-ends
invariant-ends l = record {
  stand : AreEndsUpTo (vec_len l.ends) l.numbers l.ends.items;
  memory : vec_capacity l.initial.ends ≤ vec_capacity l.ends;
}

abbrev pub decreases-ends : goal.decreases-ends
decreases-ends l = length l.numbers - vec_len l.ends
