-- the levels are right, and each has memory
use Rattle.std.proofs.Common.{◌-◌, ◌≤◌, vec_len}
use Rattle.std.specs.List.{AllByRecursion}
use Rattle.prefix_sums.specs.Levels.{AreAbove, HasPlaces}
use Rattle.prefix_sums.proofs.memory.raise_levels.Given as goal

abbrev pub invariant-raises : goal.invariant-raises
invariant-raises l = record {
  right : AreAbove l.first.numbers.items l.above.items;
  memory : AllByRecursion (HasPlaces l.places) l.above.items;
  no_fewer : vec_len l.initial.above ≤ vec_len l.above;
}

abbrev pub decreases-raises : goal.decreases-raises
decreases-raises l = l.count - vec_len l.above
