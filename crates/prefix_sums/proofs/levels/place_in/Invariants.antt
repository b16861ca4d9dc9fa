-- so many are reached in the block of the level that is at the top of those left
use Rattle.std.proofs.Common.{◌≡◌, ◌+◌, ◌*◌, ◌<◌, length, take}
use Rattle.std.specs.List.{sum}
use Rattle.prefix_sums.specs.Levels.{AreAbove, top_of}
use Rattle.prefix_sums.specs.declared.level.TheConstants.{BLOCK}
use Rattle.prefix_sums.proofs.levels.place_in.Given as goal

abbrev pub invariant-levels : goal.invariant-levels
invariant-levels l = record {
  right : AreAbove l.first.numbers.items l.left;
  before : sum (take (BLOCK * l.block) (top_of l.first.numbers.items l.left)) + l.rest ≡ l.rank;
  within : l.rank < sum (take (BLOCK * (l.block + 1)) (top_of l.first.numbers.items l.left));
}

abbrev pub decreases-levels : goal.decreases-levels
decreases-levels l = length l.left
