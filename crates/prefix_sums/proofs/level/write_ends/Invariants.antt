-- the ends so far are right, and the last of them stands in the same block
use Rattle.std.proofs.Common.{◌≡◌, ◌+◌, ◌*◌, ◌/◌, ◌%◌, ◌<◌, length, take}
use Rattle.std.specs.List.{sum}
use Rattle.prefix_sums.specs.Levels.{AreEndsUpTo}
use Rattle.prefix_sums.specs.declared.level.TheConstants.{BLOCK}
use Rattle.prefix_sums.proofs.level.write_ends.Given as goal

abbrev pub invariant-loop-place : goal.invariant-loop-place
invariant-loop-place l = record {
  stand : AreEndsUpTo l.place l.numbers l.ends;
  len : length l.ends ≡ length l.initial.ends;
  last : 0 < l.place % BLOCK → sum (take (BLOCK * (l.place / BLOCK)) l.numbers) + l.last ≡ sum (take l.place l.numbers);
}
