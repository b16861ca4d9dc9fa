-- each call has a level less
use Rattle.std.proofs.Common.{length}
use Rattle.prefix_sums.proofs.levels.+sum_before.Given as goal

abbrev pub decreases-sum_before : goal.decreases-sum_before
decreases-sum_before l = length l.above.now
