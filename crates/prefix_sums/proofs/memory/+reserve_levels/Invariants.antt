-- each call has a level less
use Rattle.std.proofs.Common.{length}
use Rattle.prefix_sums.proofs.memory.+reserve_levels.Given as goal

abbrev pub decreases-reserve_levels : goal.decreases-reserve_levels
decreases-reserve_levels l = length l.levels.now
