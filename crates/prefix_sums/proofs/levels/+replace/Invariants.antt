-- each call has a level less
use Rattle.std.proofs.Common.{length}
use Rattle.prefix_sums.proofs.levels.+replace.Given as goal

abbrev pub decreases-replace : goal.decreases-replace
decreases-replace l = length l.above.now
