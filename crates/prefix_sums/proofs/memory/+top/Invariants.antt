-- each call has a level less
use Rattle.std.proofs.Common.{length}
use Rattle.prefix_sums.proofs.memory.+top.Given as goal

abbrev pub decreases-top : goal.decreases-top
decreases-top l = length l.above.now
