-- each call has a level less
use Rattle.std.proofs.Common.{length}
use Rattle.prefix_sums.proofs.levels.+renew.Given as goal

abbrev pub decreases-renew : goal.decreases-renew
decreases-renew l = length l.above.now
