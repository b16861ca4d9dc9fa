-- each call has an item less
use Rattle.std.proofs.Common.{length}
use Rattle.tx_attempt.proofs.same.+are_same_numbers.Given as goal

abbrev pub decreases-are_same_numbers : goal.decreases-are_same_numbers
decreases-are_same_numbers l = length l.one.now
