-- the fields that are left tell
use Rattle.std.proofs.Common.{◌≡◌, length}
use Rattle.slee_value.specs.Order.{names_of, rises}
use Rattle.snapshot_read.proofs.holding.are_rising.Given as goal

abbrev pub invariant-left : goal.invariant-left
invariant-left l = rises (names_of l.fn.fields) ≡ rises (names_of l.left)

abbrev pub decreases-left : goal.decreases-left
decreases-left l = length l.left
