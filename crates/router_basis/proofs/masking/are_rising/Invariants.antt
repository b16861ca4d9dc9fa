-- the texts that are left tell
use Rattle.std.proofs.Common.{◌≡◌, length}
use Rattle.slee_value.specs.Order.{rises}
use Rattle.router_basis.proofs.masking.are_rising.Given as goal

abbrev pub invariant-left : goal.invariant-left
invariant-left l = rises l.fn.texts ≡ rises l.left

abbrev pub decreases-left : goal.decreases-left
decreases-left l = length l.left
