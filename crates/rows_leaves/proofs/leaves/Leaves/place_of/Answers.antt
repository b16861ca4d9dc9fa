-- as many rows as are counted
use Rattle.std.proofs.Common.{arith}
use Rattle.rows_leaves.proofs.leaves.Leaves.place_of.Goals as goal

pub place_of-requires-clause-fits : goal.place_of-requires-clause-fits
place_of-requires-clause-fits g c = rw c.as_slice.ensures.value (omega (arith, c.self.invariant.counted, c.self.invariant.bounded))
