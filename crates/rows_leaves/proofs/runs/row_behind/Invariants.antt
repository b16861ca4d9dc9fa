-- the row stands among the rows that are left, behind so many of them
use Rattle.std.proofs.Common.{◌≡◌, ◌++◌, length, slice_get}
use Rattle.std.specs.List.{flat_map}
use Rattle.rows_leaves.specs.Invariant.{leaf_rows}
use Rattle.rows_leaves.proofs.runs.row_behind.Given as goal

abbrev pub invariant-leaves : goal.invariant-leaves
invariant-leaves g l = slice_get (flat_map (leaf_rows {Row = g.row.R.Denot}) l.left ++ l.back) l.rest ≡ slice_get (flat_map (leaf_rows {Row = g.row.R.Denot}) l.leaves ++ l.back) l.place

abbrev pub decreases-leaves : goal.decreases-leaves
decreases-leaves g l = length l.left
