-- the rows of the leaves that are left and those that are counted are as many as at first
use Rattle.std.proofs.Common.{◌≡◌, ◌+◌, ◌-◌, ◌^◌, ◌<◌, length, min}
use Rattle.std.specs.List.{flat_map}
use Rattle.rows_leaves.specs.Invariant.{leaf_rows}
use Rattle.rows_leaves.proofs.runs.rows_and_more.Given as goal

abbrev pub invariant-leaves : goal.invariant-leaves
invariant-leaves g l = record {
  same : min (length (flat_map (leaf_rows {Row = g.row.R.Denot}) l.left) + l.count) (2 ^ 64 - 1) ≡ min (length (flat_map (leaf_rows {Row = g.row.R.Denot}) l.leaves) + l.more) (2 ^ 64 - 1);
  fits : l.count < 2 ^ 64;
}

abbrev pub decreases-leaves : goal.decreases-leaves
decreases-leaves g l = length l.left
