-- the leaves from the place on have few rows
use Rattle.std.proofs.Common.{◌-◌, ◌*◌, ◌<◌, ◌≤◌, drop, length}
use Rattle.std.specs.List.{flat_map}
use Rattle.rows_leaves.specs.Invariant.{leaf_rows}
use Rattle.rows_leaves.specs.declared.leaf.TheConstants.{HALF_LEAF}
use Rattle.rows_leaves.proofs.joining.place_to_join.Given as goal

abbrev pub invariant-pairs : goal.invariant-pairs
invariant-pairs g l = record {
  within : l.place ≤ length l.leaves;
  few : length (flat_map (leaf_rows {Row = g.row.R.Denot}) (drop l.place l.leaves)) < HALF_LEAF * (length l.leaves - l.place - 1);
}

abbrev pub decreases-pairs : goal.decreases-pairs
decreases-pairs g l = length l.leaves - l.place
