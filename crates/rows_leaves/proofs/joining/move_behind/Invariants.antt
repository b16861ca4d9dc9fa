-- what is left stands behind what has moved, turned round
use Rattle.std.proofs.Common.{◌≡◌, ◌+◌, ◌≤◌, ◌++◌, reverse, vec_len, vec_capacity}
use Rattle.rows_leaves.proofs.joining.move_behind.Given as goal

abbrev pub invariant-moves : goal.invariant-moves
invariant-moves g l = record {
  items : l.into.items ++ reverse l.rows.items ≡ l.fn.into.items ++ l.fn.rows.items;
  room : vec_len l.into + vec_len l.rows ≤ vec_capacity l.into;
  memory : vec_capacity l.fn.into ≤ vec_capacity l.into;
  memory_left : vec_capacity l.fn.rows ≤ vec_capacity l.rows;
}

abbrev pub decreases-moves : goal.decreases-moves
decreases-moves g l = vec_len l.rows
