-- what has moved stands behind the rest, turned round
use Rattle.std.proofs.Common.{◌≡◌, ℕ, ◌+◌, ◌≤◌, ◌++◌, List, reverse, vec_len, vec_capacity}
use Rattle.rows_leaves.proofs.splitting.move_last.Given as goal

pub record Moves {Row : Type 0} (rows behind all : List Row) (left moved done count before capacity old_capacity memory old_memory : ℕ) : Type 0 where
  pub items : rows ++ reverse behind ≡ all
  pub left_is : left + done ≡ before
  pub moved_is : moved ≡ done
  pub capacity_is : capacity ≡ old_capacity
  pub memory_is : old_memory ≤ memory

abbrev pub invariant-moves : goal.invariant-moves
invariant-moves g l = Moves l.rows.items l.behind.items l.initial.rows.items (vec_len l.rows) (vec_len l.behind) l.counter l.count (vec_len l.initial.rows) (vec_capacity l.rows) (vec_capacity l.initial.rows) (vec_capacity l.behind) (vec_capacity l.initial.behind)
