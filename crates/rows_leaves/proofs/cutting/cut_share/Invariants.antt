-- the rows of others stay, and there are fewer of the share
use Rattle.std.proofs.Common.{◌≡◌, ◌+◌, ◌≤◌, length, vec_len}
use Rattle.std.specs.Prelude.{not}
use Rattle.std.specs.List.{filter, flat_map}
use Rattle.rows_leaves.specs.Invariant.{leaf_rows, Stands}
use Rattle.rows_leaves.specs.Shares.{is_in}
use Rattle.rows_leaves.proofs.cutting.cut_share.Given as goal

abbrev pub invariant-cuts : goal.invariant-cuts
invariant-cuts g l = record {
  rows : filter (λ row. not (is_in l.share (g.R.Keyed.key row))) (flat_map leaf_rows l.leaves.items) ≡ filter (λ row. not (is_in l.share (g.R.Keyed.key row))) (flat_map leaf_rows l.initial.leaves.items);
  counted : l.left ≡ length (flat_map (leaf_rows {Row = g.row.R.Denot}) l.leaves.items);
  fewer : l.left ≤ l.count;
  stands : Stands g.R.Keyed.key l.leaves l.spares l.counts;
  room : vec_len l.initial.spares ≤ vec_len l.spares;
  slots : vec_len l.leaves + vec_len l.spares ≡ vec_len l.initial.leaves + vec_len l.initial.spares;
}

abbrev pub decreases-cuts : goal.decreases-cuts
decreases-cuts g l = l.left
