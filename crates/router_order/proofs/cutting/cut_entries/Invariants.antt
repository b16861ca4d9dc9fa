-- those that are left and aren't under later ones are those that weren't under any
use Rattle.std.proofs.Common.{◌≡◌}
use Rattle.std.specs.Prelude.{◌≤◌, not}
use Rattle.std.specs.List.{filter, list_any}
use Rattle.rows_sorted.specs.Keys.{is_key, pair_key}
use Rattle.rows_index.specs.declared.entry.Entry.{Entry}
use Rattle.rows_index.specs.Index.{entry_key}
use Rattle.router_order.specs.declared.placed.Placed.{Placed}
use Rattle.router_order.proofs.cutting.cut_entries.Given as goal

abbrev pub invariant-rows : goal.invariant-rows
invariant-rows l = record {
  rows :
      filter (λ (entry : Entry). not (list_any (λ (row : Placed). is_key (entry_key entry) (pair_key row.entity.0 l.activity.0)) l.row-iterator)) l.entries.rows
      ≡ filter (λ (entry : Entry). not (list_any (λ (row : Placed). is_key (entry_key entry) (pair_key row.entity.0 l.activity.0)) l.fn.run)) l.fn.entries.rows;
  room : l.fn.entries.room ≤ l.entries.room;
}
