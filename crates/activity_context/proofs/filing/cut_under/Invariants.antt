-- those that are left and aren't under later entries are those that weren't under any
use Rattle.std.proofs.Common.{◌≡◌}
use Rattle.std.specs.Prelude.{◌≤◌, not}
use Rattle.std.specs.List.{filter, list_any}
use Rattle.rows_sorted.specs.Keys.{is_pair}
use Rattle.rows_index.specs.declared.entry.Entry.{Entry}
use Rattle.activity_context.specs.declared.numbered.NumberedName.{NumberedName}
use Rattle.activity_context.specs.Naming.{numbered_key}
use Rattle.activity_context.proofs.filing.cut_under.Given as goal

abbrev pub invariant-loop-entry : goal.invariant-loop-entry
invariant-loop-entry l = record {
  rows :
      filter (λ (row : NumberedName). not (list_any (λ (e : Entry). is_pair e.number l.activity.0 (numbered_key row)) l.entry-iterator)) l.rows.rows
      ≡ filter (λ (row : NumberedName). not (list_any (λ (e : Entry). is_pair e.number l.activity.0 (numbered_key row)) l.fn.entries)) l.fn.rows.rows;
  room : l.fn.rows.room ≤ l.rows.room;
}
