-- the entries of one row more go
use Rattle.std.proofs.Common.{sym, ◌∙◌, arith}
use Rattle.std.specs.Prelude.{not}
use Rattle.std.specs.List.{filter, list_any}
use Rattle.rows_sorted.specs.Keys.{is_key, pair_key}
use Rattle.rows_index.specs.declared.entry.Entry.{Entry}
use Rattle.rows_index.specs.Index.{entry_key}
use Rattle.router_order.specs.declared.placed.Placed.{Placed}
use Rattle.router_order.proofs.IndexedLemmas.{next_gone, none_gone}
use Rattle.router_order.proofs.cutting.cut_entries.Goals as goal

pub rows-preserved : goal.rows-preserved
rows-preserved c =
    let goes = λ (row : Placed) (entry : Entry). is_key (entry_key entry) (pair_key row.entity.0 c.args.activity.0) in
    let entries = c.rows.entries.rows in
    record {
      rows = rw c.cut_row.ensures.rows
          (next_gone goes c.in-Some.row.now _ entries
          ∙ (λ i. filter (λ (entry : Entry). not (list_any (λ (row : Placed). goes row entry) (sym c.in-Some.ensures.steps i))) entries)
          ∙ c.rows.invariant.rows);
      room = omega (arith, c.rows.invariant.room, c.cut_row.ensures.room);
    }

pub returns-clause-rows : goal.returns-clause-rows
returns-clause-rows c =
    let goes = λ (row : Placed) (entry : Entry). is_key (entry_key entry) (pair_key row.entity.0 c.args.activity.0) in
    let entries = c.rows.entries.rows in
    sym (none_gone goes entries)
    ∙ (λ i. filter (λ (entry : Entry). not (list_any (λ (row : Placed). goes row entry) (sym c.in-None.ensures.steps.0 i))) entries)
    ∙ c.rows.invariant.rows
