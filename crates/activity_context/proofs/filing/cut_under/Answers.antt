-- the names of one entry go
use Rattle.std.proofs.Common.{sym, ◌∙◌, arith}
use Rattle.std.specs.Prelude.{not}
use Rattle.std.specs.List.{filter, list_any}
use Rattle.rows_sorted.specs.Keys.{is_pair}
use Rattle.rows_index.specs.declared.entry.Entry.{Entry}
use Rattle.activity_context.specs.declared.numbered.NumberedName.{NumberedName}
use Rattle.activity_context.specs.Naming.{numbered_key}
use Rattle.activity_context.proofs.FilingLemmas.{next_under, none_under}
use Rattle.activity_context.proofs.filing.cut_under.Goals as goal

pub loop-entry-preserved : goal.loop-entry-preserved
loop-entry-preserved c =
    let a = c.args.activity.0 in
    let rows = c.loop-entry.rows.rows in
    record {
      rows = rw c.cut_rows_of_pair.ensures.rows
          (next_under a c.in-Some.entry.now _ rows
          ∙ (λ i. filter (λ (row : NumberedName). not (list_any (λ (e : Entry). is_pair e.number a (numbered_key row)) (sym c.in-Some.ensures.steps i))) rows)
          ∙ c.loop-entry.invariant.rows);
      room = omega (arith, c.loop-entry.invariant.room, c.cut_rows_of_pair.ensures.room);
    }

pub returns-clause-rows : goal.returns-clause-rows
returns-clause-rows c =
    let a = c.args.activity.0 in
    let rows = c.loop-entry.rows.rows in
    sym (none_under a rows)
    ∙ (λ i. filter (λ (row : NumberedName). not (list_any (λ (e : Entry). is_pair e.number a (numbered_key row)) (sym c.in-None.ensures.steps.0 i))) rows)
    ∙ c.loop-entry.invariant.rows
