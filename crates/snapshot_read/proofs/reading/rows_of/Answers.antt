use Rattle.std.specs.List.{list_all}
use Rattle.std.proofs.lemmas.Result.{err_from_is_err_and}
use Rattle.snapshot_read.specs.Holding.{holds_entity, holds_activity, holds_row}
use Rattle.snapshot_read.specs.Lists.{lists_of, state_in}
use Rattle.snapshot_read.specs.Names.{are_named}
use Rattle.snapshot_read.proofs.HeldLemmas.{refused}
use Rattle.snapshot_read.proofs.NameLemmas.{entities_fail, activities_fail, rows_fail}
use Rattle.snapshot_read.proofs.reading.rows_of.Goals as goal

pub returns-in_err-entities : goal.returns-in_err-entities
returns-in_err-entities c = λ d p.
    let q = err_from_is_err_and c.from_residual.result c.from_residual.ensures.1 in
    rw (q.1, q.2) (refused (list_all holds_entity c.args.lists.entities.items) (are_named (state_in c.args.format d p c.args.counts (lists_of c.args.lists))) c.in_err-entities.field-0.0 (entities_fail c.args.format d p c.args.counts (lists_of c.args.lists)) c.in_err-entities.ensures)

pub returns-in_err-activities : goal.returns-in_err-activities
returns-in_err-activities c = λ d p.
    let q = err_from_is_err_and c.from_residual-in_err-activities.result c.from_residual-in_err-activities.ensures.1 in
    rw (q.1, q.2) (refused (list_all holds_activity c.args.lists.activities.items) (are_named (state_in c.args.format d p c.args.counts (lists_of c.args.lists))) c.in_err-activities.field-0.0 (activities_fail c.args.format d p c.args.counts (lists_of c.args.lists)) c.in_err-activities.ensures)

pub returns-in_err-rows : goal.returns-in_err-rows
returns-in_err-rows c = λ d p.
    let q = err_from_is_err_and c.from_residual-in_err-rows.result c.from_residual-in_err-rows.ensures.1 in
    rw (q.1, q.2) (refused (list_all holds_row c.args.lists.rows.items) (are_named (state_in c.args.format d p c.args.counts (lists_of c.args.lists))) c.in_err-rows.field-0.0 (rows_fail c.args.format d p c.args.counts (lists_of c.args.lists)) c.in_err-rows.ensures)
