-- the names under the activity's entries are its own
use Rattle.std.proofs.Common.{ap, ◌∙◌, ◌==◌}
use Rattle.std.specs.Prelude.{not}
use Rattle.std.specs.List.{filter}
use Rattle.router_state.specs.declared.rows.Named.{Named}
use Rattle.rows_index.specs.declared.entry.Entry.{Entry}
use Rattle.activity_context.specs.Naming.{in_byte_order}
use Rattle.activity_context.proofs.FilingLemmas.{filed_filter, order_filter, others_found, others_needed, under_activity}
use Rattle.activity_context.proofs.filing.cut_names_of.Goals as goal

pub returns-clause-names : goal.returns-clause-names
returns-clause-names c =
    let a = c.args.activity.0 in
    let rows = c.args.rows.now.rows in
    let under = rw c.rows_of.ensures at c.cut_under.ensures.rows in
    ap in_byte_order (under ∙ under_activity a rows c.args.entries.now.rows c.requires.found)
    ∙ order_filter (λ (row : Named). not (row.activity.0 == a)) rows c.requires.once

pub returns-clause-filed : goal.returns-clause-filed
returns-clause-filed c =
    let a = c.args.activity.0 in
    let rows = c.args.rows.now.rows in
    let entries = c.args.entries.now.rows in
    let under = rw c.rows_of.ensures at c.cut_under.ensures.rows in
    rw (under ∙ under_activity a rows entries c.requires.found, c.cut_rows_of.ensures.rows)
    (filed_filter (λ (row : Named). not (row.activity.0 == a)) rows entries (filter (λ (e : Entry). not (e.key == a)) entries) c.requires (others_found a rows entries c.requires.found) (others_needed a rows entries c.requires.needed))
