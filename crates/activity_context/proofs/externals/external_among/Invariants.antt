-- none of the activities of the entries before this one has the name
use Rattle.std.proofs.Common.{◌≡◌}
use Rattle.router_state.specs.Contexts.{activity_at, has_name}
use Rattle.router_state.specs.declared.rows.Activity.{Activity}
use Rattle.rows_index.specs.Found.{first_found}
use Rattle.activity_context.proofs.externals.external_among.Given as goal

abbrev pub invariant-loop-entry : goal.invariant-loop-entry
invariant-loop-entry l =
    let passes = λ (row : Activity). has_name row.kind l.name in
    first_found (activity_at l.rows.rows) passes l.entry-iterator ≡ first_found (activity_at l.rows.rows) passes l.fn.entries
