-- The activities of a list that are ready.
use Rattle.std.specs.Prelude.{if◌then◌else◌, List, [], ◌∷◌}
use Rattle.router_state.specs.declared.rows.Activity.{Activity}
use Rattle.router_state.specs.declared.rows.Queued.{Queued}
use Rattle.router_state.specs.declared.rows.Suspension.{Suspension}
use Rattle.router_stores.specs.Ready.{is_ready}
use Rattle.router_stores.specs.declared.ready.Ready.{Ready}

-- those on which an event waits that isn't suspended, in their order
abbrev pub ready_among : List Queued → List Suspension → List Activity → List Ready
ready_among events suspensions [] = []
ready_among events suspensions (row ∷ rows) =
    if is_ready events suspensions row.number.0 then record { activity = row.number } ∷ ready_among events suspensions rows
    else ready_among events suspensions rows
