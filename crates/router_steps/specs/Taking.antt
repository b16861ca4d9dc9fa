-- Taking a line: the state after what it does, before closing, and its lines.
use Rattle.std.specs.Prelude.{ℕ, if◌then◌else◌, List, [], ◌∷◌, ◌++◌, codes, Some, None, Result, Ok, Err}
use Rattle.built_in_events.specs.declared.built_in.BuiltInEvent.TheVariants as built_in_events
use Rattle.built_in_events.specs.BuiltIn.{name_of as built_in_name}
use Rattle.slee_value.specs.declared.value.Value.{Value}
use Rattle.slee_value.specs.declared.value.Value.TheVariants as values
use Rattle.deploy_model.specs.Deployed.{service_key}
use Rattle.router_state.specs.State.{State}
use Rattle.router_state.specs.Changes.{after_change}
use Rattle.router_state.specs.Contexts.{is_active}
use Rattle.router_state.specs.Initial.{table_activity}
use Rattle.router_state.specs.declared.change.Change.TheVariants as changes
use Rattle.router_state.specs.declared.rows.AcKind.TheVariants as kinds
use Rattle.router_state.specs.declared.rows.ServiceState.TheVariants as states
use Rattle.router_state.specs.declared.rows.Suspension.{Suspension}
use Rattle.router_steps.specs.declared.refusal.Refusal.{Refusal}
use Rattle.router_steps.specs.Actions.{Action, StartActivity, EndActivity, FireEvent, SetClock, ActivateService, StopService, ChangeRow, RowChange, change_of_row, event_of_row}
use Rattle.router_steps.specs.Lines.{refused_line, started_line, service_line}
use Rattle.router_steps.specs.Moves.{queued, lines_of_queued, ended, lines_of_ended, resumed, lines_of_resumed, with_service}
use Rattle.router_state.specs.Timing.{Occurrence}

-- suspensions end, one after another
abbrev pub all_resumed : List Suspension → State → State
all_resumed [] s = s
all_resumed (row ∷ rows) s = all_resumed rows (resumed s row.activity.0)

-- their lines
abbrev pub lines_of_all_resumed : List Suspension → State → List (List ℕ)
lines_of_all_resumed [] s = []
lines_of_all_resumed (row ∷ rows) s = lines_of_resumed s row.activity.0 ++ lines_of_all_resumed rows (resumed s row.activity.0)

-- an occurrence of a timer is queued on its activity, with the timer
abbrev pub occurred : Occurrence → State → State
occurred x s = queued s x.activity (built_in_name built_in_events.Timer) ((codes "which", values.Timer (record { 0 = x.timer })) ∷ []) None

-- the same of several occurrences, one after another
abbrev pub all_occurred : List Occurrence → State → State
all_occurred [] s = s
all_occurred (x ∷ xs) s = all_occurred xs (occurred x s)

-- their lines
abbrev pub lines_of_all_occurred : List Occurrence → State → List (List ℕ)
lines_of_all_occurred [] s = []
lines_of_all_occurred (x ∷ xs) s = lines_of_queued s x.activity (built_in_name built_in_events.Timer) ++ lines_of_all_occurred xs (occurred x s)

-- The clock stands at the moment, these suspensions have ended, due occurrences are used up, and these are queued.
abbrev pub clocked : ℕ → List Suspension → List Occurrence → State → State
clocked to suspensions occurrences s =
    all_occurred occurrences (after_change (changes.Advance to) (all_resumed suspensions (after_change (changes.Clock to) s)))

-- The service is Active, with a new activity, on which its start waits for it alone (JSR 240, chapter 9).
abbrev pub activated : ℕ → State → State
activated n s =
    queued (with_service (after_change (changes.Start (kinds.Service n)) s) n states.Active s.next_activity) s.next_activity (built_in_name built_in_events.ServiceStarted) [] (Some n)

-- its lines
abbrev pub lines_of_activated : ℕ → State → List (List ℕ)
lines_of_activated n s =
    service_line (service_key s.deployment n) (codes "active")
    ∷ started_line s.next_activity (codes "service " ++ service_key s.deployment n)
    ∷ lines_of_queued s s.next_activity (built_in_name built_in_events.ServiceStarted)

-- the activity of this number ends where it is Active
abbrev pub ended_if : ℕ → State → State
ended_if a s = if is_active s.activities a then ended s a else s

-- its lines
abbrev pub lines_of_ended_if : ℕ → State → List (List ℕ)
lines_of_ended_if a s = if is_active s.activities a then lines_of_ended s a else []

-- A row changes, and this is told on its table's activity, with the row's name (JSR 240, chapter 10).
abbrev pub row_changed : ℕ → List ℕ → RowChange → State → State
row_changed table row change s =
    queued (after_change (change_of_row table row change) s) (table_activity table) (event_of_row change) ((codes "row", values.Text row) ∷ []) None

-- the state after what a line does
abbrev pub after_action : Action → State → State
after_action (StartActivity name) s = after_change (changes.Start (kinds.External name)) s
after_action (EndActivity a) s = ended s a
after_action (FireEvent a event fields target) s = queued s a event fields target
after_action (SetClock to suspensions occurrences) s = clocked to suspensions occurrences s
after_action (ActivateService n) s = activated n s
after_action (StopService n a) s = ended_if a (with_service s n states.Stopping a)
after_action (ChangeRow table row change) s = row_changed table row change s

-- its lines
abbrev pub lines_of_action : Action → State → List (List ℕ)
lines_of_action (StartActivity name) s = started_line s.next_activity name ∷ []
lines_of_action (EndActivity a) s = lines_of_ended s a
lines_of_action (FireEvent a event fields target) s = lines_of_queued s a event
lines_of_action (SetClock to suspensions occurrences) s = lines_of_all_resumed suspensions s ++ lines_of_all_occurred occurrences s
lines_of_action (ActivateService n) s = lines_of_activated n s
lines_of_action (StopService n a) s = service_line (service_key s.deployment n) (codes "stopping") ∷ lines_of_ended_if a s
lines_of_action (ChangeRow table row change) s = lines_of_queued s (table_activity table) (event_of_row change)

-- one more line was taken
abbrev pub counted : State → State
counted s = after_change changes.Taken s

-- The state after a line. A refused line changes the count of inputs alone.
abbrev pub taken : Result Action Refusal → State → State
taken (Ok action) s = after_action action (counted s)
taken (Err why) s = counted s

-- the line of a refusal, or those of what the line does
abbrev pub lines_of_taken : Result Action Refusal → State → List (List ℕ)
lines_of_taken (Ok action) s = lines_of_action action s
lines_of_taken (Err why) s = refused_line why ∷ []
