-- What a line does, as code has it and as it is defined; and what it asks of the state, so that its changes can be made.
use Rattle.std.specs.Prelude.{nat_lt, Bool, true, is_none, IsTrue, length, Result, Ok, Err, map}
use Rattle.router_state.specs.State.{State}
use Rattle.router_state.specs.Contexts.{external, is_active}
use Rattle.router_steps.specs.declared.refusal.Refusal.{Refusal}
use Rattle.router_steps.specs.Actions.{Action, StartActivity, EndActivity, FireEvent, SetClock, ActivateService, StopService, ChangeRow, RowChange, RowAdded, RowUpdated, RowRemoved, change_of_row}
use Rattle.timer_facility.specs.Occurrences.{occurrence}
use Rattle.router_stores.specs.Making.{can_make}
use Rattle.router_inputs.specs.declared.action.Action.{Action as ActionInCode}
use Rattle.router_inputs.specs.declared.action.Action.TheVariants as actions
use Rattle.router_inputs.specs.declared.action.RowChange.{RowChange as RowChangeInCode}
use Rattle.router_inputs.specs.declared.action.RowChange.TheVariants as row_changes

-- how a row changes
abbrev pub row_change_in : RowChangeInCode → RowChange
row_change_in (row_changes.RowAdded values) = RowAdded values
row_change_in (row_changes.RowUpdated values) = RowUpdated values
row_change_in row_changes.RowRemoved = RowRemoved

-- what a line does
abbrev pub action_in : ActionInCode → Action
action_in (actions.StartActivity name) = StartActivity name
action_in (actions.EndActivity activity) = EndActivity activity.0
action_in (actions.FireEvent activity event fields target) = FireEvent activity.0 event fields target
action_in (actions.SetClock to suspensions occurrences) = SetClock to suspensions.items (map occurrence occurrences.items)
action_in (actions.ActivateService service) = ActivateService service
action_in (actions.StopService service activity) = StopService service activity.0
action_in (actions.ChangeRow table row change) = ChangeRow table row (row_change_in change)

-- what a line does, or why it is refused
abbrev pub answer_in : Result ActionInCode Refusal → Result Action Refusal
answer_in (Ok action) = Ok (action_in action)
answer_in (Err why) = Err why

-- the changes of what a line does can be made, while no number runs out
abbrev pub can_act : Action → State → Bool
can_act (StartActivity name) s = is_none (external s.activities name)
can_act (EndActivity a) s = is_active s.activities a
can_act (FireEvent a event fields target) s = true
can_act (SetClock to suspensions occurrences) s = true
can_act (ActivateService n) s = nat_lt n (length s.services)
can_act (StopService n a) s = nat_lt n (length s.services)
can_act (ChangeRow table row change) s = can_make (change_of_row table row change) s

-- a refused line changes nothing but the count of lines
abbrev pub can_take : Result Action Refusal → State → Bool
can_take (Ok action) s = can_act action s
can_take (Err why) s = true

-- the same as a statement
abbrev pub CanTake : Result Action Refusal → State → Type 0
CanTake answer s = IsTrue (can_take answer s)
