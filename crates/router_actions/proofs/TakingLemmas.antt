-- A line that is counted can do the same, with the same lines.
use Rattle.std.proofs.Common.{◌≡◌, ℕ, List, ◌++◌, refl}
use Rattle.router_state.specs.State.{State}
use Rattle.router_steps.specs.Actions.{Action, StartActivity, EndActivity, FireEvent, SetClock, ActivateService, StopService, ChangeRow, RowAdded, RowUpdated, RowRemoved}
use Rattle.router_steps.specs.Taking.{counted, lines_of_action}
use Rattle.router_inputs.specs.Acting.{can_act}
use Rattle.router_actions.proofs.ClockLemmas.{occurred_same, resumed_same}

pub still_can : (action : Action) (s : State) → can_act action (counted s) ≡ can_act action s
still_can (StartActivity name) s = refl
still_can (EndActivity a) s = refl
still_can (FireEvent a event fields target) s = refl
still_can (SetClock to suspensions occurrences) s = refl
still_can (ActivateService n) s = refl
still_can (StopService n a) s = refl
still_can (ChangeRow table row (RowAdded values)) s = refl
still_can (ChangeRow table row (RowUpdated values)) s = refl
still_can (ChangeRow table row RowRemoved) s = refl

same_lines : (action : Action) (s : State) → lines_of_action action (counted s) ≡ lines_of_action action s
same_lines (StartActivity name) s = refl
same_lines (EndActivity a) s = refl
same_lines (FireEvent a event fields target) s = refl
same_lines (SetClock to suspensions occurrences) s =
    let one = resumed_same suspensions (counted s) s refl refl in
    let two = occurred_same occurrences (counted s) s refl in
    rw (one, two) refl
same_lines (ActivateService n) s = refl
same_lines (StopService n a) s = refl
same_lines (ChangeRow table row change) s = refl

pub lines_counted : (lines : List (List ℕ)) (action : Action) (s : State) → lines ++ lines_of_action action (counted s) ≡ lines ++ lines_of_action action s
lines_counted lines action s = rw (same_lines action s) refl
