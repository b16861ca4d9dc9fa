-- A row changes, and the next event stays the next one.
use Rattle.std.proofs.Common.{◌≡◌, ℕ, List, refl}
use Rattle.router_state.specs.State.{State}
use Rattle.router_state.specs.Changes.{after_change}
use Rattle.router_steps.specs.Actions.{RowChange, RowAdded, RowUpdated, RowRemoved, change_of_row}

pub same_next : (table : ℕ) (row : List ℕ) (change : RowChange) (s : State) → (after_change (change_of_row table row change) s).next_event ≡ s.next_event
same_next table row (RowAdded values) s = refl
same_next table row (RowUpdated values) s = refl
same_next table row RowRemoved s = refl
