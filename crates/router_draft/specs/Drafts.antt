-- A step while it is planned.
use Rattle.std.specs.Prelude.{ℕ, List, ◌<◌, ◌≤◌, ◌^◌, IsTrue}
use Rattle.std.specs.List.{AllByRecursion}
use Rattle.router_state.specs.State.{State}
use Rattle.router_state.specs.Trees.{number_of, parent_of}
use Rattle.rows_sorted.specs.Orders.{rises_in}
use Rattle.router_state.specs.Changes.{after_changes}
use Rattle.router_state.specs.declared.change.Change.{Change}
use Rattle.router_stores.specs.Making.{CanMakeAll}

-- the changes and the lines so far
pub record DraftView : Type 0 where
  pub changes : List Change
  pub lines : List (List ℕ)

-- the state with the changes so far laid over it
abbrev pub laid : State → DraftView → State
laid s draft = after_changes draft.changes s

-- each change so far can be made at its turn
abbrev pub CanBeMade : State → DraftView → Type 0
CanBeMade s draft = CanMakeAll draft.changes s

-- the counts go on far enough for another step
pub record IsLow (s : State) : Type 0 where
  pub inputs : s.inputs ≤ 2 ^ 62
  pub entity : s.next_entity ≤ 2 ^ 62
  pub activity : s.next_activity ≤ 2 ^ 62
  pub timer : s.next_timer ≤ 2 ^ 62
  pub event : s.next_event ≤ 2 ^ 62

-- entities stand by number, below the next one, and a parent's number is below its child's
pub record AreTrees (s : State) : Type 0 where
  pub rising : IsTrue (rises_in number_of s.entities)
  pub below : AllByRecursion (λ row. parent_of row < row.number.0) s.entities
  pub drawn : AllByRecursion (λ row. row.number.0 < s.next_entity) s.entities
  pub first : 0 < s.next_entity
