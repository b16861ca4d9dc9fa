-- What contracts see of the stores: the state, and for how many rows each list has room.
use Rattle.std.specs.Prelude.{ℕ, ◌+◌, ◌≤◌, List, [], ◌∷◌, length}
use Rattle.router_state.specs.State.{State}
use Rattle.router_state.specs.declared.change.Change.{Change}
use Rattle.router_state.specs.declared.change.Change.TheVariants as changes

-- how many more rows each list takes without memory
pub record Rooms : Type 0 where
  pub fields : ℕ
  pub entities : ℕ
  pub root_names : ℕ
  pub activities : ℕ
  pub attributes : ℕ
  pub links : ℕ
  pub names : ℕ
  pub masks : ℕ
  pub events : ℕ
  pub services_done : ℕ
  pub delivered : ℕ
  pub suspensions : ℕ
  pub timers : ℕ
  pub rows : ℕ
  -- attachments in the order of their paths
  pub by_path : ℕ
  -- activities on which a handler may run
  pub ready : ℕ

-- the state, and the room beside its lists
pub record StoresView : Type 0 where
  pub state : State
  pub rooms : Rooms

-- each list takes this many rows without memory
pub record HasRoom (n : ℕ) (s : StoresView) : Type 0 where
  pub fields : n ≤ s.rooms.fields
  pub entities : n ≤ s.rooms.entities
  pub root_names : n ≤ s.rooms.root_names
  pub activities : n ≤ s.rooms.activities
  pub attributes : n ≤ s.rooms.attributes
  pub links : n ≤ s.rooms.links
  pub names : n ≤ s.rooms.names
  pub masks : n ≤ s.rooms.masks
  pub events : n ≤ s.rooms.events
  pub services_done : n ≤ s.rooms.services_done
  pub delivered : n ≤ s.rooms.delivered
  pub suspensions : n ≤ s.rooms.suspensions
  pub timers : n ≤ s.rooms.timers
  pub rows : n ≤ s.rooms.rows
  pub by_path : n ≤ s.rooms.by_path
  pub ready : n ≤ s.rooms.ready

-- the most rows that a change adds to one list
abbrev pub width : Change → ℕ
width (changes.MaskOnAttach e a events) = length events
width c = 1

-- the same for changes one after another
abbrev pub widths : List Change → ℕ
widths [] = 0
widths (c ∷ cs) = width c + widths cs

-- at most this much of the room is used
pub record FallsBy (k : ℕ) (old new : StoresView) : Type 0 where
  pub left : (n : ℕ) → HasRoom (n + k) old → HasRoom n new
