-- What is seen of activity contexts.
use Rattle.std.specs.Prelude.{ℕ, Bool, nat_lt, ◌≤◌, List}
use Rattle.slee_value.specs.declared.ids.ActivityId.{ActivityId}
use Rattle.slee_value.specs.declared.ids.EntityId.{EntityId}
use Rattle.slee_value.specs.declared.value.Value.{Value}
use Rattle.router_state.specs.declared.rows.Activity.{Activity}
use Rattle.router_state.specs.declared.rows.Attribute.{Attribute}
use Rattle.router_state.specs.declared.rows.Link.{Link}
use Rattle.router_state.specs.declared.rows.Named.{Named}

-- for how many rows there is room in each list
pub record Rooms : Type 0 where
  pub activities : ℕ
  pub attributes : ℕ
  pub links : ℕ
  pub names : ℕ

-- the lists, the number that the next activity has, and the room
pub record ContextsView : Type 0 where
  pub activities : List Activity
  pub attributes : List Attribute
  pub links : List Link
  pub names : List Named
  -- the names again, in the order in which they are kept
  pub names_kept : List Named
  pub next : ℕ
  pub rooms : Rooms

-- the activities alone, and for how many there is room
pub record ActivitiesView : Type 0 where
  pub activities : List Activity
  pub room : ℕ

-- the names alone, in byte order and as they are kept, and for how many there is room
pub record NamesView : Type 0 where
  pub names : List Named
  pub kept : List Named
  pub room : ℕ

-- there is room for so many rows in each list
pub record HasRoom (n : ℕ) (rooms : Rooms) : Type 0 where
  pub activities : n ≤ rooms.activities
  pub attributes : n ≤ rooms.attributes
  pub links : n ≤ rooms.links
  pub names : n ≤ rooms.names

-- by number
abbrev pub activity_before : Activity → Activity → Bool
activity_before x y = nat_lt x.number.0 y.number.0

-- the entity and the activity of an attachment
abbrev pub parts_of_link : Link → EntityId × ActivityId
parts_of_link row = (row.entity, row.activity)

-- a name and its activity
abbrev pub parts_of_name : Named → List ℕ × ActivityId
parts_of_name row = (row.name, row.activity)

-- the activity, the key and the value of an attribute
abbrev pub parts_of_attribute : Attribute → ActivityId × List ℕ × Value
parts_of_attribute row = (row.activity, row.key, row.value)
