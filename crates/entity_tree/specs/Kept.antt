-- What the store of entities keeps: a parent has a lower number than its children, and an index has the children of each parent.
use Rattle.std.specs.Prelude.{◌≡◌, ℕ, ◌<◌, ◌==◌, nat_lt, Bool, is_some, List, map, filter}
use Rattle.std.specs.List.{AllByRecursion}
use Rattle.std.specs.Option.{option_map_or}
use Rattle.slee_value.specs.declared.ids.EntityId.{EntityId}
use Rattle.router_state.specs.declared.rows.Entity.{Entity}
use Rattle.router_state.specs.Trees.{entity_at, parent_of, children}
use Rattle.rows_sorted.specs.Keys.{Key, pair_key}
use Rattle.entity_tree.specs.declared.branch.Branch.{Branch}

-- entities stand by number
abbrev pub entity_before : Entity → Entity → Bool
entity_before x y = nat_lt x.number.0 y.number.0

-- the entity is there
abbrev pub is_entity : List Entity → ℕ → Bool
is_entity rows e = is_some (entity_at rows e)

-- the number of the parent of the entity of this number, and 0 where it has none
abbrev pub parent_at : List Entity → ℕ → ℕ
parent_at rows e = option_map_or parent_of (entity_at rows e) 0

-- the numbers that identities have
abbrev pub numbers_of : List EntityId → List ℕ
numbers_of ids = map (λ id. id.0) ids

-- a parent's number is below its child's
abbrev pub AreParents : List Entity → Type 0
AreParents rows = AllByRecursion (λ row. parent_of row < row.number.0) rows

-- numbers are below the next one, and a parent's number is below its child's
pub record AreEntities (next : ℕ) (rows : List Entity) : Type 0 where
  pub below : AllByRecursion (λ row. row.number.0 < next) rows
  pub parents : AreParents rows
  pub from_one : 0 < next

-- the key of an entity below its parent: both numbers
abbrev pub branch_key : Branch → Key
branch_key branch = pair_key branch.parent.0 branch.number.0

-- an entity below its parent
abbrev pub branch_of : Entity → Branch
branch_of row = record { parent = record { 0 = parent_of row }; number = row.number }

-- the index has the children of each parent, in their order
abbrev pub IsIndex : List Entity → List Branch → Type 0
IsIndex rows branches = (p : ℕ) → filter (λ branch. branch.parent.0 == p) branches ≡ map branch_of (children rows p)
