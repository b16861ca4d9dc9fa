-- What the store of entities keeps of how deep they stand.
use Rattle.std.specs.Prelude.{◌≡◌, ℕ, ◌==◌, nat_lt, Bool, if◌then◌else◌, List, find, length, map}
use Rattle.std.specs.Option.{option_map_or}
use Rattle.router_state.specs.declared.rows.Entity.{Entity}
use Rattle.rows_sorted.specs.Keys.{Key, number_key}
use Rattle.entity_tree.specs.declared.depths.Depth.{Depth}
use Rattle.entity_tree.specs.Kept.{is_entity}
use Rattle.entity_tree.specs.Climbing.{path_at}

-- the key of a depth: the number of its entity
abbrev pub depth_key : Depth → Key
depth_key depth = number_key depth.entity.0

-- depths stand by entity
abbrev pub depth_before : Depth → Depth → Bool
depth_before x y = nat_lt x.entity.0 y.entity.0

-- the depth that is kept of the entity of this number, and 0 where none is
abbrev pub depth_at : List Depth → ℕ → ℕ
depth_at depths e = option_map_or (λ depth. depth.steps) (find (λ depth. depth.entity.0 == e) depths) 0

-- the path of the entity of this number has so many steps
abbrev pub with_steps : List Depth → ℕ → ℕ → List Depth
with_steps depths e steps = map (λ (depth : Depth). if depth.entity.0 == e then record depth { steps = steps } else depth) depths

-- the depth kept of an entity is the length of its path
abbrev pub AreDepths : List Entity → List Depth → Type 0
AreDepths rows depths = (e : ℕ) → depth_at depths e ≡ length (path_at rows e)

-- some depth is kept of each entity, right or not, and none of other numbers
abbrev pub HasDepths : List Entity → List Depth → Type 0
HasDepths rows depths = (e : ℕ) → nat_lt 0 (depth_at depths e) ≡ is_entity rows e
