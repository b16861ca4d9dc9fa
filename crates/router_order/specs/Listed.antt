-- The order in which attachments are listed, and how such a list agrees with the attachments.
use Rattle.std.specs.Prelude.{◌≡◌, ℕ, ◌==◌, nat_lt, nat_le, Bool, ◌&&◌, ◌||◌, true, IsTrue, List}
use Rattle.std.specs.List.{AllByRecursion}
use Rattle.router_state.specs.declared.rows.Entity.{Entity}
use Rattle.router_state.specs.declared.rows.Link.{Link}
use Rattle.rows_sorted.specs.Orders.{rises_by}
use Rattle.router_state.specs.Paths.{path_before}
use Rattle.router_state.specs.Contexts.{is_linked}
use Rattle.entity_tree.specs.Kept.{is_entity}
use Rattle.entity_tree.specs.Climbing.{path_at}

-- what contracts see of the order: the attachments as they are listed, and how many more can be listed without memory
pub record OrderView : Type 0 where
  pub rows : List Link
  pub room : ℕ

-- by activity, then by the path of the entity
abbrev pub listed_before : List Entity → Link → Link → Bool
listed_before entities x y = nat_lt x.activity.0 y.activity.0 || ((x.activity.0 == y.activity.0) && path_before (path_at entities x.entity.0) (path_at entities y.entity.0))

-- the attachments to one activity are listed side by side, the lower activity first
abbrev pub IsByActivity : List Link → Type 0
IsByActivity rows = IsTrue (rises_by (λ x y. nat_le x.activity.0 y.activity.0) rows)

-- the list rises, and its entities are in the tree
pub record IsListing (entities : List Entity) (rows : List Link) : Type 0 where
  pub rises : IsTrue (rises_by (listed_before entities) rows)
  pub there : AllByRecursion (λ row. is_entity entities row.entity.0 ≡ true) rows

-- The list has exactly these attachments, each once, and rises by path on each activity.
pub record Agrees (entities : List Entity) (links rows : List Link) : Type 0 where
  pub listing : IsListing entities rows
  pub members : (e a : ℕ) → is_linked rows e a ≡ is_linked links e a
