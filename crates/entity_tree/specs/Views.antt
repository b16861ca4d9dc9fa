-- What contracts see of the store of entities.
use Rattle.std.specs.Prelude.{ℕ, List}
use Rattle.router_state.specs.declared.rows.Entity.{Entity}

-- the entities, by number; the number of the next one; and how many more can be added without memory
pub record TreeView : Type 0 where
  pub rows : List Entity
  pub next : ℕ
  pub room : ℕ
