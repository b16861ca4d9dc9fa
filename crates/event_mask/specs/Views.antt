-- What contracts see of the store of event masks.
use Rattle.std.specs.Prelude.{ℕ, List}
use Rattle.router_state.specs.declared.rows.Mask.{Mask}

-- the masks, by activity, then by entity, then by event, and how many more can be added without memory
pub record MasksView : Type 0 where
  pub rows : List Mask
  pub room : ℕ
