-- Attachments that are taken out of those that are listed, to be put in again.
use Rattle.std.specs.Prelude.{◌≡◌, ℕ, ◌||◌, false, List}
use Rattle.router_state.specs.declared.rows.Entity.{Entity}
use Rattle.router_state.specs.declared.rows.Link.{Link}
use Rattle.router_state.specs.Contexts.{is_linked}
use Rattle.router_order.specs.Listed.{IsListing}

-- Those that are left stay listed, and what goes from them comes to the others.
pub record IsTaken (old new before after : List Link) : Type 0 where
  pub listing : (entities : List Entity) → IsListing entities old → IsListing entities new
  pub members : (e a : ℕ) → (is_linked new e a || is_linked after e a) ≡ (is_linked old e a || is_linked before e a)
  pub fewer : (e a : ℕ) → is_linked old e a ≡ false → is_linked new e a ≡ false
