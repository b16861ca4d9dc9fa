-- Attachments by their pairs of numbers.
use Rattle.std.proofs.Common.{◌≡◌, ℕ, Bool, true, false, refl}
use Rattle.std.specs.Prelude.{◌&&◌, ◌==◌}
use Rattle.router_state.specs.Contexts.{is_link}
use Rattle.router_state.specs.declared.rows.Link.{Link}
use Rattle.rows_sorted.specs.Keys.{is_pair}
use Rattle.router_state.specs.Keys.{link_key}

turned : (p q : Bool) → (p && q) ≡ (q && p)
turned true true = refl
turned true false = refl
turned false true = refl
turned false false = refl

-- the pair of an attachment is that of the two
pub link_is : (e a : ℕ) (l : Link) → is_pair a e (link_key l) ≡ is_link e a l
link_is e a l = turned (l.activity.0 == a) (l.entity.0 == e)
