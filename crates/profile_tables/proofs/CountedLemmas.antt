-- A name after the other.
use Rattle.std.proofs.Common.{◌≡◌, ℕ, Bool, true, ◌+◌, ◌<◌, List, ◌∷◌, drop, length, slice_index_or, refl}
use Rattle.std.specs.Prelude.{◌||◌}
use Rattle.std.proofs.Math.Bool.{or-true}
use Rattle.std.proofs.Math.Seq.{drop-cons}
use Rattle.std.proofs.Math.Numerals.{add-one}

pub next_name : {X : Type 0} (xs : List X) (i : ℕ) (x : X) → i < length xs → x ≡ slice_index_or xs i x → drop i xs ≡ x ∷ drop (i + 1) xs
next_name xs i x within is = rw (drop-cons xs i x within, ← is, add-one) refl

pub any_or : (a b : Bool) → b ≡ true → (a || b) ≡ true
any_or a b is = rw is (or-true a)
