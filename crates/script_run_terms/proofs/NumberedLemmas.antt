-- One of a list where something holds of what the list is seen as.
use Rattle.std.proofs.Common.{◌≡◌, ◌<◌, ℕ, zero, suc, List, [], ◌∷◌, length, get_or, map, sym, ap, subst, arith}
use Rattle.std.specs.List.{AllByRecursion}

pub mapped_at : {A B : Type 0} (f : A → B) (P : B → Type 0) (xs : List A) (i : ℕ) (x : A) → i < length xs → x ≡ get_or xs i x → AllByRecursion P (map f xs) → P (f x)
mapped_at f P [] i x lt is h = absurd (omega arith)
mapped_at f P (y ∷ xs) zero x lt is h = subst P (ap f (sym is)) h.0
mapped_at f P (y ∷ xs) (suc i) x lt is h = mapped_at f P xs i x (omega arith) is h.1
