-- One more element of a list is changed in place.
use Rattle.std.proofs.Common.{◌≡◌, ℕ, zero, suc, ◌+◌, ◌<◌, List, [], ◌∷◌, ◌++◌, length, get_or, take, drop, map, refl, ap, subst, arith}
use Rattle.std.specs.Prelude.{slice_set}

cells : {A : Type 0} (f : A → A) (old : List A) (i : ℕ) (d : A) → i < length old → slice_set (map f (take i old) ++ drop i old) i (f (get_or (map f (take i old) ++ drop i old) i d)) ≡ map f (take (suc i) old) ++ drop (suc i) old
cells f [] i d h = absurd (omega arith)
cells f (x ∷ xs) zero d h = refl
cells {A} f (x ∷ xs) (suc i) d h = ap (λ (l : List A). f x ∷ l) (cells f xs i d (omega arith))

-- those so far are changed, and this one too
pub one_more : {A : Type 0} (f : A → A) (old now : List A) (i : ℕ) (item made : A) → i < length old → now ≡ map f (take i old) ++ drop i old → made ≡ f (get_or now i item) → slice_set now i made ≡ map f (take (i + 1) old) ++ drop (i + 1) old
one_more {A} f old now i item made h e m =
    let next : suc i ≡ i + 1 = omega arith in
    let P : ℕ → Type 0 = λ n. slice_set now i made ≡ map f (take n old) ++ drop n old in
    subst P next (rw (m, e) (cells f old i item h))
