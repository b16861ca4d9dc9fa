-- What a search among numbers in order finds.
use Rattle.std.proofs.Common.{◌≡◌, ℕ, zero, suc, ◌+◌, ◌<◌, ◌≤◌, ◌==◌, true, false, List, [], ◌∷◌, Result, Ok, Err, length, get_or, refl, sym, ap, ◌∙◌, arith, inl, inr}
use Rattle.std.specs.Prelude.{is_ok, nat_lt}
use Rattle.std.specs.List.{list_any}
use Rattle.std.specs.List.Sorted.{IsNonDecreasing, IsBinarySearchResult}
use Rattle.std.specs.Ordering.{nat_cmp}
use Rattle.std.proofs.lemmas.Bool.{cases_Bool}
use Rattle.std.proofs.lemmas.Bool.Decides.{nat_tests}
use Rattle.std.proofs.lemmas.List.Sorted.{searched}

later : (x : ℕ) (ys : List ℕ) (k : ℕ) → get_or (x ∷ ys) (k + 1) 0 ≡ get_or ys k 0
later x ys k = let next : k + 1 ≡ suc k = omega arith in rw next refl

-- a number that stands in some place is one of them
found : (x : ℕ) (xs : List ℕ) (i : ℕ) → i < length xs → get_or xs i 0 ≡ x → list_any (λ y. y == x) xs ≡ true
found x [] i within is = absurd (omega (arith, within))
found x (y ∷ ys) zero within is = let same : (y == x) ≡ true = grind (arith, nat_tests, is) in rw same refl
found x (y ∷ ys) (suc i) within is = elim (cases_Bool (y == x)) [
  | inl same ↦ rw same refl
  | inr other ↦ rw other (found x ys i (omega (arith, within)) is)
]

-- a number that stands in no place isn't
absent : (x : ℕ) (xs : List ℕ) → ((k : ℕ) → k < length xs → (get_or xs k 0 == x) ≡ false) → list_any (λ y. y == x) xs ≡ false
absent x [] none = refl
absent x (y ∷ ys) none =
    let first : (y == x) ≡ false = none 0 (omega arith) in
    rw first (absent x ys (λ k within. ap (λ n. n == x) (sym (later y ys k)) ∙ none (k + 1) (omega (arith, within))))

apart : (x y : ℕ) → y < x → (y == x) ≡ false
apart x y low = grind (arith, nat_tests, low)

apart_high : (x y : ℕ) → x < y → (y == x) ≡ false
apart_high x y high = grind (arith, nat_tests, high)

less : (k i : ℕ) → nat_lt k i ≡ true → k < i
less k i low = grind (arith, nat_tests, low)

no_less : (k i : ℕ) → nat_lt k i ≡ false → i ≤ k
no_less k i high = grind (arith, nat_tests, high)

pub found_is : (xs : List ℕ) (x : ℕ) (r : Result ℕ ℕ) → IsBinarySearchResult (λ y. nat_cmp y x) xs r → IsNonDecreasing xs → is_ok r ≡ list_any (λ y. y == x) xs
found_is xs x (Ok i) result up = let one = searched xs x (Ok i) result (λ a b low high. up a b 0 low high) in sym (found x xs i one.0 one.1)
found_is xs x (Err i) result up =
    let one = searched xs x (Err i) result (λ a b low high. up a b 0 low high) in
    sym (absent x xs (λ k within. elim (cases_Bool (nat_lt k i)) [
      | inl low ↦ apart x (get_or xs k 0) (one.1 k (less k i low))
      | inr high ↦ apart_high x (get_or xs k 0) (one.2 k (no_less k i high) within)
    ]))
