-- Numbers that rise, each once.
use Rattle.std.proofs.Common.{◌≡◌, ℕ, suc, ◌+◌, ◌-◌, ◌<◌, ◌==◌, List, [], ◌∷◌, ◌++◌, Bool, true, false, refl, sym, ◌∙◌, ap, arith, nat_lt, nat_cmp, eqb, inl, inr}
use Rattle.std.specs.Prelude.{◌||◌, slice_index}
use Rattle.std.specs.List.{dedup, dedup_from}
use Rattle.std.specs.List.Sorted.{IsSorted, IsStrictlyIncreasing}
use Rattle.std.proofs.lemmas.Bool.{cases_Bool}
use Rattle.std.proofs.lemmas.Bool.Decides.{nat_tests}
use Rattle.std.proofs.lemmas.Map.Keys.{IsStrictlyIncreasing-dedup}
use Rattle.rows_sorted.specs.Orders.{rises_by}
use Rattle.router_laws_closing.specs.Loose.{is_member}
use Rattle.router_laws_closing.specs.TouchedRoots.{numbers_between}

-- numbers of which each is below the next rise

index_on : (x : ℕ) (xs : List ℕ) (k : ℕ) → slice_index (x ∷ xs) (k + 1) ≡ slice_index xs k
index_on x xs k = let next : k + 1 ≡ suc k = omega arith in rw next refl

from_first : (x y : ℕ) (ys : List ℕ) → IsStrictlyIncreasing (x ∷ y ∷ ys) → IsStrictlyIncreasing (y ∷ ys)
from_first x y ys rises k fits = omega (arith, rises (k + 1) (omega (arith, fits)), index_on x (y ∷ ys) k, index_on x (y ∷ ys) (k + 1))

rises_from : (xs : List ℕ) → IsStrictlyIncreasing xs → rises_by (λ (x y : ℕ). nat_lt x y) xs ≡ true
rises_from [] rises = refl
rises_from (x ∷ []) rises = refl
rises_from (x ∷ y ∷ ys) rises =
    let here : x < y = rises 0 (omega arith) in
    let more = rises_from (y ∷ ys) (from_first x y ys rises) in
    let low : nat_lt x y ≡ true = grind (arith, nat_tests, here) in
    rw (low, more) refl

pub rising_set : (xs : List ℕ) → IsSorted nat_cmp xs → rises_by (λ (x y : ℕ). nat_lt x y) (dedup eqb xs) ≡ true
rising_set xs sorted = rises_from (dedup eqb xs) (IsStrictlyIncreasing-dedup xs sorted)

-- what goes is there again

same_from : (k : ℕ) (xs : List ℕ) (n : ℕ) → is_member (dedup_from eqb k xs) n ≡ is_member (k ∷ xs) n
same_from k [] n = refl
same_from k (x ∷ xs) n = elim (cases_Bool (eqb x k)) [
  | inl same ↦ rw same (same_from k xs n ∙ by (k == n) (x == n) (is_member xs n) (alike k x n same))
  | inr other ↦ rw other (ap (λ b. (k == n) || b) (same_from x xs n))
]
  where
    alike : (k x n : ℕ) → eqb x k ≡ true → (x == n) ≡ (k == n)
    alike k x n same = grind (arith, nat_tests)

    by : (a b c : Bool) → b ≡ a → (a || c) ≡ (a || (b || c))
    by true b c is = refl
    by false b c is = rw is refl

pub same_members : (xs : List ℕ) (n : ℕ) → is_member (dedup eqb xs) n ≡ is_member xs n
same_members [] n = refl
same_members (x ∷ xs) n = same_from x xs n

-- a number more of those between two

joined : (xs : List ℕ) (y : ℕ) (ys : List ℕ) → (xs ++ y ∷ []) ++ ys ≡ xs ++ y ∷ ys
joined [] y ys = refl
joined (x ∷ xs) y ys = ap (λ zs. x ∷ zs) (joined xs y ys)

pub between_on : (xs all ys : List ℕ) (n last : ℕ) → n < last → all ≡ xs ++ n ∷ [] → xs ++ numbers_between n last ≡ ys → all ++ numbers_between (n + 1) last ≡ ys
between_on xs all ys n last low one whole =
    let more : last - n ≡ suc (last - (n + 1)) = omega (arith, low) in
    let split : numbers_between n last ≡ n ∷ numbers_between (n + 1) last = rw more refl in
    ap (λ zs. zs ++ numbers_between (n + 1) last) one ∙ joined xs n (numbers_between (n + 1) last) ∙ ap (λ zs. xs ++ zs) (sym split) ∙ whole

pub none_between : (n : ℕ) → numbers_between n n ≡ []
none_between n = let none : n - n ≡ 0 = omega arith in rw none refl
