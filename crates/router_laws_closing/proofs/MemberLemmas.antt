-- Members of lists.
use Rattle.std.proofs.Common.{◌≡◌, ℕ, zero, suc, ◌+◌, ◌-◌, ◌<◌, ◌≤◌, ◌⊎◌, inl, inr, Bool, true, List, [], ◌∷◌, ◌++◌, filter, map, flat_map, refl, ap, subst, arith}
use Rattle.std.specs.List.{range_with_len}
use Rattle.router_laws.specs.Forest.{IsIn}
use Rattle.std.specs.List.{list_any}
use Rattle.std.proofs.lemmas.Bool.{cases_Bool}
use Rattle.router_laws.proofs.ForestLemmas.{in_either, in_left, in_right}
use Rattle.router_laws.proofs.ListRules.{in_filter}
use Rattle.router_laws_closing.specs.TouchedRoots.{numbers_between}

-- a member of one of the lists that elements give is one of all
pub in_flat : {X : Type 0} {Y : Type 0} (f : X → List Y) (x : X) (y : Y) (xs : List X) → IsIn x xs → IsIn y (f x) → IsIn y (flat_map f xs)
in_flat f x y [] is there = elim is [ ]
in_flat f x y (z ∷ zs) (inl same) there = in_left y (f z) (flat_map f zs) (subst (λ w. IsIn y (f w)) same there)
in_flat f x y (z ∷ zs) (inr more) there = in_right y (f z) (flat_map f zs) (in_flat f x y zs more there)

pub in_map : {X : Type 0} {Y : Type 0} (f : X → Y) (x : X) (xs : List X) → IsIn x xs → IsIn (f x) (map f xs)
in_map f x [] is = elim is [ ]
in_map f x (z ∷ zs) (inl same) = inl (ap f same)
in_map f x (z ∷ zs) (inr more) = inr (in_map f x zs more)

in_range : (first n x : ℕ) → first ≤ x → x < first + n → IsIn x (range_with_len first n)
in_range first zero x low high = absurd (omega (arith, low, high))
in_range first (suc n) x low high = elim (either first x low) [
  | inl same ↦ inl same
  | inr above ↦ inr (in_range (first + 1) n x (omega (arith, above)) (omega (arith, high)))
]
  where
    either : (a b : ℕ) → a ≤ b → (b ≡ a) ⊎ (a < b)
    either zero zero low = inl refl
    either zero (suc b) low = inr (omega arith)
    either (suc a) zero low = absurd (omega (arith, low))
    either (suc a) (suc b) low = elim (either a b (omega (arith, low))) [
      | inl same ↦ inl (ap suc same)
      | inr less ↦ inr (omega (arith, less))
    ]

pub in_between : (first last x : ℕ) → first ≤ x → x < last → IsIn x (numbers_between first last)
in_between first last x low high = in_range first (last - first) x low (omega (arith, low, high))

-- a member of a list in which a row was put
pub in_put : {X : Type 0} (before : X → X → Bool) (row x : X) (rows : List X) → IsIn x (filter (λ y. before y row) rows ++ row ∷ filter (λ y. before row y) rows) → (x ≡ row) ⊎ IsIn x rows
in_put before row x rows is = elim (in_either x (filter (λ y. before y row) rows) (row ∷ filter (λ y. before row y) rows) is) [
  | inl first ↦ inr (in_filter (λ y. before y row) x rows first).0
  | inr rest ↦ elim rest [
    | inl same ↦ inl same
    | inr last ↦ inr (in_filter (λ y. before row y) x rows last).0
  ]
]

-- the first element that passes a test
pub some_passes : {X : Type 0} (p : X → Bool) (xs : List X) → list_any p xs ≡ true → (x : X) × IsIn x xs × (p x ≡ true)
some_passes p [] is = absurd (cc)
some_passes p (x ∷ xs) is = elim (cases_Bool (p x)) [
  | inl own ↦ (x, inl refl, own)
  | inr other ↦ let found = some_passes p xs (rw other at is) in (found.0, inr found.1, found.2)
]
