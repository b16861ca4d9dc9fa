-- Sums of a measure over lists that are filtered, mapped and joined, and what a sum says of the rows.
use Rattle.std.proofs.Common.{◌≡◌, ℕ, zero, suc, ◌+◌, ◌<◌, Bool, true, false, cond, List, [], ◌∷◌, map, refl, sym, ap, ◌∙◌, arith, inl, inr}
use Rattle.std.specs.List.{AllByRecursion, filter, flat_map, sum_by}
use Rattle.std.proofs.lemmas.Bool.{cases_Bool}
use Rattle.std.proofs.lemmas.List.Sums.{sum_by-cons, sum_by-append}

-- the measure of those that pass, and 0 of the others
abbrev pub if_passes : {X : Type 0} → (X → Bool) → (X → ℕ) → X → ℕ
if_passes p f x = cond (p x) (f x) 0

-- 1 of those that pass, and 0 of the others
abbrev pub one_if : {X : Type 0} → (X → Bool) → X → ℕ
one_if p x = cond (p x) 1 0

sum_cond : {X : Type 0} (f : X → ℕ) (b : Bool) (x : X) (us : List X) → sum_by f (cond b (x ∷ us) us) ≡ cond b (f x) 0 + sum_by f us
sum_cond f true x us = sum_by-cons f x us
sum_cond f false x us = omega arith

pub sum_filter : {X : Type 0} (f : X → ℕ) (p : X → Bool) (xs : List X) → sum_by f (filter p xs) ≡ sum_by (if_passes p f) xs
sum_filter f p [] = refl
sum_filter f p (x ∷ xs) = sum_cond f (p x) x (filter p xs) ∙ ap (λ n. cond (p x) (f x) 0 + n) (sum_filter f p xs) ∙ sym (sum_by-cons (if_passes p f) x xs)

pub sum_mapped : {X Y : Type 0} (f : Y → ℕ) (g : X → Y) (xs : List X) → sum_by f (map g xs) ≡ sum_by (λ x. f (g x)) xs
sum_mapped f g [] = refl
sum_mapped f g (x ∷ xs) = sum_by-cons f (g x) (map g xs) ∙ ap (λ n. f (g x) + n) (sum_mapped f g xs) ∙ sym (sum_by-cons (λ x. f (g x)) x xs)

pub sum_agree : {X : Type 0} (f g : X → ℕ) (xs : List X) → AllByRecursion (λ x. f x ≡ g x) xs → sum_by f xs ≡ sum_by g xs
sum_agree f g [] all = refl
sum_agree f g (x ∷ xs) all = sum_by-cons f x xs ∙ (rw (all.0, sum_agree f g xs all.1) (sym (sum_by-cons g x xs)))

pub sum_flat : {X Y : Type 0} (f : Y → ℕ) (g : X → List Y) (xs : List X) → sum_by f (flat_map g xs) ≡ sum_by (λ x. sum_by f (g x)) xs
sum_flat f g [] = refl
sum_flat f g (x ∷ xs) = sum_by-append f (g x) (flat_map g xs) ∙ ap (λ n. sum_by f (g x) + n) (sum_flat f g xs) ∙ sym (sum_by-cons (λ x. sum_by f (g x)) x xs)

-- where none passes, none is counted
pub none_counted : {X : Type 0} (p : X → Bool) (xs : List X) → AllByRecursion (λ x. p x ≡ false) xs → sum_by (one_if p) xs ≡ 0
none_counted p [] all = refl
none_counted p (x ∷ xs) all = sum_by-cons (one_if p) x xs ∙ (rw (all.0, none_counted p xs all.1) refl)

-- where none is counted, none passes
pub none_passes : {X : Type 0} (p : X → Bool) (xs : List X) → sum_by (one_if p) xs ≡ 0 → AllByRecursion (λ x. p x ≡ false) xs
none_passes p [] none = tt
none_passes p (x ∷ xs) none = elim (cases_Bool (p x)) [
  | inl passes ↦
      let step : sum_by (one_if p) (x ∷ xs) ≡ 1 + sum_by (one_if p) xs = sum_by-cons (one_if p) x xs ∙ (rw passes refl) in
      absurd (omega (arith, step, none))
  | inr fails ↦
      let step : sum_by (one_if p) (x ∷ xs) ≡ sum_by (one_if p) xs = sum_by-cons (one_if p) x xs ∙ (rw fails (omega arith)) in
      (fails, none_passes p xs (sym step ∙ none))
]

-- where some are counted, one passes, and has what all have
pub some_passes : {X : Type 0} (P : X → Type 0) (p : X → Bool) (xs : List X) → AllByRecursion P xs → 0 < sum_by (one_if p) xs → (x : X) × (p x ≡ true) × P x
some_passes P p [] all some = absurd (omega (arith, some))
some_passes P p (x ∷ xs) all some = elim (cases_Bool (p x)) [
  | inl passes ↦ (x, passes, all.0)
  | inr fails ↦
      let step : sum_by (one_if p) (x ∷ xs) ≡ sum_by (one_if p) xs = sum_by-cons (one_if p) x xs ∙ (rw fails (omega arith)) in
      some_passes P p xs all.1 (omega (arith, step, some))
]

-- so many times the same
abbrev copies : {X : Type 0} → ℕ → X → List X
copies zero x = []
copies (suc n) x = x ∷ copies n x

all_copies : {X : Type 0} (p : X → Bool) (z : X) (xs : List X) → AllByRecursion (λ x. p x ≡ true → x ≡ z) xs → filter p xs ≡ copies (sum_by (one_if p) xs) z
all_copies p z [] all = refl
all_copies p z (x ∷ xs) all = elim (cases_Bool (p x)) [
  | inl passes ↦
      let step : sum_by (one_if p) (x ∷ xs) ≡ suc (sum_by (one_if p) xs) = sum_by-cons (one_if p) x xs ∙ (rw passes (omega arith)) in
      let first : filter p (x ∷ xs) ≡ z ∷ filter p xs = rw passes (ap (λ y. y ∷ filter p xs) (all.0 passes)) in
      first ∙ ap (λ rest. z ∷ rest) (all_copies p z xs all.1) ∙ ap (λ n. copies n z) (sym step)
  | inr fails ↦
      let step : sum_by (one_if p) (x ∷ xs) ≡ sum_by (one_if p) xs = sum_by-cons (one_if p) x xs ∙ (rw fails (omega arith)) in
      let first : filter p (x ∷ xs) ≡ filter p xs = rw fails refl in
      first ∙ all_copies p z xs all.1 ∙ ap (λ n. copies n z) (sym step)
]

-- two lists of which as many pass, each of them the same, have the same that pass
pub alike_same : {X : Type 0} (p : X → Bool) (z : X) (xs ys : List X) → AllByRecursion (λ x. p x ≡ true → x ≡ z) xs → AllByRecursion (λ y. p y ≡ true → y ≡ z) ys
    → sum_by (one_if p) xs ≡ sum_by (one_if p) ys → filter p xs ≡ filter p ys
alike_same p z xs ys all also same = all_copies p z xs all ∙ ap (λ n. copies n z) same ∙ sym (all_copies p z ys also)

-- those that pass pass
pub all_passed : {X : Type 0} (p : X → Bool) (xs : List X) → AllByRecursion (λ x. p x ≡ true) (filter p xs)
all_passed p [] = tt
all_passed p (x ∷ xs) = elim (cases_Bool (p x)) [
  | inl passes ↦ rw passes (passes, all_passed p xs)
  | inr fails ↦ rw fails (all_passed p xs)
]
