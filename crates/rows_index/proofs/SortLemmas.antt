-- Things in order: what is put in and left out, and what is found among them.
use Rattle.std.proofs.Common.{◌≡◌, ℕ, zero, suc, Bool, true, false, cond, List, [], ◌∷◌, ◌++◌, Some, refl, sym, ap, ◌∙◌, inl, inr}
use Rattle.std.specs.Prelude.{not}
use Rattle.std.specs.List.{AllByRecursion, filter, find, insert}
use Rattle.std.specs.List.Sorted.{IsPermutation}
use Rattle.std.proofs.lemmas.Bool.{cases_Bool}
use Rattle.std.proofs.lemmas.List.Sorted.{IsPermutation-refl, IsPermutation-trans, IsPermutation-cons, IsPermutation-insert}
use Rattle.rows_sorted.specs.Orders.{inserted, sorted}
use Rattle.rows_sorted.proofs.OrderLemmas.{AllInOrder, all_filter, all_from_all}

turned : (b c : Bool) → b ≡ not c → c ≡ not b
turned true true is = cc
turned true false is = refl
turned false true is = refl
turned false false is = cc

-- one comes before the other
abbrev pub IsAhead : {X : Type 0} → (X → X → Bool) → X → X → Type 0
IsAhead before x y = before x y ≡ true

-- one of the two comes before the other
abbrev pub AreApart : {X : Type 0} → (X → X → Bool) → X → X → Type 0
AreApart before x y = before x y ≡ not (before y x)

module _ {X : Type 0} (before : X → X → Bool)
    (one_way : (x y : X) → before x y ≡ true → before y x ≡ false)
    (chain : (x y z : X) → before x y ≡ true → before y z ≡ true → before x z ≡ true) where
  ahead_apart : (x y : X) → IsAhead before x y → AreApart before x y
  ahead_apart x y ahead = rw (ahead, one_way x y ahead) refl

  behind_apart : (x y : X) → IsAhead before y x → AreApart before x y
  behind_apart x y behind = rw (behind, one_way y x behind) refl

  all_with : (P : X → Type 0) (x : X) (ys : List X) → P x → AllByRecursion P ys → AllByRecursion P (inserted before x ys)
  all_with P x [] own all = (own, tt)
  all_with P x (y ∷ ys) own all = elim (cases_Bool (before x y)) [
    | inl low ↦ rw low (own, all)
    | inr high ↦ rw high (all.0, all_with P x ys own all.1)
  ]

  pub all_sorted : (P : X → Type 0) (xs : List X) → AllByRecursion P xs → AllByRecursion P (sorted before xs)
  all_sorted P [] all = tt
  all_sorted P (x ∷ xs) all = all_with P x (sorted before xs) all.0 (all_sorted P xs all.1)

  pub all_of_inserted : (P : X → Type 0) (x : X) (ys : List X) → AllByRecursion P (inserted before x ys) → P x × AllByRecursion P ys
  all_of_inserted P x [] all = (all.0, tt)
  all_of_inserted P x (y ∷ ys) all = elim (cases_Bool (before x y)) [
    | inl low ↦ let both : AllByRecursion P (x ∷ y ∷ ys) = rw low at all in (both.0, both.1)
    | inr high ↦
        let both : AllByRecursion P (y ∷ inserted before x ys) = rw high at all in
        let rest = all_of_inserted P x ys both.1 in
        (rest.0, (both.0, rest.1))
  ]

  pub all_of_sorted : (P : X → Type 0) (xs : List X) → AllByRecursion P (sorted before xs) → AllByRecursion P xs
  all_of_sorted P [] all = tt
  all_of_sorted P (x ∷ xs) all = let parts = all_of_inserted P x (sorted before xs) all in (parts.0, all_of_sorted P xs parts.1)

  order_of_inserted : (x : X) (ys : List X) → AllInOrder (IsAhead before) (inserted before x ys) → AllInOrder (IsAhead before) ys
  order_of_inserted x [] order = tt
  order_of_inserted x (y ∷ ys) order = elim (cases_Bool (before x y)) [
    | inl low ↦ let both : AllInOrder (IsAhead before) (x ∷ y ∷ ys) = rw low at order in both.1
    | inr high ↦
        let both : AllInOrder (IsAhead before) (y ∷ inserted before x ys) = rw high at order in
        ((all_of_inserted (IsAhead before y) x ys both.0).1, order_of_inserted x ys both.1)
  ]

  apart_of_inserted : (x : X) (ys : List X) → AllInOrder (IsAhead before) (inserted before x ys) → AllByRecursion (AreApart before x) ys
  apart_of_inserted x [] order = tt
  apart_of_inserted x (y ∷ ys) order = elim (cases_Bool (before x y)) [
    | inl low ↦
        let both : AllInOrder (IsAhead before) (x ∷ y ∷ ys) = rw low at order in
        all_from_all (IsAhead before x) (AreApart before x) (λ z ahead. ahead_apart x z ahead) (y ∷ ys) both.0
    | inr high ↦
        let both : AllInOrder (IsAhead before) (y ∷ inserted before x ys) = rw high at order in
        (behind_apart x y (all_of_inserted (IsAhead before y) x ys both.0).0, apart_of_inserted x ys both.1)
  ]

  -- things that stand in order when sorted are apart
  pub apart_of_sorted : (xs : List X) → AllInOrder (IsAhead before) (sorted before xs) → AllInOrder (AreApart before) xs
  apart_of_sorted [] order = tt
  apart_of_sorted (x ∷ xs) order = (
    all_of_sorted (AreApart before x) xs (apart_of_inserted x (sorted before xs) order),
    apart_of_sorted xs (order_of_inserted x (sorted before xs) order),
  )

  inserted_first : (x : X) (ys : List X) → AllByRecursion (IsAhead before x) ys → inserted before x ys ≡ x ∷ ys
  inserted_first x [] all = refl
  inserted_first x (y ∷ ys) all = rw all.0 refl

  -- things that stand in order stay as they are
  pub sorted_again : (xs : List X) → AllInOrder (IsAhead before) xs → sorted before xs ≡ xs
  sorted_again [] order = refl
  sorted_again (x ∷ xs) order = ap (inserted before x) (sorted_again xs order.1) ∙ inserted_first x xs order.0

  -- two things that are apart may be put in either way round
  either_way : (x y : X) (zs : List X) → AreApart before x y → inserted before x (inserted before y zs) ≡ inserted before y (inserted before x zs)
  either_way x y [] apart = elim (cases_Bool (before y x)) [
    | inl behind ↦ let low : before x y ≡ false = rw behind at apart in rw (low, behind) refl
    | inr ahead ↦ let low : before x y ≡ true = rw ahead at apart in rw (low, ahead) refl
  ]
  either_way x y (z ∷ zs) apart = elim (cases_Bool (before x z)) [
    | inl x_low ↦ elim (cases_Bool (before y z)) [
      | inl y_low ↦ elim (cases_Bool (before y x)) [
        | inl behind ↦ let low : before x y ≡ false = rw behind at apart in rw (y_low, x_low, low, behind) refl
        | inr ahead ↦ let low : before x y ≡ true = rw ahead at apart in rw (y_low, x_low, low, ahead, y_low) refl
      ]
      | inr y_high ↦ elim (cases_Bool (before y x)) [
        | inl behind ↦ let wrong = chain y x z behind x_low in cc
        | inr ahead ↦ rw (y_high, x_low, ahead, y_high) refl
      ]
    ]
    | inr x_high ↦ elim (cases_Bool (before y z)) [
      | inl y_low ↦ elim (cases_Bool (before y x)) [
        | inl behind ↦ let low : before x y ≡ false = rw behind at apart in rw (y_low, x_high, low, y_low) refl
        | inr ahead ↦ let low : before x y ≡ true = rw ahead at apart in let wrong = chain x y z low y_low in cc
      ]
      | inr y_high ↦ rw (y_high, x_high, y_high) (ap (λ rest. z ∷ rest) (either_way x y zs apart))
    ]
  ]

  -- a thing that is apart from the others is put in among them, wherever it stood
  pub sorted_insert : (x : X) (n : ℕ) (ys : List X) → AllByRecursion (AreApart before x) ys → sorted before (insert ys n x) ≡ inserted before x (sorted before ys)
  sorted_insert x zero ys apart = refl
  sorted_insert x (suc n) [] apart = refl
  sorted_insert x (suc n) (y ∷ ys) apart =
      ap (inserted before y) (sorted_insert x n ys apart.1)
      ∙ either_way y x (sorted before ys) (turned (before x y) (before y x) apart.0)

  none_low : (x : X) (ys : List X) → AllByRecursion (IsAhead before x) ys → filter (λ y. before y x) ys ≡ []
  none_low x [] all = refl
  none_low x (y ∷ ys) all = rw (one_way x y all.0) (none_low x ys all.1)

  all_high : (x : X) (ys : List X) → AllByRecursion (IsAhead before x) ys → filter (λ y. before x y) ys ≡ ys
  all_high x [] all = refl
  all_high x (y ∷ ys) all = rw all.0 (ap (λ rest. y ∷ rest) (all_high x ys all.1))

  -- it stands behind those before it
  pub inserted_is : (x : X) (ys : List X) → AllInOrder (IsAhead before) ys → AllByRecursion (AreApart before x) ys → inserted before x ys ≡ filter (λ y. before y x) ys ++ x ∷ filter (λ y. before x y) ys
  inserted_is x [] order apart = refl
  inserted_is x (y ∷ ys) order apart = elim (cases_Bool (before x y)) [
    | inl ahead ↦
        let later = all_from_all (IsAhead before y) (IsAhead before x) (λ z above. chain x y z ahead above) ys order.0 in
        rw (ahead, one_way x y ahead, none_low x ys later, all_high x ys later) refl
    | inr high ↦
        let behind : before y x ≡ true = turned (before x y) (before y x) apart.0 ∙ ap not high in
        rw (high, behind) (ap (λ rest. y ∷ rest) (inserted_is x ys order.1 apart.1))
  ]

  filter_inserted : (p : X → Bool) (x : X) (ys : List X) → AllInOrder (IsAhead before) ys → filter p (inserted before x ys) ≡ cond (p x) (inserted before x (filter p ys)) (filter p ys)
  filter_inserted p x [] order = refl
  filter_inserted p x (y ∷ ys) order = elim (cases_Bool (before x y)) [
    | inl ahead ↦
        let later = all_filter (IsAhead before x) p (y ∷ ys) (ahead, all_from_all (IsAhead before y) (IsAhead before x) (λ z above. chain x y z ahead above) ys order.0) in
        rw (ahead, inserted_first x (filter p (y ∷ ys)) later) refl
    | inr high ↦ elim (cases_Bool (p y)) [
      | inl stays ↦ elim (cases_Bool (p x)) [
        | inl mine ↦ let rest = filter_inserted p x ys order.1 in rw (high, stays, rest, mine, high) refl
        | inr other ↦ let rest = filter_inserted p x ys order.1 in rw (high, stays, rest, other) refl
      ]
      | inr goes ↦ rw (high, goes) (filter_inserted p x ys order.1)
    ]
  ]

  -- things may be left out before they are sorted
  pub sorted_filter : (p : X → Bool) (xs : List X) → AllInOrder (IsAhead before) (sorted before xs) → sorted before (filter p xs) ≡ filter p (sorted before xs)
  sorted_filter p [] order = refl
  sorted_filter p (x ∷ xs) order =
      let later = order_of_inserted x (sorted before xs) order in
      let rest = sorted_filter p xs later in
      elim (cases_Bool (p x)) [
        | inl stays ↦ let all = filter_inserted p x (sorted before xs) later in rw (stays, rest) (sym (rw stays at all))
        | inr goes ↦ let all = filter_inserted p x (sorted before xs) later in rw (goes, rest) (sym (rw goes at all))
      ]

  module _ (p : X → Bool) (once : (x y : X) → AreApart before x y → p x ≡ true → p y ≡ false) where
    find_inserted : (x : X) (ys : List X) → AllByRecursion (AreApart before x) ys → find p (inserted before x ys) ≡ cond (p x) (Some x) (find p ys)
    find_inserted x [] apart = refl
    find_inserted x (y ∷ ys) apart = elim (cases_Bool (before x y)) [
      | inl ahead ↦ rw ahead refl
      | inr high ↦ let rest = find_inserted x ys apart.1 in elim (cases_Bool (p x)) [
        | inl mine ↦ rw (high, once x y apart.0 mine, rest, mine) refl
        | inr other ↦ rw (high, rest, other) refl
      ]
    ]

    -- the one thing that passes is found in either
    pub sorted_finds : (xs : List X) → AllInOrder (IsAhead before) (sorted before xs) → find p (sorted before xs) ≡ find p xs
    sorted_finds [] order = refl
    sorted_finds (x ∷ xs) order =
        find_inserted x (sorted before xs) (apart_of_inserted x (sorted before xs) order)
        ∙ ap (λ rest. cond (p x) (Some x) rest) (sorted_finds xs (order_of_inserted x (sorted before xs) order))

  inserted_same : (x : X) (ys : List X) → IsPermutation (x ∷ ys) (inserted before x ys)
  inserted_same x [] = IsPermutation-refl (x ∷ [])
  inserted_same x (y ∷ ys) = elim (cases_Bool (before x y)) [
    | inl ahead ↦ rw ahead (IsPermutation-refl (x ∷ y ∷ ys))
    | inr high ↦ rw high (IsPermutation-trans (x ∷ y ∷ ys) (y ∷ x ∷ ys) (y ∷ inserted before x ys) (IsPermutation-insert (y ∷ ys) 1 x) (IsPermutation-cons y (x ∷ ys) (inserted before x ys) (inserted_same x ys)))
  ]

  -- the same things
  pub sorted_same : (xs : List X) → IsPermutation xs (sorted before xs)
  sorted_same [] = IsPermutation-refl []
  sorted_same (x ∷ xs) = IsPermutation-trans (x ∷ xs) (x ∷ sorted before xs) (inserted before x (sorted before xs)) (IsPermutation-cons x xs (sorted before xs) (sorted_same xs)) (inserted_same x (sorted before xs))
