-- A stable sort of a list that was turned round gives the things in order, of alike ones the later one first.
use Rattle.std.proofs.Common.{◌≡◌, ◌+◌, Bool, true, false, List, [], ◌∷◌, ◌++◌, reverse, map, refl, sym, ap, ◌∙◌, arith, inl, inr, suc, subst}
use Rattle.std.specs.Cmp.{IsStrictWeakOrder}
use Rattle.std.specs.List.{AllByRecursion, filter}
use Rattle.std.specs.List.Sorted.{IsSortedBy, IsStableBy, ties}
use Rattle.std.proofs.lemmas.Bool.{cases_Bool, cond_both}
use Rattle.std.proofs.lemmas.Grind.{reverse_onto}
use Rattle.rows_sorted.specs.Orders.{inserted, sorted}

all_from_all : {X : Type 0} (P Q : X → Type 0) → ((x : X) → P x → Q x) → (xs : List X) → AllByRecursion P xs → AllByRecursion Q xs
all_from_all P Q follows [] all = tt
all_from_all P Q follows (x ∷ xs) all = (follows x all.0, all_from_all P Q follows xs all.1)

filter_joined : {X : Type 0} (p : X → Bool) (xs ys : List X) → filter p (xs ++ ys) ≡ filter p xs ++ filter p ys
filter_joined p [] ys = refl
filter_joined p (x ∷ xs) ys = elim (cases_Bool (p x)) [
  | inl passes ↦ rw passes (ap (λ rest. x ∷ rest) (filter_joined p xs ys))
  | inr fails ↦ rw fails (filter_joined p xs ys)
]

none_kept : {X : Type 0} (p : X → Bool) (xs : List X) → AllByRecursion (λ y. p y ≡ false) xs → filter p xs ≡ []
none_kept p [] all = refl
none_kept p (y ∷ ys) all = rw all.0 (none_kept p ys all.1)

module _ {X : Type 0} (before : X → X → Bool) (o : IsStrictWeakOrder before) where
  -- nothing stands before what comes earlier
  abbrev Ascends : List X → Type 0
  Ascends [] = Unit {0}
  Ascends (x ∷ xs) = AllByRecursion (λ y. before y x ≡ false) xs × Ascends xs

  ascends_from : (xs : List X) → IsSortedBy before xs → Ascends xs
  ascends_from [] up = tt
  ascends_from (x ∷ []) up = (tt, tt)
  ascends_from (x ∷ y ∷ rows) up =
      let later = ascends_from (y ∷ rows) (λ k d low high. let next : suc k + 1 ≡ suc (k + 1) = omega arith in let pair = up (suc k) d (omega arith) (omega arith) in rw next at pair) in
      let first : before y x ≡ false = up 0 x (omega arith) (omega arith) in
      ((first, all_from_all (λ z. before z y ≡ false) (λ z. before z x ≡ false) (λ z high. o.chain z y x high first) rows later.0), later)

  not_itself : (x : X) → before x x ≡ false
  not_itself x = elim (cases_Bool (before x x)) [
    | inl is ↦ let wrong = o.one_way x x is in cc
    | inr is ↦ is
  ]

  tie_first : (x y : X) → before x y ≡ false → before y x ≡ false → ties before x y ≡ true
  tie_first x y one other = rw (one, other) refl

  tie_itself : (x : X) → ties before x x ≡ true
  tie_itself x = tie_first x x (not_itself x) (not_itself x)

  no_tie : (x y : X) → before x y ≡ true → ties before x y ≡ false
  no_tie x y is = rw is refl

  -- what stands behind something higher is higher
  higher : (x y z : X) → before x y ≡ true → before z y ≡ false → before x z ≡ true
  higher x y z low high = elim (cases_Bool (before x z)) [
    | inl is ↦ is
    | inr other ↦ let wrong = o.chain x z y other high in cc
  ]

  none_ties : (x y : X) (ys : List X) → before x y ≡ true → AllByRecursion (λ z. before z y ≡ false) ys → filter (ties before x) (y ∷ ys) ≡ []
  none_ties x y ys low all =
      none_kept (ties before x) (y ∷ ys) (no_tie x y low, all_from_all (λ z. before z y ≡ false) (λ z. ties before x z ≡ false) (λ z high. no_tie x z (higher x y z low high)) ys all)

  kept_first : (k x : X) (xs : List X) → ties before k x ≡ true → filter (ties before k) (x ∷ xs) ≡ x ∷ filter (ties before k) xs
  kept_first k x xs is = rw is refl

  kept_later : (k x : X) (xs : List X) → ties before k x ≡ false → filter (ties before k) (x ∷ xs) ≡ filter (ties before k) xs
  kept_later k x xs is = rw is refl

  tails_tie : (x : X) (xs ys : List X) → ((k : X) → filter (ties before k) (x ∷ xs) ≡ filter (ties before k) (x ∷ ys)) → (k : X) → filter (ties before k) xs ≡ filter (ties before k) ys
  tails_tie x xs ys same k = elim (cases_Bool (ties before k x)) [
    | inl is ↦ let one = kept_first k x xs is in let two = kept_first k x ys is in let both = same k in cc
    | inr is ↦ let one = kept_later k x xs is in let two = kept_later k x ys is in let both = same k in cc
  ]

  -- two lists in order with the same alike things are one
  pub same_order : (xs ys : List X) → Ascends xs → Ascends ys → ((k : X) → filter (ties before k) xs ≡ filter (ties before k) ys) → xs ≡ ys
  same_order [] [] one other same = refl
  same_order [] (y ∷ ys) one other same = let first = kept_first y y ys (tie_itself y) in let both = same y in cc
  same_order (x ∷ xs) [] one other same = let first = kept_first x x xs (tie_itself x) in let both = same x in cc
  same_order (x ∷ xs) (y ∷ ys) one other same = elim (cases_Bool (before x y)) [
    | inl low ↦ let none = none_ties x y ys low other.0 in let first = kept_first x x xs (tie_itself x) in let both = same x in cc
    | inr high ↦ elim (cases_Bool (before y x)) [
      | inl low ↦ let none = none_ties y x xs low one.0 in let first = kept_first y y ys (tie_itself y) in let both = same y in cc
      | inr level ↦
          let first = kept_first x x xs (tie_itself x) in
          let second = kept_first x y ys (tie_first x y high level) in
          let both = same x in
          let head : x ≡ y = cc in
          let moved = subst (λ (z : X). (k : X) → filter (ties before k) (z ∷ xs) ≡ filter (ties before k) (y ∷ ys)) head same in
          let rest = same_order xs ys one.1 other.1 (tails_tie y xs ys moved) in
          cc
    ]
  ]

  inserted_all : (P : X → Type 0) (x : X) (ys : List X) → P x → AllByRecursion P ys → AllByRecursion P (inserted before x ys)
  inserted_all P x [] mine all = (mine, tt)
  inserted_all P x (y ∷ ys) mine all =
      cond_both (before x y) (x ∷ y ∷ ys) (y ∷ inserted before x ys) (AllByRecursion P) (λ _. (mine, all)) (λ _. (all.0, inserted_all P x ys mine all.1))

  inserted_ascends : (x : X) (ys : List X) → Ascends ys → Ascends (inserted before x ys)
  inserted_ascends x [] up = (tt, tt)
  inserted_ascends x (y ∷ ys) up =
      cond_both (before x y) (x ∷ y ∷ ys) (y ∷ inserted before x ys) Ascends
      (λ low. ((o.one_way x y low, all_from_all (λ z. before z y ≡ false) (λ z. before z x ≡ false) (λ z high. o.one_way x z (higher x y z low high)) ys up.0), up))
      (λ high. (inserted_all (λ z. before z y ≡ false) x ys high up.0, inserted_ascends x ys up.1))

  sorted_ascends : (xs : List X) → Ascends (sorted before xs)
  sorted_ascends [] = tt
  sorted_ascends (x ∷ xs) = inserted_ascends x (sorted before xs) (sorted_ascends xs)

  -- of alike things the new one comes last
  inserted_ties : (k x : X) (ys : List X) → Ascends ys → filter (ties before k) (inserted before x ys) ≡ filter (ties before k) ys ++ filter (ties before k) (x ∷ [])
  inserted_ties k x [] up = refl
  inserted_ties k x (y ∷ ys) up = elim (cases_Bool (before x y)) [
    | inl low ↦ rw low (elim (cases_Bool (ties before k x)) [
      | inl is ↦ let none = none_kept (ties before k) (y ∷ ys) (apart_behind k x y ys low up.0 is) in rw (is, none) refl
      | inr is ↦ rw is (sym (nothing_added (filter (ties before k) (y ∷ ys))))
    ])
    | inr high ↦ rw high (elim (cases_Bool (ties before k y)) [
      | inl is ↦ rw is (ap (λ rest. y ∷ rest) (inserted_ties k x ys up.1))
      | inr is ↦ rw is (inserted_ties k x ys up.1)
    ])
  ]
    where
      nothing_added : (zs : List X) → zs ++ [] ≡ zs
      nothing_added [] = refl
      nothing_added (z ∷ zs) = ap (λ rest. z ∷ rest) (nothing_added zs)

      -- what ties with x doesn't tie with what stands behind x
      apart : (k x z : X) → before x z ≡ true → ties before k x ≡ true → ties before k z ≡ false
      apart k x z low is = elim (cases_Bool (before k x)) [
        | inl wrong ↦ let other = no_tie k x wrong in cc
        | inr level ↦ elim (cases_Bool (before k z)) [
          | inl behind ↦ no_tie k z behind
          | inr other ↦ let turned = tie_back k x is in let chained = o.chain x k z turned other in cc
        ]
      ]
        where
          tie_back : (k x : X) → ties before k x ≡ true → before x k ≡ false
          tie_back k x is = elim (cases_Bool (before x k)) [
            | inl low ↦ let wrong = o.one_way x k low in let no : ties before k x ≡ false = rw (wrong, low) refl in cc
            | inr is_not ↦ is_not
          ]

      apart_behind : (k x y : X) (ys : List X) → before x y ≡ true → AllByRecursion (λ z. before z y ≡ false) ys → ties before k x ≡ true → AllByRecursion (λ z. ties before k z ≡ false) (y ∷ ys)
      apart_behind k x y ys low all is =
          (apart k x y low is, all_from_all (λ z. before z y ≡ false) (λ z. ties before k z ≡ false) (λ z high. apart k x z (higher x y z low high) is) ys all)

  sorted_ties : (k : X) (xs : List X) → filter (ties before k) (sorted before xs) ≡ filter (ties before k) (reverse xs)
  sorted_ties k [] = refl
  sorted_ties k (x ∷ xs) =
      inserted_ties k x (sorted before xs) (sorted_ascends xs) ∙ ap (λ front. front ++ filter (ties before k) (x ∷ [])) (sorted_ties k xs) ∙ sym (filter_joined (ties before k) (reverse xs) (x ∷ [])) ∙ sym (ap (filter (ties before k)) (reverse_onto xs x []))

  -- what a stable sort gives of the list that was turned round
  pub sorted_is : (xs ys : List X) → IsSortedBy before ys → IsStableBy before (reverse xs) ys → ys ≡ sorted before xs
  sorted_is xs ys up stable = same_order ys (sorted before xs) (ascends_from ys up) (sorted_ascends xs) (λ k. stable k ∙ sym (sorted_ties k xs))

  filter_turned : (p : X → Bool) (xs : List X) → filter p (reverse xs) ≡ reverse (filter p xs)
  filter_turned p [] = refl
  filter_turned p (x ∷ xs) =
      ap (filter p) (reverse_onto xs x []) ∙ filter_joined p (reverse xs) (x ∷ []) ∙ elim (cases_Bool (p x)) [
        | inl passes ↦ rw passes (ap (λ front. front ++ x ∷ []) (filter_turned p xs) ∙ sym (reverse_onto (filter p xs) x []))
        | inr fails ↦ rw fails (nothing_behind (filter p (reverse xs)) ∙ filter_turned p xs)
      ]
    where
      nothing_behind : (zs : List X) → zs ++ [] ≡ zs
      nothing_behind [] = refl
      nothing_behind (z ∷ zs) = ap (λ rest. z ∷ rest) (nothing_behind zs)

  -- a stable sort of a list in which no two different things tie needn't be turned round
  pub sorted_apart : (xs ys : List X) → ((k : X) → reverse (filter (ties before k) xs) ≡ filter (ties before k) xs) → IsSortedBy before ys → IsStableBy before xs ys → ys ≡ sorted before xs
  sorted_apart xs ys alike up stable = sorted_is xs ys up (λ k. stable k ∙ sym (filter_turned (ties before k) xs ∙ alike k))

  -- two lists with the same alike things, put in order, are one
  pub sorted_same : (xs ys : List X) → ((k : X) → filter (ties before k) xs ≡ filter (ties before k) ys) → sorted before xs ≡ sorted before ys
  sorted_same xs ys same =
      same_order (sorted before xs) (sorted before ys) (sorted_ascends xs) (sorted_ascends ys)
      (λ k. sorted_ties k xs ∙ filter_turned (ties before k) xs ∙ ap reverse (same k) ∙ sym (filter_turned (ties before k) ys) ∙ sym (sorted_ties k ys))

-- things in order by what they stand for
pub inserted_mapped : {X Y : Type 0} (f : X → Y) (before : Y → Y → Bool) (x : X) (xs : List X) → map f (inserted (λ a b. before (f a) (f b)) x xs) ≡ inserted before (f x) (map f xs)
inserted_mapped f before x [] = refl
inserted_mapped f before x (y ∷ ys) = elim (cases_Bool (before (f x) (f y))) [
  | inl low ↦ rw low refl
  | inr high ↦ rw high (ap (λ rest. f y ∷ rest) (inserted_mapped f before x ys))
]

pub sorted_mapped : {X Y : Type 0} (f : X → Y) (before : Y → Y → Bool) (xs : List X) → map f (sorted (λ a b. before (f a) (f b)) xs) ≡ sorted before (map f xs)
sorted_mapped f before [] = refl
sorted_mapped f before (x ∷ xs) = inserted_mapped f before x (sorted (λ a b. before (f a) (f b)) xs) ∙ ap (inserted before (f x)) (sorted_mapped f before xs)
