-- Rows that are kept with something beside an item of each: what is done with the rows is done with the items, as they stand and in order.
use Rattle.std.proofs.Common.{◌≡◌, ℕ, zero, suc, Bool, true, false, List, [], ◌∷◌, ◌++◌, refl, ap, ◌∙◌, inl, inr}
use Rattle.std.specs.Prelude.{◌+◌, map, option_map}
use Rattle.std.specs.List.{AllByRecursion, filter, find, insert, position_from}
use Rattle.std.proofs.lemmas.Bool.{cases_Bool}
use Rattle.rows_sorted.specs.Orders.{put, sorted}
use Rattle.rows_sorted.proofs.OrderLemmas.{AllInOrder, all_filter}
use Rattle.rows_index.proofs.SortLemmas as sorting
use Rattle.rows_index.proofs.SortLemmas.{IsAhead, AreApart}

pub filter_agree : {X : Type 0} (p q : X → Bool) (xs : List X) → AllByRecursion (λ x. p x ≡ q x) xs → filter p xs ≡ filter q xs
filter_agree p q [] all = refl
filter_agree p q (x ∷ xs) all = elim (cases_Bool (q x)) [
  | inl stays ↦ rw (all.0, stays) (ap (λ rest. x ∷ rest) (filter_agree p q xs all.1))
  | inr goes ↦ rw (all.0, goes) (filter_agree p q xs all.1)
]

pub find_agree : {X : Type 0} (p q : X → Bool) (xs : List X) → AllByRecursion (λ x. p x ≡ q x) xs → find p xs ≡ find q xs
find_agree p q [] all = refl
find_agree p q (x ∷ xs) all = elim (cases_Bool (q x)) [
  | inl mine ↦ rw (all.0, mine) refl
  | inr other ↦ rw (all.0, other) (find_agree p q xs all.1)
]

pub place_agrees : {X : Type 0} (p q : X → Bool) (n : ℕ) (xs : List X) → AllByRecursion (λ x. p x ≡ q x) xs → position_from p n xs ≡ position_from q n xs
place_agrees p q n [] all = refl
place_agrees p q n (x ∷ xs) all = elim (cases_Bool (q x)) [
  | inl mine ↦ rw (all.0, mine) refl
  | inr other ↦ rw (all.0, other) (place_agrees p q (n + 1) xs all.1)
]

-- a row that has what all have is put among them
pub all_put : {X : Type 0} (before : X → X → Bool) (P : X → Type 0) (x : X) (rows : List X) → P x → AllByRecursion P rows → AllByRecursion P (put before x rows)
all_put {X} before P x rows own all = joined (filter (λ y. before y x) rows) (all_filter P (λ y. before y x) rows all)
  where
    joined : (xs : List X) → AllByRecursion P xs → AllByRecursion P (xs ++ x ∷ filter (λ y. before x y) rows)
    joined [] low = (own, all_filter P (λ y. before x y) rows all)
    joined (y ∷ ys) low = (low.0, joined ys low.1)

module _ {Row Item : Type 0} (item : Row → Item) where
  pub map_filter : (q : Item → Bool) (rows : List Row) → map item (filter (λ row. q (item row)) rows) ≡ filter q (map item rows)
  map_filter q [] = refl
  map_filter q (x ∷ xs) = elim (cases_Bool (q (item x))) [
    | inl stays ↦ rw stays (ap (λ rest. item x ∷ rest) (map_filter q xs))
    | inr goes ↦ rw goes (map_filter q xs)
  ]

  pub map_find : (q : Item → Bool) (rows : List Row) → option_map item (find (λ row. q (item row)) rows) ≡ find q (map item rows)
  map_find q [] = refl
  map_find q (x ∷ xs) = elim (cases_Bool (q (item x))) [
    | inl mine ↦ rw mine refl
    | inr other ↦ rw other (map_find q xs)
  ]

  pub map_place : (q : Item → Bool) (n : ℕ) (rows : List Row) → position_from (λ row. q (item row)) n rows ≡ position_from q n (map item rows)
  map_place q n [] = refl
  map_place q n (x ∷ xs) = elim (cases_Bool (q (item x))) [
    | inl mine ↦ rw mine refl
    | inr other ↦ rw other (map_place q (n + 1) xs)
  ]

  pub map_insert : (x : Row) (n : ℕ) (rows : List Row) → map item (insert rows n x) ≡ insert (map item rows) n (item x)
  map_insert x zero rows = refl
  map_insert x (suc n) [] = refl
  map_insert x (suc n) (y ∷ ys) = ap (λ rest. item y ∷ rest) (map_insert x n ys)

  pub map_all : (P : Item → Type 0) (rows : List Row) → AllByRecursion (λ row. P (item row)) rows → AllByRecursion P (map item rows)
  map_all P [] all = tt
  map_all P (x ∷ xs) all = (all.0, map_all P xs all.1)

  module _ (before : Item → Item → Bool)
      (one_way : (x y : Item) → before x y ≡ true → before y x ≡ false)
      (chain : (x y z : Item) → before x y ≡ true → before y z ≡ true → before x z ≡ true) where
    -- what is left out of the rows is left out of their items in order
    pub order_filter : (q : Item → Bool) (rows : List Row) → AllInOrder (IsAhead before) (sorted before (map item rows)) → sorted before (map item (filter (λ row. q (item row)) rows)) ≡ filter q (sorted before (map item rows))
    order_filter q rows order = ap (sorted before) (map_filter q rows) ∙ sorting.sorted_filter before one_way chain q (map item rows) order

    -- a row whose item is apart from all is put in its place among the items in order, wherever it stands among the rows
    pub order_insert : (x : Row) (n : ℕ) (rows : List Row) → AllInOrder (IsAhead before) (sorted before (map item rows)) → AllByRecursion (λ row. AreApart before (item x) (item row)) rows
        → sorted before (map item (insert rows n x)) ≡ put before (item x) (sorted before (map item rows))
    order_insert x n rows order apart =
        let all = map_all (AreApart before (item x)) rows apart in
        ap (sorted before) (map_insert x n rows)
        ∙ sorting.sorted_insert before one_way chain (item x) n (map item rows) all
        ∙ sorting.inserted_is before one_way chain (item x) (sorted before (map item rows)) order (sorting.all_sorted before one_way chain (AreApart before (item x)) (map item rows) all)
