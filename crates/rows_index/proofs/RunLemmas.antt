-- The entries under one key are those of the rows under it, in their order, and so lead to the first row that passes a test.
use Rattle.std.proofs.Common.{◌≡◌, ℕ, ◌==◌, Bool, true, false, List, [], ◌∷◌, cond, Option, Some, map, refl, sym, ap, ◌∙◌, arith, inl, inr}
use Rattle.std.specs.List.{AllByRecursion, filter, find, sum_by}
use Rattle.std.proofs.lemmas.Bool.{cases_Bool}
use Rattle.std.proofs.lemmas.Bool.Decides.{nat_tests}
use Rattle.std.proofs.lemmas.List.Sums.{sum_by-cons}
use Rattle.rows_sorted.specs.Keys.{Key, number_key, Rises}
use Rattle.rows_sorted.proofs.OrderLemmas.{AllInOrder, IsBefore, all_filter, all_from_all, before_joins, in_order, order_filter}
use Rattle.rows_index.specs.declared.entry.Entry.{Entry}
use Rattle.rows_index.specs.Index.{entry_before, entry_key, is_entry, IsIndex}
use Rattle.rows_index.proofs.FoundLemmas.{each_found, lower_number}
use Rattle.rows_index.proofs.IndexLemmas.{entry_same, index_filter, is_itself}
use Rattle.rows_index.proofs.RowLemmas.{entry}
use Rattle.rows_index.proofs.SumLemmas.{all_passed, none_counted, one_if, sum_mapped}
use Rattle.rows_index.specs.Found.{first_found}

alike : (x y : Entry) → entry_before x y ≡ false → entry_before y x ≡ false → is_entry x y ≡ true
alike x y one other = grind (arith, nat_tests)

not_itself : (x y : Entry) → IsBefore entry_key x y → is_entry x y ≡ false
not_itself x y before = grind (arith, nat_tests)

one_entry : (x y : Entry) → y.key ≡ x.key → y.number ≡ x.number → y ≡ x
one_entry x y key number = λ i. record { key = key i; number = number i }

-- an entry that stands before all of a list is missing in it
missing : {X : Type 0} (x : Entry) (xs ys : List Entry) → AllByRecursion (IsBefore entry_key x) ys → ((f : Entry → ℕ) → sum_by f (x ∷ xs) ≡ sum_by f ys) → X
missing x xs ys later same =
    let none = none_counted (is_entry x) ys (all_from_all (IsBefore entry_key x) (λ y. is_entry x y ≡ false) (λ y before. not_itself x y before) ys later) in
    let step = sum_by-cons (one_if (is_entry x)) x xs in
    let one : one_if (is_entry x) x ≡ 1 = rw (is_itself x) refl in
    let is = same (one_if (is_entry x)) in
    absurd (omega (arith, none, step, one, is))

all_later : (x y : Entry) (ys : List Entry) → IsBefore entry_key x y → AllByRecursion (IsBefore entry_key y) ys → AllByRecursion (IsBefore entry_key x) (y ∷ ys)
all_later x y ys before later =
    (before, all_from_all (IsBefore entry_key y) (IsBefore entry_key x) (λ z above. before_joins (entry_key x) (entry_key y) (entry_key z) before above) ys later)

-- entries that rise, and over which each measure comes to the same sum, are the same
same_list : (xs ys : List Entry) → AllInOrder (IsBefore entry_key) xs → AllInOrder (IsBefore entry_key) ys → ((f : Entry → ℕ) → sum_by f xs ≡ sum_by f ys) → xs ≡ ys
same_list [] [] up also same = refl
same_list [] (y ∷ ys) up also same = missing y ys [] tt (λ f. sym (same f))
same_list (x ∷ xs) [] up also same = missing x xs [] tt same
same_list (x ∷ xs) (y ∷ ys) up also same = elim (cases_Bool (is_entry x y)) [
  | inl mine ↦
      let parts = entry_same x y mine in
      let one = one_entry x y parts.0 parts.1 in
      let rest = same_list xs ys up.1 also.1 (λ f. let left = sum_by-cons f x xs in let right = sum_by-cons f y ys in let at = ap f one in let is = same f in omega (arith, left, right, at, is)) in
      ap (λ z. z ∷ xs) (sym one) ∙ ap (λ zs. y ∷ zs) rest
  | inr other ↦ elim (cases_Bool (entry_before x y)) [
    | inl before ↦ missing x xs (y ∷ ys) (all_later x y ys before also.0) same
    | inr high ↦ elim (cases_Bool (entry_before y x)) [
      | inl before ↦ missing y ys (x ∷ xs) (all_later y x xs before up.0) (λ f. sym (same f))
      | inr low ↦ let wrong = alike x y high low in cc
    ]
  ]
]

each_same : {Row : Type 0} (p : Row → Bool) (rows : List Row) → AllByRecursion (λ row. p row ≡ p row) rows
each_same p [] = tt
each_same p (x ∷ xs) = (refl, each_same p xs)

-- a row that passes is found among those that pass a wider test
find_filter : {Row : Type 0} (p q : Row → Bool) → ((row : Row) → p row ≡ true → q row ≡ true) → (rows : List Row) → find p (filter q rows) ≡ find p rows
find_filter p q wider [] = refl
find_filter p q wider (x ∷ xs) = elim (cases_Bool (q x)) [
  | inl stays ↦ rw stays (ap (λ rest. cond (p x) (Some x) rest) (find_filter p q wider xs))
  | inr goes ↦ elim (cases_Bool (p x)) [
    | inl passes ↦ let wrong = wider x passes in cc
    | inr fails ↦ rw (goes, fails) (find_filter p q wider xs)
  ]
]

module _ {Row : Type 0} (number part : Row → ℕ) (key : Row → Key) (is_number : (x : Row) → key x ≡ number_key (number x)) where
  one_before : (k : ℕ) (x y : Row) → IsBefore key x y → (part x == k) ≡ true → (part y == k) ≡ true → IsBefore entry_key (entry number part x) (entry number part y)
  one_before k x y before mine other = let less = lower_number number key is_number x y before in grind (arith, nat_tests, less)

  all_mapped : (k : ℕ) (x : Row) (xs : List Row) → AllByRecursion (IsBefore key x) xs → (part x == k) ≡ true → AllByRecursion (λ row. (part row == k) ≡ true) xs → AllByRecursion (IsBefore entry_key (entry number part x)) (map (entry number part) xs)
  all_mapped k x [] later mine all = tt
  all_mapped k x (y ∷ ys) later mine all = (one_before k x y later.0 mine all.0, all_mapped k x ys later.1 mine all.1)

  mapped_order : (k : ℕ) (rows : List Row) → AllInOrder (IsBefore key) rows → AllByRecursion (λ row. (part row == k) ≡ true) rows → AllInOrder (IsBefore entry_key) (map (entry number part) rows)
  mapped_order k [] order all = tt
  mapped_order k (x ∷ xs) order all = (all_mapped k x xs order.0 all.0 all.1, mapped_order k xs order.1 all.1)

  -- the entries under a key
  pub run_is : (k : ℕ) (rows : List Row) (entries : List Entry) → Rises key rows → IsIndex (entry number part) rows entries → filter (λ e. e.key == k) entries ≡ map (entry number part) (filter (λ row. part row == k) rows)
  run_is k rows entries rises index =
      let mine = filter (λ row. part row == k) rows in
      let left = index_filter (entry number part) (λ row. part row == k) (λ e. e.key == k) rows entries index (each_same (λ row. part row == k) rows) in
      same_list (filter (λ e. e.key == k) entries) (map (entry number part) mine) (in_order entry_key (filter (λ e. e.key == k) entries) left.rises)
      (mapped_order k mine (order_filter (IsBefore key) (λ row. part row == k) rows (in_order key rows rises)) (all_passed (λ row. part row == k) rows))
      (λ f. left.same f ∙ sym (sum_mapped f (entry number part) mine))

  -- entries of rows that are found by their numbers lead to these rows
  entries_lead : (at : ℕ → Option Row) (passes : Row → Bool) (rows : List Row) → AllByRecursion (λ row. at (number row) ≡ Some row) rows → first_found at passes (map (entry number part) rows) ≡ find passes rows
  entries_lead at passes [] all = refl
  entries_lead at passes (x ∷ xs) all = rw (all.0, entries_lead at passes xs all.1) refl

  -- a test that only rows under the key pass is passed first by the same row of the entries under the key and of all rows
  pub run_finds : (passes : Row → Bool) (k : ℕ) → ((row : Row) → passes row ≡ true → (part row == k) ≡ true) → (rows : List Row) (entries : List Entry) → Rises key rows → IsIndex (entry number part) rows entries
      → first_found (λ n. find (λ row. number row == n) rows) passes (filter (λ e. e.key == k) entries) ≡ find passes rows
  run_finds passes k only rows entries rises index =
      let at = λ (n : ℕ). find (λ row. number row == n) rows in
      let mine = λ (row : Row). part row == k in
      ap (first_found at passes) (run_is k rows entries rises index)
      ∙ entries_lead at passes (filter mine rows) (all_filter (λ row. at (number row) ≡ Some row) mine rows (each_found number key is_number rows rises))
      ∙ find_filter passes mine only rows
