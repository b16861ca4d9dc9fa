-- The names of one activity, number by number, are those that it has in byte order.
use Rattle.std.proofs.Common.{◌≡◌, ℕ, ◌<◌, ◌≤◌, ◌==◌, Bool, true, false, List, [], ◌∷◌, ◌++◌, map, refl, sym, ap, ◌∙◌, arith, inl, inr}
use Rattle.std.specs.Prelude.{◌||◌}
use Rattle.std.specs.Cmp.{IsStrictWeakOrder}
use Rattle.std.specs.List.{AllByRecursion, filter, flat_map, list_any}
use Rattle.std.proofs.lemmas.Bool.{cases_Bool, and_parts}
use Rattle.std.proofs.lemmas.Bool.Decides.{nat_tests}
use Rattle.std.proofs.lemmas.Cmp.{nat_list_cmp_total}
use Rattle.std.proofs.lemmas.List.{map-append}
use Rattle.std.proofs.lemmas.List.MinMax.{ranks_by}
use Rattle.slee_value.specs.Order.{is_below}
use Rattle.router_state.specs.declared.rows.Named.{Named}
use Rattle.rows_sorted.specs.Keys.{is_pair, key_before, Rises}
use Rattle.rows_sorted.specs.Orders.{sorted}
use Rattle.rows_sorted.proofs.OrderLemmas.{AllInOrder, IsBefore, all_from_all, in_order}
use Rattle.rows_sorted.proofs.StableSortLemmas.{sorted_mapped}
use Rattle.rows_index.specs.declared.entry.Entry.{Entry}
use Rattle.rows_index.specs.Index.{entry_key}
use Rattle.activity_context.specs.declared.numbered.NumberedName.{NumberedName}
use Rattle.activity_context.specs.Naming.{AreFiled, as_kept, in_byte_order, numbered_key, texts_under}
use Rattle.activity_context.proofs.FilingLemmas.{order_filter, under_own_entries}

-- texts by their bytes
pub texts_rank : IsStrictWeakOrder is_below
texts_rank = ranks_by nat_list_cmp_total (λ (text : List ℕ). text)

none_kept : {X : Type 0} (p : X → Bool) (xs : List X) → AllByRecursion (λ y. p y ≡ false) xs → filter p xs ≡ []
none_kept p [] all = refl
none_kept p (y ∷ ys) all = rw all.0 (none_kept p ys all.1)

ordered_by : {X : Type 0} (R S : X → X → Type 0) → ((x y : X) → R x y → S x y) → (xs : List X) → AllInOrder R xs → AllInOrder S xs
ordered_by R S follows [] order = tt
ordered_by R S follows (x ∷ xs) order = (all_from_all (R x) (S x) (follows x) xs order.0, ordered_by R S follows xs order.1)

-- those that pass the one test stand before those that pass the other
both_parts : {X : Type 0} (p q : X → Bool) → ((x : X) → p x ≡ true → q x ≡ false) → (xs : List X) → AllInOrder (λ x y. q x ≡ true → p y ≡ false) xs
    → filter p xs ++ filter q xs ≡ filter (λ x. p x || q x) xs
both_parts p q apart [] order = refl
both_parts p q apart (x ∷ xs) order = elim (cases_Bool (p x)) [
  | inl mine ↦ rw (mine, apart x mine) (ap (λ rest. x ∷ rest) (both_parts p q apart xs order.1))
  | inr other ↦ elim (cases_Bool (q x)) [
    | inl also ↦
        let none = none_kept p xs (all_from_all (λ y. q x ≡ true → p y ≡ false) (λ y. p y ≡ false) (λ y fails. fails also) xs order.0) in
        let rest = both_parts p q apart xs order.1 in
        rw (other, also, none) (ap (λ rest. x ∷ rest) (rw none at rest))
    | inr neither ↦ rw (other, neither) (both_parts p q apart xs order.1)
  ]
]

module _ (a : ℕ) where
  abbrev pub is_under : NumberedName → Entry → Bool
  is_under row e = is_pair e.number a (numbered_key row)

  abbrev is_later : Entry → Entry → Type 0
  is_later x y = x.number < y.number

  same_number : (e : Entry) (row : NumberedName) → is_under row e ≡ true → row.number ≡ e.number
  same_number e row is = let parts = and_parts (row.number == e.number) (row.named.activity.0 == a) is in let first = parts.0 in grind (arith, nat_tests, first)

  -- a name under one of the later entries has a greater number
  later_number : (n : ℕ) (row : NumberedName) (entries : List Entry) → AllByRecursion (λ e. n < e.number) entries → list_any (is_under row) entries ≡ true → n < row.number
  later_number n row [] later there = cc
  later_number n row (e ∷ entries) later there = elim (cases_Bool (is_under row e)) [
    | inl mine ↦ let same = same_number e row mine in omega (arith, same, later.0)
    | inr other ↦ later_number n row entries later.1 (rw other at there)
  ]

  not_both : (e : Entry) (entries : List Entry) → AllByRecursion (λ y. e.number < y.number) entries → (row : NumberedName) → is_under row e ≡ true → list_any (is_under row) entries ≡ false
  not_both e entries later row mine = elim (cases_Bool (list_any (is_under row) entries)) [
    | inl also ↦
        let same = same_number e row mine in
        let above = later_number e.number row entries later also in
        absurd (omega (arith, same, above))
    | inr never ↦ never
  ]

  number_rises : (x y : NumberedName) → key_before (numbered_key x) (numbered_key y) ≡ true → x.number ≤ y.number
  number_rises x y before = grind (arith, nat_tests, before)

  not_behind : (e : Entry) (entries : List Entry) → AllByRecursion (λ y. e.number < y.number) entries → (x y : NumberedName) → IsBefore numbered_key x y → list_any (is_under x) entries ≡ true → is_under y e ≡ false
  not_behind e entries later x y before also = elim (cases_Bool (is_under y e)) [
    | inl mine ↦
        let same = same_number e y mine in
        let above = later_number e.number x entries later also in
        let rises = number_rises x y before in
        absurd (omega (arith, same, above, rises))
    | inr other ↦ other
  ]

  -- the names under numbers that rise, number by number, are those under any of them
  gathered : (rows : List NumberedName) → AllInOrder (IsBefore numbered_key) rows → (entries : List Entry) → AllInOrder is_later entries
      → flat_map (λ e. filter (λ row. is_under row e) rows) entries ≡ filter (λ row. list_any (is_under row) entries) rows
  gathered rows order [] rises = sym (none_kept (λ (row : NumberedName). list_any (is_under row) []) rows (all_fail rows))
    where
      all_fail : (xs : List NumberedName) → AllByRecursion (λ (row : NumberedName). list_any (is_under row) [] ≡ false) xs
      all_fail [] = tt
      all_fail (x ∷ xs) = (refl, all_fail xs)
  gathered rows order (e ∷ entries) rises =
      ap (λ rest. filter (λ row. is_under row e) rows ++ rest) (gathered rows order entries rises.1)
      ∙ both_parts (λ row. is_under row e) (λ row. list_any (is_under row) entries) (not_both e entries rises.0) rows
      (ordered_by (IsBefore numbered_key) (λ x y. list_any (is_under x) entries ≡ true → is_under y e ≡ false) (not_behind e entries rises.0) rows order)

  number_later : (x y : Entry) → (x.key == a) ≡ true → (y.key == a) ≡ true → key_before (entry_key x) (entry_key y) ≡ true → x.number < y.number
  number_later x y one other before = grind (arith, nat_tests, one, other, before)

  numbers_later : (x : Entry) → (x.key == a) ≡ true → (entries : List Entry) → AllByRecursion (IsBefore entry_key x) entries → AllByRecursion (is_later x) (filter (λ e. e.key == a) entries)
  numbers_later x one [] all = tt
  numbers_later x one (y ∷ ys) all = elim (cases_Bool (y.key == a)) [
    | inl mine ↦ rw mine (number_later x y one mine all.0, numbers_later x one ys all.1)
    | inr other ↦ rw other (numbers_later x one ys all.1)
  ]

  -- the numbers under one activity rise
  numbers_rise : (entries : List Entry) → AllInOrder (IsBefore entry_key) entries → AllInOrder is_later (filter (λ e. e.key == a) entries)
  numbers_rise [] order = tt
  numbers_rise (x ∷ xs) order = elim (cases_Bool (x.key == a)) [
    | inl mine ↦ rw mine (numbers_later x mine xs order.0, numbers_rise xs order.1)
    | inr other ↦ rw other (numbers_rise xs order.1)
  ]

texts_joined : (f : Entry → List NumberedName) (entries : List Entry) → flat_map (λ e. map (λ row. row.named.name) (f e)) entries ≡ map (λ (row : NumberedName). row.named.name) (flat_map f entries)
texts_joined f [] = refl
texts_joined f (e ∷ entries) =
    ap (λ rest. map (λ (row : NumberedName). row.named.name) (f e) ++ rest) (texts_joined f entries)
    ∙ sym (map-append (λ (row : NumberedName). row.named.name) (f e) (flat_map f entries))

texts_kept : (rows : List NumberedName) → map (λ (row : NumberedName). row.named.name) rows ≡ map (λ (row : Named). row.name) (as_kept rows)
texts_kept [] = refl
texts_kept (x ∷ xs) = ap (λ rest. x.named.name ∷ rest) (texts_kept xs)

-- the texts under the activity's numbers, put in byte order, are its names
pub own_texts : (a : ℕ) (rows : List NumberedName) (entries : List Entry) → Rises numbered_key rows → Rises entry_key entries → AreFiled rows entries
    → sorted is_below (flat_map (λ e. texts_under a rows e.number) (filter (λ e. e.key == a) entries)) ≡ map (λ row. row.name) (filter (λ row. row.activity.0 == a) (in_byte_order rows))
own_texts a rows entries rises also filed =
    let mine = filter (λ (row : NumberedName). row.named.activity.0 == a) rows in
    let names = gathered a rows (in_order numbered_key rows rises) (filter (λ e. e.key == a) entries) (numbers_rise a entries (in_order entry_key entries also)) ∙ under_own_entries a rows entries filed.found in
    ap (sorted is_below) (texts_joined (λ e. filter (λ row. is_pair e.number a (numbered_key row)) rows) (filter (λ e. e.key == a) entries) ∙ ap (map (λ (row : NumberedName). row.named.name)) names ∙ texts_kept mine)
    ∙ sym (sorted_mapped (λ (row : Named). row.name) is_below (as_kept mine))
    ∙ ap (map (λ (row : Named). row.name)) (order_filter (λ (row : Named). row.activity.0 == a) rows filed.once)
