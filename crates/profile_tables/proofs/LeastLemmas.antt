-- The least of rows in byte order that pass a test, found among parts of them.
use Rattle.std.proofs.Common.{◌≡◌, ℕ, ◌==◌, Bool, true, false, List, [], ◌∷◌, Option, Some, None, refl, sym, ap, ◌∙◌, arith, inl, inr}
use Rattle.std.specs.Prelude.{◌&&◌, ◌||◌, nat_lt}
use Rattle.std.specs.Str.{bytes_eq}
use Rattle.std.specs.List.{AllByRecursion, filter, find, list_any}
use Rattle.std.proofs.lemmas.Bool.{cases_Bool, and_parts}
use Rattle.std.proofs.lemmas.Bool.Decides.{nat_tests}
use Rattle.std.proofs.lemmas.Slice.Eq.{bytes_eq-Decides}
use Rattle.slee_value.specs.Order.{is_below}
use Rattle.rows_sorted.specs.Orders.{sorted}
use Rattle.router_state.specs.Profiles.{is_row, row_before}
use Rattle.router_state.specs.declared.rows.ProfileRow.{ProfileRow}
use Rattle.rows_sorted.specs.Keys.{is_pair, key_before, Rises}
use Rattle.router_state.specs.Keys.{profile_row_key}
use Rattle.rows_sorted.proofs.OrderLemmas.{AllInOrder, IsBefore, all_from_all, filter_rises, in_order}
use Rattle.rows_sorted.proofs.PartLemmas.{parted_by_key}
use Rattle.rows_index.proofs.SumLemmas.{all_passed}
use Rattle.rows_index.specs.declared.tally.Tally.{Tally}
use Rattle.rows_index.specs.Numbers.{number_of}
use Rattle.rows_index.proofs.ItemLemmas.{filter_agree, find_agree, map_filter}
use Rattle.rows_index.proofs.SortLemmas.{IsAhead, sorted_again, sorted_filter}
use Rattle.profile_tables.specs.Faults.{alike_in, is_rival}
use Rattle.profile_tables.specs.Keeping.{as_kept, in_byte_order, numbered_key, AreFiled}
use Rattle.profile_tables.specs.Unique.{earlier, is_rival_in}
use Rattle.profile_tables.specs.declared.numbered.NumberedRow.{NumberedRow}
use Rattle.profile_tables.proofs.FilingLemmas.{chain, item_of, one_way, row_order}

pub earlier_none : (o : Option ProfileRow) → earlier o None ≡ o
earlier_none None = refl
earlier_none (Some x) = refl

same_key : (x y : ProfileRow) → is_row x.table x.row y ≡ true → profile_row_key y ≡ profile_row_key x
same_key x y is =
    let parts = and_parts (y.table == x.table) (bytes_eq y.row x.row) is in
    let tables : y.table ≡ x.table = let same = parts.0 in grind (arith, nat_tests, same) in
    let names : y.row ≡ x.row = (bytes_eq-Decides y.row x.row).0 parts.1 in
    λ i. record { first = tables i; second = 0; text = names i }

-- what isn't before the second of three isn't before the first
not_before : (x y z : ProfileRow) → row_before y x ≡ false → row_before z y ≡ false → row_before z x ≡ false
not_before x y z one two = elim (cases_Bool (row_before z x)) [
  | inl low ↦ elim (cases_Bool (is_row x.table x.row y)) [
    | inl same ↦ let wrong : true ≡ false = sym low ∙ (λ i. key_before (profile_row_key z) (sym (same_key x y same) i)) ∙ two in cc
    | inr other ↦
        let behind = (parted_by_key profile_row_key (profile_row_key x)).neither y one other in
        let wrong : true ≡ false = sym (chain z x y low behind) ∙ two in cc
  ]
  | inr high ↦ high
]

pub earlier_joins : (a b c : Option ProfileRow) → earlier (earlier a b) c ≡ earlier a (earlier b c)
earlier_joins None b c = refl
earlier_joins (Some x) None c = refl
earlier_joins (Some x) (Some y) None = earlier_none (earlier (Some x) (Some y))
earlier_joins (Some x) (Some y) (Some z) = elim (cases_Bool (row_before y x)) [
  | inl first ↦ elim (cases_Bool (row_before z y)) [
    | inl second ↦ rw (first, second, chain z y x second first) refl
    | inr high ↦ rw (first, high, first) refl
  ]
  | inr other ↦ elim (cases_Bool (row_before z y)) [
    | inl second ↦ rw (other, second) refl
    | inr high ↦ rw (other, high, not_before x y z other high, other) refl
  ]
]

found_later : (q : ProfileRow → Bool) (y : ProfileRow) (ys : List ProfileRow) → AllByRecursion (IsAhead row_before y) ys → earlier (Some y) (find q ys) ≡ Some y
found_later q y [] later = refl
found_later q y (z ∷ zs) later = elim (cases_Bool (q z)) [
  | inl mine ↦ rw (mine, one_way y z later.0) refl
  | inr other ↦ rw other (found_later q y zs later.1)
]

found_first : (q : ProfileRow → Bool) (y : ProfileRow) (ys : List ProfileRow) → AllByRecursion (IsAhead row_before y) ys → earlier (find q ys) (Some y) ≡ Some y
found_first q y [] later = refl
found_first q y (z ∷ zs) later = elim (cases_Bool (q z)) [
  | inl mine ↦ rw (mine, later.0) refl
  | inr other ↦ rw other (found_first q y zs later.1)
]

itself : (y : ProfileRow) → earlier (Some y) (Some y) ≡ Some y
itself y = elim (cases_Bool (row_before y y)) [ inl low ↦ rw low refl | inr high ↦ rw high refl ]

-- the least that passes one of two tests
pub find_or : (p q : ProfileRow → Bool) (xs : List ProfileRow) → AllInOrder (IsAhead row_before) xs → find (λ x. p x || q x) xs ≡ earlier (find p xs) (find q xs)
find_or p q [] order = refl
find_or p q (x ∷ xs) order = elim (cases_Bool (p x)) [
  | inl one ↦ elim (cases_Bool (q x)) [
    | inl two ↦ rw (one, two) (sym (itself x))
    | inr other ↦ rw (one, other) (sym (found_later q x xs order.0))
  ]
  | inr first ↦ elim (cases_Bool (q x)) [
    | inl two ↦ rw (first, two) (sym (found_first p x xs order.0))
    | inr other ↦ rw (first, other) (find_or p q xs order.1)
  ]
]

pub each : {X : Type 0} (P : X → Type 0) → ((x : X) → P x) → (xs : List X) → AllByRecursion P xs
each P all [] = tt
each P all (x ∷ xs) = (all x, each P all xs)

find_filter : (p q : ProfileRow → Bool) (xs : List ProfileRow) → find p (filter q xs) ≡ find (λ x. p x && q x) xs
find_filter p q [] = refl
find_filter p q (x ∷ xs) = elim (cases_Bool (q x)) [
  | inl stays ↦ elim (cases_Bool (p x)) [
    | inl mine ↦ rw (stays, mine) refl
    | inr other ↦ rw (stays, other) (find_filter p q xs)
  ]
  | inr goes ↦ elim (cases_Bool (p x)) [
    | inl mine ↦ rw (goes, mine) (find_filter p q xs)
    | inr other ↦ rw (goes, other) (find_filter p q xs)
  ]
]

module _ (n table : ℕ) where
  -- the row is of the table and has the number
  abbrev of_number : ProfileRow → Bool
  of_number row = (number_of row.row == n) && (row.table == table)

  pair_before : (x y : NumberedRow) → is_pair n table (numbered_key x) ≡ true → is_pair n table (numbered_key y) ≡ true → IsBefore numbered_key x y → IsAhead row_before x.item y.item
  pair_before x y mine also before =
      let one = and_parts (x.number == n) (x.item.table == table) mine in
      let two = and_parts (y.number == n) (y.item.table == table) also in
      let first : (x.number == y.number) ≡ true = grind (arith, nat_tests, one.0, two.0) in
      let high : nat_lt x.number y.number ≡ false = grind (arith, nat_tests, one.0, two.0) in
      let second : (x.item.table == y.item.table) ≡ true = grind (arith, nat_tests, one.1, two.1) in
      let same : nat_lt x.item.table y.item.table ≡ false = grind (arith, nat_tests, one.1, two.1) in
      let is : is_below x.item.row y.item.row ≡ true = rw (high, first, same, second) at before in
      rw (same, second) is

  all_ahead : (x : NumberedRow) (ys : List NumberedRow) → is_pair n table (numbered_key x) ≡ true → AllByRecursion (λ row. is_pair n table (numbered_key row) ≡ true) ys → AllByRecursion (IsBefore numbered_key x) ys → AllByRecursion (IsAhead row_before x.item) (as_kept ys)
  all_ahead x [] mine all later = tt
  all_ahead x (y ∷ ys) mine all later = (pair_before x y mine all.0 later.0, all_ahead x ys mine all.1 later.1)

  items_in_order : (rows : List NumberedRow) → AllByRecursion (λ row. is_pair n table (numbered_key row) ≡ true) rows → AllInOrder (IsBefore numbered_key) rows → AllInOrder (IsAhead row_before) (as_kept rows)
  items_in_order [] all order = tt
  items_in_order (x ∷ xs) all order = (all_ahead x xs all.0 all.1 order.0, items_in_order xs all.1 order.1)

  -- the rows of one number and table are kept in byte order
  pair_in_order : (rows : List NumberedRow) → Rises numbered_key rows → AreFiled rows → as_kept (filter (λ row. is_pair n table (numbered_key row)) rows) ≡ filter of_number (in_byte_order rows)
  pair_in_order rows rises filed =
      let pair = λ (row : NumberedRow). is_pair n table (numbered_key row) in
      let left = filter pair rows in
      let agree : left ≡ filter (λ row. of_number row.item) rows = filter_agree pair (λ (row : NumberedRow). of_number row.item) rows
      (all_from_all (λ (row : NumberedRow). row.number ≡ number_of row.item.row) (λ row. pair row ≡ of_number row.item) (λ row is. ap (λ (m : ℕ). (m == n) && (row.item.table == table)) is) rows filed.numbered) in
      let items : as_kept left ≡ filter of_number (as_kept rows) = ap as_kept agree ∙ map_filter item_of of_number rows in
      let order = items_in_order left (all_passed pair rows) (in_order numbered_key left (filter_rises numbered_key pair rows rises)) in
      sym (sorted_again row_before one_way chain (as_kept left) order)
      ∙ ap (sorted row_before) items
      ∙ sorted_filter row_before one_way chain of_number (as_kept rows) (row_order rows filed)

module _ (asked : ProfileRow) (name : List ℕ) where
  rival_table : (n : ℕ) (row : ProfileRow) → (is_rival_in asked name row && ((number_of row.row == n) && (row.table == asked.table))) ≡ (is_rival_in asked name row && (number_of row.row == n))
  rival_table n row = elim (cases_Bool (row.table == asked.table)) [
    | inl mine ↦ elim (cases_Bool (number_of row.row == n)) [
      | inl same ↦ rw (mine, same) refl
      | inr differ ↦ rw (mine, differ) refl
    ]
    | inr other ↦ rw other refl
  ]

  -- of the rows of one number, the first that is kept is the least
  pub numbered_rival : (n : ℕ) (rows : List NumberedRow) → Rises numbered_key rows → AreFiled rows
      → find (is_rival_in asked name) (as_kept (filter (λ row. is_pair n asked.table (numbered_key row)) rows)) ≡ find (λ row. is_rival_in asked name row && (number_of row.row == n)) (in_byte_order rows)
  numbered_rival n rows rises filed =
      ap (find (is_rival_in asked name)) (pair_in_order n asked.table rows rises filed)
      ∙ find_filter (is_rival_in asked name) (of_number n asked.table) (in_byte_order rows)
      ∙ find_agree (λ row. is_rival_in asked name row && ((number_of row.row == n) && (row.table == asked.table))) (λ row. is_rival_in asked name row && (number_of row.row == n)) (in_byte_order rows)
      (each (λ row. (is_rival_in asked name row && ((number_of row.row == n) && (row.table == asked.table))) ≡ (is_rival_in asked name row && (number_of row.row == n))) (rival_table n) (in_byte_order rows))

  -- one of the tallies is of the row's number
  abbrev pub is_among : List Tally → ProfileRow → Bool
  is_among ts row = list_any (λ (t : Tally). number_of row.row == t.entry.number) ts

  parted : (a b c : Bool) → (a && (b || c)) ≡ ((a && b) || (a && c))
  parted true b c = refl
  parted false b c = refl

  -- the least under the tallies is that under the first of them or under the others
  pub next_rival : (t : Tally) (ts : List Tally) (xs : List ProfileRow) → AllInOrder (IsAhead row_before) xs
      → find (λ row. is_rival_in asked name row && is_among (t ∷ ts) row) xs ≡ earlier (find (λ row. is_rival_in asked name row && (number_of row.row == t.entry.number)) xs) (find (λ row. is_rival_in asked name row && is_among ts row) xs)
  next_rival t ts xs order =
      let one = λ (row : ProfileRow). is_rival_in asked name row && (number_of row.row == t.entry.number) in
      let rest = λ (row : ProfileRow). is_rival_in asked name row && is_among ts row in
      find_agree (λ row. is_rival_in asked name row && is_among (t ∷ ts) row) (λ row. one row || rest row) xs
      (each (λ row. (is_rival_in asked name row && is_among (t ∷ ts) row) ≡ (one row || rest row)) (λ row. parted (is_rival_in asked name row) (number_of row.row == t.entry.number) (is_among ts row)) xs)
      ∙ find_or one rest xs order

  and_none : (a : Bool) → (a && false) ≡ false
  and_none true = refl
  and_none false = refl

  find_none : (p : ProfileRow → Bool) (xs : List ProfileRow) → ((row : ProfileRow) → p row ≡ false) → find p xs ≡ None
  find_none p [] none = refl
  find_none p (x ∷ xs) none = rw (none x) (find_none p xs none)

  pub no_tally : (xs : List ProfileRow) → find (λ row. is_rival_in asked name row && is_among [] row) xs ≡ None
  no_tally xs = find_none (λ row. is_rival_in asked name row && is_among [] row) xs (λ row. and_none (is_rival_in asked name row))

  both_agree : (a b : Bool) → (a ≡ true → b ≡ true) → (a && b) ≡ a
  both_agree true b follows = follows refl
  both_agree false b follows = refl

  -- where each row that has the value is under the tallies, the least of these is the least of all
  pub under_all : (ts : List Tally) (xs : List ProfileRow) → AllByRecursion (λ row. is_rival_in asked name row ≡ true → is_among ts row ≡ true) xs → find (λ row. is_rival_in asked name row && is_among ts row) xs ≡ find (is_rival_in asked name) xs
  under_all ts xs all =
      find_agree (λ row. is_rival_in asked name row && is_among ts row) (is_rival_in asked name) xs
      (all_from_all (λ row. is_rival_in asked name row ≡ true → is_among ts row ≡ true) (λ row. (is_rival_in asked name row && is_among ts row) ≡ is_rival_in asked name row) (λ row follows. both_agree (is_rival_in asked name row) (is_among ts row) follows) xs all)

module _ (asked : ProfileRow) where
  parted_rival : (a b c d : Bool) → (a && (b && (c || d))) ≡ ((a && (b && c)) || (a && (b && d)))
  parted_rival true true c d = refl
  parted_rival true false c d = refl
  parted_rival false b c d = refl

  -- the least that has one of the values has the first of them or one of the others
  pub next_name : (name : List ℕ) (names : List (List ℕ)) (xs : List ProfileRow) → AllInOrder (IsAhead row_before) xs → find (is_rival (name ∷ names) asked) xs ≡ earlier (find (is_rival_in asked name) xs) (find (is_rival names asked) xs)
  next_name name names xs order =
      find_agree (is_rival (name ∷ names) asked) (λ row. is_rival_in asked name row || is_rival names asked row) xs
      (each (λ row. is_rival (name ∷ names) asked row ≡ (is_rival_in asked name row || is_rival names asked row))
      (λ row. parted_rival (row.table == asked.table) _ (alike_in asked.attributes row.attributes name) (list_any (alike_in asked.attributes row.attributes) names)) xs)
      ∙ find_or (is_rival_in asked name) (is_rival names asked) xs order

  none_left : (a b : Bool) → (a && (b && false)) ≡ false
  none_left true true = refl
  none_left true false = refl
  none_left false b = refl

  -- where no values are left, none has one
  pub no_name : (xs : List ProfileRow) → find (is_rival [] asked) xs ≡ None
  no_name [] = refl
  no_name (x ∷ xs) = rw (none_left (x.table == asked.table) _) (no_name xs)
