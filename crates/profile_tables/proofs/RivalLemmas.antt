-- Each row that has one of the unique values is found by its number under the value's.
use Rattle.std.proofs.Common.{◌≡◌, ℕ, ℤ, ◌<◌, ◌≤◌, ◌==◌, Bool, true, false, List, [], ◌∷◌, Option, Some, None, map, refl, sym, ap, subst, ◌∙◌, arith, inl, inr}
use Rattle.std.specs.Prelude.{not, ◌&&◌, int_lt}
use Rattle.std.specs.Str.{bytes_eq}
use Rattle.std.specs.Int.{w64, cast_unsigned}
use Rattle.std.specs.List.{AllByRecursion, filter, list_any, sum_by}
use Rattle.std.proofs.lemmas.Bool.{cases_Bool, and_parts}
use Rattle.std.proofs.lemmas.Bool.Decides.{nat_tests}
use Rattle.std.proofs.lemmas.Int.{ints}
use Rattle.std.proofs.lemmas.List.Sums.{sum_by-cons}
use Rattle.std.proofs.lemmas.Slice.Eq.{bytes_eq-Decides}
use Rattle.script_meaning.specs.Same.{same_bool, same_int, same_option, same_value}
use Rattle.slee_value.specs.declared.value.Value.{Value}
use Rattle.slee_value.specs.declared.value.Value.TheVariants as values
use Rattle.router_state.specs.Profiles.{row_before, value_of}
use Rattle.router_state.specs.declared.rows.ProfileRow.{ProfileRow}
use Rattle.rows_sorted.proofs.OrderLemmas.{all_from_all}
use Rattle.rows_index.specs.declared.entry.Entry.{Entry}
use Rattle.rows_index.proofs.FoundLemmas.{all_two}
use Rattle.rows_index.specs.declared.tally.Tally.{Tally}
use Rattle.rows_index.specs.Tallies.{count_at, is_of, one_of, IsTally}
use Rattle.rows_index.proofs.CountLemmas.{count_is, one_entry, own_key, tally_there}
use Rattle.rows_index.specs.Numbers.{number_of}
use Rattle.rows_index.proofs.ItemLemmas.{map_all}
use Rattle.rows_index.proofs.SortLemmas.{all_sorted}
use Rattle.profile_tables.specs.Faults.{alike_in}
use Rattle.profile_tables.specs.Keeping.{as_kept, in_byte_order, AreFiled}
use Rattle.profile_tables.specs.Unique.{is_rival_in, number_in, row_entries, unique_of, value_entry, value_key, value_number, AreUnder}
use Rattle.profile_tables.specs.declared.numbered.NumberedRow.{NumberedRow}
use Rattle.profile_tables.specs.declared.table_spec.TableSpec.{TableSpec}
use Rattle.profile_tables.proofs.FilingLemmas.{chain, item_of, number_same, one_way}

not_both : (n m : ℤ) → same_int n m ≡ true → n ≡ m
not_both n m is =
    let parts = and_parts (not (int_lt n m)) (not (int_lt m n)) is in
    let one : int_lt n m ≡ false = turned (int_lt n m) parts.0 in
    let other : int_lt m n ≡ false = turned (int_lt m n) parts.1 in
    omega (arith, ints, one, other)
  where
    turned : (b : Bool) → not b ≡ true → b ≡ false
    turned true is = cc
    turned false is = refl

same_flag : (x y : Bool) → same_bool x y ≡ true → x ≡ y
same_flag true true is = refl
same_flag true false is = cc
same_flag false true is = cc
same_flag false false is = refl

same_number : (v w : Value) → same_value v w ≡ true → value_number v ≡ value_number w
same_number (values.Int n) (values.Int m) is = ap (cast_unsigned w64) (not_both n m is)
same_number (values.Int n) (values.Text y) is = cc
same_number (values.Int n) (values.Bool y) is = cc
same_number (values.Int n) (values.Activity y) is = cc
same_number (values.Int n) (values.Timer y) is = cc
same_number (values.Text x) (values.Int m) is = cc
same_number (values.Text x) (values.Text y) is = ap (λ (text : List ℕ). value_number (values.Text text)) ((bytes_eq-Decides x y).0 is)
same_number (values.Text x) (values.Bool y) is = cc
same_number (values.Text x) (values.Activity y) is = cc
same_number (values.Text x) (values.Timer y) is = cc
same_number (values.Bool x) (values.Int m) is = cc
same_number (values.Bool x) (values.Text y) is = cc
same_number (values.Bool x) (values.Bool y) is = ap (λ (flag : Bool). value_number (values.Bool flag)) (same_flag x y is)
same_number (values.Bool x) (values.Activity y) is = cc
same_number (values.Bool x) (values.Timer y) is = cc
same_number (values.Activity x) (values.Int m) is = cc
same_number (values.Activity x) (values.Text y) is = cc
same_number (values.Activity x) (values.Bool y) is = cc
same_number (values.Activity x) (values.Activity y) is = grind (arith, nat_tests, is)
same_number (values.Activity x) (values.Timer y) is = cc
same_number (values.Timer x) (values.Int m) is = cc
same_number (values.Timer x) (values.Text y) is = cc
same_number (values.Timer x) (values.Bool y) is = cc
same_number (values.Timer x) (values.Activity y) is = cc
same_number (values.Timer x) (values.Timer y) is = grind (arith, nat_tests, is)

same_in : (x y : List (List ℕ × Value)) (name : List ℕ) → alike_in x y name ≡ true → number_in x name ≡ number_in y name
same_in x y name is = by (value_of x name) (value_of y name) refl refl is
  where
    by : (v w : Option Value) → value_of x name ≡ v → value_of y name ≡ w → same_option same_value (value_of x name) (value_of y name) ≡ true → number_in x name ≡ number_in y name
    by None None one other is = rw (one, other) refl
    by None (Some w) one other is = let wrong : false ≡ true = rw (one, other) at is in cc
    by (Some v) None one other is = let wrong : false ≡ true = rw (one, other) at is in cc
    by (Some v) (Some w) one other is = let same : same_value v w ≡ true = rw (one, other) at is in rw (one, other) (same_number v w same)

-- each name's entry is counted among those of all names
each_counted : (names : List (List ℕ)) → AllByRecursion (λ u. (f : List ℕ → Entry) (e : Entry) → one_of e (f u) ≤ sum_by (one_of e) (map f names)) names
each_counted [] = tt
each_counted (x ∷ xs) = (
  (λ f e. let step = sum_by-cons (one_of e) (f x) (map f xs) in omega (arith, step)),
  all_from_all (λ u. (f : List ℕ → Entry) (e : Entry) → one_of e (f u) ≤ sum_by (one_of e) (map f xs)) (λ u. (f : List ℕ → Entry) (e : Entry) → one_of e (f u) ≤ sum_by (one_of e) (map f (x ∷ xs)))
      (λ u low f e. let step = sum_by-cons (one_of e) (f x) (map f xs) in let rest = low f e in omega (arith, step, rest)) xs (each_counted xs),
)

-- each row's measure is within that of all rows
each_within : (rows : List NumberedRow) → AllByRecursion (λ row. (g : NumberedRow → ℕ) → g row ≤ sum_by g rows) rows
each_within [] = tt
each_within (x ∷ xs) = (
  (λ g. let step = sum_by-cons g x xs in omega (arith, step)),
  all_from_all (λ row. (g : NumberedRow → ℕ) → g row ≤ sum_by g xs) (λ row. (g : NumberedRow → ℕ) → g row ≤ sum_by g (x ∷ xs)) (λ row low g. let step = sum_by-cons g x xs in let rest = low g in omega (arith, step, rest)) xs (each_within xs),
)

-- a tally of an entry leads to its number from its key
tally_leads : (e : Entry) (k n : ℕ) → e.key ≡ k → n ≡ e.number → (ts : List Tally) → list_any (is_of e) ts ≡ true → list_any (λ t. n == t.entry.number) (filter (λ t. t.entry.key == k) ts) ≡ true
tally_leads e k n key number [] there = cc
tally_leads e k n key number (t ∷ ts) there = elim (cases_Bool (is_of e t)) [
  | inl mine ↦
      let same = one_entry t.entry e mine in
      let here : (t.entry.key == k) ≡ true = number_same t.entry.key k (ap (λ (x : Entry). x.key) same ∙ key) in
      let first : (n == t.entry.number) ≡ true = number_same n t.entry.number (number ∙ sym (ap (λ (x : Entry). x.number) same)) in
      rw (here, first) refl
  | inr other ↦
      let rest = tally_leads e k n key number ts (rw other at there) in
      elim (cases_Bool (t.entry.key == k)) [
        | inl here ↦ elim (cases_Bool (n == t.entry.number)) [ inl first ↦ rw (here, first) refl | inr differ ↦ rw (here, differ) rest ]
        | inr away ↦ rw away rest
      ]
]

module _ (tables : List TableSpec) (asked : ProfileRow) (rows : List NumberedRow) (ts : List Tally) (filed : AreFiled rows) (tally : IsTally (row_entries tables) rows ts) where
  -- the entry of this attribute is among those of each row of the table
  abbrev IsCounted : List ℕ → Type 0
  IsCounted u = (f : List ℕ → Entry) (e : Entry) → one_of e (f u) ≤ sum_by (one_of e) (map f (unique_of tables asked.table))

  -- a row that has the value of this attribute is found under it
  abbrev IsFound : List ℕ → ProfileRow → Type 0
  IsFound u other = is_rival_in asked u other ≡ true → list_any (λ t. number_of other.row == t.entry.number) (filter (λ t. t.entry.key == value_key asked.table asked.attributes u) ts) ≡ true

  found_row : (u : List ℕ) → IsCounted u → (row : NumberedRow) → row.number ≡ number_of row.item.row → ((g : NumberedRow → ℕ) → g row ≤ sum_by g rows) → IsFound u row.item
  found_row u counted row number within is =
      let item = row.item in
      let parts = and_parts (item.table == asked.table) (not (bytes_eq item.row asked.row) && alike_in asked.attributes item.attributes u) is in
      let alike = (and_parts (not (bytes_eq item.row asked.row)) (alike_in asked.attributes item.attributes u) parts.1).1 in
      let table : item.table ≡ asked.table = let same = parts.0 in grind (arith, nat_tests, same) in
      let value = same_in asked.attributes item.attributes u alike in
      let e = value_entry item.table item.attributes row.number u in
      let key : e.key ≡ value_key asked.table asked.attributes u = rw (table, ← value) refl in
      let own : one_of e e ≡ 1 = rw (own_key e) refl in
      let low = subst (λ (n : ℕ). one_of e e ≤ sum_by (one_of e) (map (value_entry item.table item.attributes row.number) (unique_of tables n))) (sym table) (counted (value_entry item.table item.attributes row.number) e) in
      let all = within (λ r. sum_by (one_of e) (row_entries tables r)) in
      let count = count_is (row_entries tables) e rows ts tally in
      let some : 0 < count_at ts e = omega (arith, own, low, all, count) in
      tally_leads e (value_key asked.table asked.attributes u) (number_of item.row) key (sym number) ts (tally_there e ts some)

  under : (u : List ℕ) → IsCounted u → AreUnder (in_byte_order rows) ts asked u
  under u counted =
      all_sorted row_before one_way chain (IsFound u) (as_kept rows)
      (map_all item_of (IsFound u) rows
      (all_two (λ (row : NumberedRow). row.number ≡ number_of row.item.row) (λ row. (g : NumberedRow → ℕ) → g row ≤ sum_by g rows) (λ row. IsFound u row.item) (λ row number within. found_row u counted row number within) rows filed.numbered (each_within rows)))

  -- each row that has one of the unique values is found under it
  pub all_under : AllByRecursion (AreUnder (in_byte_order rows) ts asked) (unique_of tables asked.table)
  all_under = all_from_all IsCounted (AreUnder (in_byte_order rows) ts asked) (λ u counted. under u counted) (unique_of tables asked.table) (each_counted (unique_of tables asked.table))
