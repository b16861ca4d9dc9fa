-- Rows under the numbers of their names, and in byte order.
use Rattle.std.proofs.Common.{◌≡◌, ℕ, ◌==◌, true, false, List, Option, Some, None, length, refl, sym, ap, ◌∙◌, arith, inl, inr}
use Rattle.std.specs.Prelude.{not, option_map, is_some}
use Rattle.std.specs.List.{AllByRecursion, filter, find, insert, list_any, position_from, prefix_len}
use Rattle.std.specs.List.Sorted.{IsPermutation}
use Rattle.std.specs.Str.{bytes_eq}
use Rattle.std.proofs.lemmas.Bool.{cases_Bool, and_parts}
use Rattle.std.proofs.lemmas.Bool.Decides.{nat_tests}
use Rattle.std.proofs.lemmas.List.{length-map}
use Rattle.std.proofs.lemmas.List.Sorted.{IsPermutation-sym, length_permutation}
use Rattle.std.proofs.lemmas.Slice.Eq.{bytes_eq-Decides}
use Rattle.router_state.specs.Fitting.{has_row}
use Rattle.rows_sorted.specs.Orders.{put}
use Rattle.router_state.specs.Profiles.{is_row, row_before}
use Rattle.router_state.specs.declared.rows.ProfileRow.{ProfileRow}
use Rattle.rows_sorted.specs.Keys.{Key, is_key, key_before, Rises}
use Rattle.router_state.specs.Keys.{profile_row_key}
use Rattle.rows_sorted.proofs.OrderLemmas.{AllInOrder, all_filter, all_from_all, before_joins, filter_rises, in_order, put_rises}
use Rattle.rows_sorted.proofs.PartLemmas.{parted_by_key}
use Rattle.rows_sorted.proofs.RowLemmas.{inserted_is}
use Rattle.rows_index.proofs.FoundLemmas.{all_two}
use Rattle.rows_index.proofs.CountLemmas.{none_stays, put_over}
use Rattle.rows_index.specs.Numbers.{number_of}
use Rattle.rows_index.proofs.ItemLemmas.{all_put, filter_agree, find_agree, map_find, map_place, order_filter, order_insert, place_agrees}
use Rattle.rows_index.proofs.SortLemmas.{AreApart, IsAhead, sorted_finds, sorted_same}
use Rattle.profile_tables.specs.Keeping.{as_kept, in_byte_order, numbered_key, AreFiled}
use Rattle.profile_tables.specs.declared.numbered.NumberedRow.{NumberedRow}
use Rattle.profile_tables.proofs.RowLemmas.{found_any}

pub one_way : (x y : ProfileRow) → row_before x y ≡ true → row_before y x ≡ false
one_way x y ahead = (parted_by_key profile_row_key (profile_row_key y)).low_not_behind x ahead

pub chain : (x y z : ProfileRow) → row_before x y ≡ true → row_before y z ≡ true → row_before x z ≡ true
chain x y z one two = before_joins (profile_row_key x) (profile_row_key y) (profile_row_key z) one two

-- what is seen of a row
abbrev pub item_of : NumberedRow → ProfileRow
item_of row = row.item

-- the rows in byte order stand one before the other
pub row_order : (rows : List NumberedRow) → AreFiled rows → AllInOrder (IsAhead row_before) (in_byte_order rows)
row_order rows filed = in_order profile_row_key (in_byte_order rows) filed.once

pub number_same : (n m : ℕ) → n ≡ m → (n == m) ≡ true
number_same n m is = grind (arith, nat_tests, is)

-- the key of a table's row by its name
abbrev pub key_of : ℕ → List ℕ → Key
key_of table name = record { first = number_of name; second = table; text = name }

-- a row under the number of its name is found by it
keyed_row : (table : ℕ) (name : List ℕ) (row : NumberedRow) → row.number ≡ number_of row.item.row → is_key (numbered_key row) (key_of table name) ≡ is_row table name row.item
keyed_row table name row number = elim (cases_Bool (is_row table name row.item)) [
  | inl mine ↦
      let parts = and_parts (row.item.table == table) (bytes_eq row.item.row name) mine in
      let text : row.item.row ≡ name = (bytes_eq-Decides row.item.row name).0 parts.1 in
      let same : (row.number == number_of name) ≡ true = number_same row.number (number_of name) (number ∙ ap number_of text) in
      rw (same, parts.0, parts.1) refl
  | inr other ↦ elim (cases_Bool (row.number == number_of name)) [
    | inl first ↦ rw first refl
    | inr differ ↦ rw differ (sym other)
  ]
]

pub each_keyed : (table : ℕ) (name : List ℕ) (rows : List NumberedRow) → AreFiled rows → AllByRecursion (λ row. is_key (numbered_key row) (key_of table name) ≡ is_row table name row.item) rows
each_keyed table name rows filed =
    all_from_all (λ (row : NumberedRow). row.number ≡ number_of row.item.row) (λ row. is_key (numbered_key row) (key_of table name) ≡ is_row table name row.item) (λ row number. keyed_row table name row number) rows filed.numbered

same_row : (table : ℕ) (name : List ℕ) (x y : ProfileRow) → is_row table name x ≡ true → is_row table name y ≡ true → is_row y.table y.row x ≡ true
same_row table name x y mine also =
    let one = and_parts (x.table == table) (bytes_eq x.row name) mine in
    let two = and_parts (y.table == table) (bytes_eq y.row name) also in
    let left : x.table ≡ table = let is = one.0 in grind (arith, nat_tests, is) in
    let right : y.table ≡ table = let is = two.0 in grind (arith, nat_tests, is) in
    let tables : (x.table == y.table) ≡ true = number_same x.table y.table (left ∙ sym right) in
    let first : x.row ≡ name = (bytes_eq-Decides x.row name).0 one.1 in
    let second : y.row ≡ name = (bytes_eq-Decides y.row name).0 two.1 in
    let names : bytes_eq x.row y.row ≡ true = (bytes_eq-Decides x.row y.row).1 (first ∙ sym second) in
    rw (tables, names) refl

-- other rows are apart
apart_rows : (x y : ProfileRow) → is_row x.table x.row y ≡ false → AreApart row_before x y
apart_rows x y other = elim (cases_Bool (row_before y x)) [
  | inl low ↦ rw low ((parted_by_key profile_row_key (profile_row_key x)).low_not_behind y low)
  | inr high ↦ rw high ((parted_by_key profile_row_key (profile_row_key x)).neither y high other)
]

-- and rows that are apart are others
rows_apart : (x y : ProfileRow) → AreApart row_before x y → is_row y.table y.row x ≡ true → true ≡ false
rows_apart x y apart same =
    let laws = parted_by_key profile_row_key (profile_row_key y) in
    let low : row_before x y ≡ false = laws.mine_not_low x same in
    let high : row_before y x ≡ false = laws.mine_not_behind x same in
    let is : false ≡ not (row_before y x) = rw low at apart in
    sym (rw high at is)

once_row : (table : ℕ) (name : List ℕ) (x y : ProfileRow) → AreApart row_before x y → is_row table name x ≡ true → is_row table name y ≡ false
once_row table name x y apart mine = elim (cases_Bool (is_row table name y)) [
  | inl also ↦ let wrong = rows_apart x y apart (same_row table name x y mine also) in cc
  | inr other ↦ other
]

-- the row of a key is the one in byte order
pub found_in_order : (table : ℕ) (name : List ℕ) (rows : List NumberedRow) → AreFiled rows
    → option_map (λ row. row.item) (find (λ row. is_key (numbered_key row) (key_of table name)) rows) ≡ find (is_row table name) (in_byte_order rows)
found_in_order table name rows filed =
    ap (option_map (λ (row : NumberedRow). row.item)) (find_agree (λ (row : NumberedRow). is_key (numbered_key row) (key_of table name)) (λ row. is_row table name row.item) rows (each_keyed table name rows filed))
    ∙ map_find item_of (is_row table name) rows
    ∙ sym (sorted_finds row_before one_way chain (is_row table name) (once_row table name) (as_kept rows) (row_order rows filed))

some_mapped : {X Y Z : Type 0} (f : Y → Z) (g : X → Y) (o : Option X) → is_some (option_map (λ x. f (g x)) o) ≡ is_some (option_map f (option_map g o))
some_mapped f g None = refl
some_mapped f g (Some x) = refl

-- and it is there where that one is
pub has_in_order : (table : ℕ) (name : List ℕ) (rows : List NumberedRow) → AreFiled rows → list_any (λ row. is_key (numbered_key row) (key_of table name)) rows ≡ has_row (in_byte_order rows) table name
has_in_order table name rows filed =
    let q = λ (row : NumberedRow). is_key (numbered_key row) (key_of table name) in
    sym (found_any (λ (row : NumberedRow). row.item.attributes) q rows)
    ∙ some_mapped (λ (row : ProfileRow). row.attributes) item_of (find q rows)
    ∙ ap (λ (o : Option ProfileRow). is_some (option_map (λ (row : ProfileRow). row.attributes) o)) (found_in_order table name rows filed)

-- the place of a key is that of its row
pub place_in_order : (table : ℕ) (name : List ℕ) (rows : List NumberedRow) → AreFiled rows → position_from (λ row. is_key (numbered_key row) (key_of table name)) 0 rows ≡ position_from (is_row table name) 0 (as_kept rows)
place_in_order table name rows filed =
    place_agrees (λ (row : NumberedRow). is_key (numbered_key row) (key_of table name)) (λ row. is_row table name row.item) 0 rows (each_keyed table name rows filed)
    ∙ map_place item_of (is_row table name) 0 rows

-- a row that goes, goes from those in byte order
pub order_cut : (table : ℕ) (name : List ℕ) (rows : List NumberedRow) → AreFiled rows
    → in_byte_order (filter (λ row. not (is_key (numbered_key row) (key_of table name))) rows) ≡ filter (λ row. not (is_row table name row)) (in_byte_order rows)
order_cut table name rows filed =
    ap in_byte_order (filter_agree (λ (row : NumberedRow). not (is_key (numbered_key row) (key_of table name))) (λ row. not (is_row table name row.item)) rows
    (all_from_all (λ (row : NumberedRow). is_key (numbered_key row) (key_of table name) ≡ is_row table name row.item) (λ row. not (is_key (numbered_key row) (key_of table name)) ≡ not (is_row table name row.item)) (λ row is. ap not is) rows (each_keyed table name rows filed)))
    ∙ order_filter item_of row_before one_way chain (λ (row : ProfileRow). not (is_row table name row)) rows (row_order rows filed)

pub filed_cut : (table : ℕ) (name : List ℕ) (rows : List NumberedRow) → AreFiled rows → AreFiled (filter (λ row. not (is_key (numbered_key row) (key_of table name))) rows)
filed_cut table name rows filed = record {
  numbered = all_filter (λ row. row.number ≡ number_of row.item.row) (λ row. not (is_key (numbered_key row) (key_of table name))) rows filed.numbered;
  once = rw (order_cut table name rows filed) (filter_rises profile_row_key (λ row. not (is_row table name row)) (in_byte_order rows) filed.once);
}

-- the key of a row under the number of its name
pub own_key : (x : NumberedRow) → x.number ≡ number_of x.item.row → numbered_key x ≡ key_of x.item.table x.item.row
own_key x number = λ i. record { first = number i; second = x.item.table; text = x.item.row }

-- a row that is put stands in its place in byte order
pub order_put : (x : NumberedRow) (rows : List NumberedRow) → x.number ≡ number_of x.item.row → Rises numbered_key rows → AreFiled rows
    → in_byte_order (put (λ a b. key_before (numbered_key a) (numbered_key b)) x rows) ≡ put row_before x.item (in_byte_order rows)
order_put x rows number rises filed =
    let table = x.item.table in
    let name = x.item.row in
    let q = λ (row : NumberedRow). is_key (numbered_key row) (numbered_key x) in
    let left = filter (λ row. not (q row)) rows in
    let others = none_stays q rows in
    let own = own_key x number in
    let less : left ≡ filter (λ row. not (is_key (numbered_key row) (key_of table name))) rows = λ i. filter (λ (row : NumberedRow). not (is_key (numbered_key row) (own i))) rows in
    let still : AreFiled left = rw less (filed_cut table name rows filed) in
    let place = prefix_len (λ row. key_before (numbered_key row) (numbered_key x)) left in
    let is : insert left place x ≡ put (λ a b. key_before (numbered_key a) (numbered_key b)) x left =
    inserted_is _ _ _ _ (parted_by_key numbered_key (numbered_key x)) x left (in_order numbered_key left (filter_rises numbered_key (λ row. not (q row)) rows rises)) others in
    let apart = all_two (λ row. is_key (numbered_key row) (key_of table name) ≡ is_row table name row.item) (λ row. q row ≡ false) (λ row. AreApart row_before x.item row.item)
    (λ row keyed other. apart_rows x.item row.item (sym keyed ∙ (λ i. is_key (numbered_key row) (sym own i)) ∙ other)) left (each_keyed table name left still) others in
    ap in_byte_order (sym (put_over numbered_key x rows))
    ∙ ap in_byte_order (sym is)
    ∙ order_insert item_of row_before one_way chain x place left (row_order left still) apart
    ∙ ap (put row_before x.item) (ap in_byte_order less ∙ order_cut table name rows filed)
    ∙ put_over profile_row_key x.item (in_byte_order rows)

pub filed_put : (x : NumberedRow) (rows : List NumberedRow) → x.number ≡ number_of x.item.row → Rises numbered_key rows → AreFiled rows → AreFiled (put (λ a b. key_before (numbered_key a) (numbered_key b)) x rows)
filed_put x rows number rises filed = record {
  numbered = all_put (λ a b. key_before (numbered_key a) (numbered_key b)) (λ row. row.number ≡ number_of row.item.row) x rows number filed.numbered;
  once = rw (order_put x rows number rises filed) (put_rises profile_row_key x.item (in_byte_order rows) filed.once);
}

-- as many rows are kept
pub as_many : (rows : List NumberedRow) → length (in_byte_order rows) ≡ length rows
as_many rows = length_permutation (as_kept rows) (in_byte_order rows) (sorted_same row_before one_way chain (as_kept rows)) ∙ length-map rows (λ row. row.item)

-- and the same ones
pub same_rows : (rows : List NumberedRow) → IsPermutation (in_byte_order rows) (as_kept rows)
same_rows rows = IsPermutation-sym (as_kept rows) (in_byte_order rows) (sorted_same row_before one_way chain (as_kept rows))

-- a row of the key of the one that is put is there where that one's name has a row
pub has_own : (x : NumberedRow) (rows : List NumberedRow) → x.number ≡ number_of x.item.row → AreFiled rows → list_any (λ row. is_key (numbered_key row) (numbered_key x)) rows ≡ has_row (in_byte_order rows) x.item.table x.item.row
has_own x rows number filed = (λ i. list_any (λ (row : NumberedRow). is_key (numbered_key row) (own_key x number i)) rows) ∙ has_in_order x.item.table x.item.row rows filed
