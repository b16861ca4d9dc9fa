-- Names under the numbers of their texts, and in byte order.
use Rattle.std.proofs.Common.{◌≡◌, ℕ, ◌==◌, suc, zero, Bool, true, false, List, [], ◌∷◌, ◌++◌, Some, None, refl, sym, ap, ◌∙◌, arith, inl, inr}
use Rattle.std.specs.Prelude.{not, ◌&&◌, ◌||◌, option_map, IsTrue}
use Rattle.std.specs.List.{AllByRecursion, filter, find, insert, list_any, prefix_len}
use Rattle.std.specs.Str.{bytes_eq}
use Rattle.std.proofs.lemmas.Bool.{cases_Bool, and_parts}
use Rattle.std.proofs.lemmas.Bool.Decides.{nat_tests}
use Rattle.std.proofs.lemmas.Map.Views.{any-filter_same}
use Rattle.std.proofs.lemmas.Slice.Eq.{bytes_eq-Decides}
use Rattle.router_state.specs.Contexts.{name_before, named_at}
use Rattle.rows_sorted.specs.Orders.{put, rises_by}
use Rattle.router_state.specs.declared.rows.Named.{Named}
use Rattle.rows_sorted.specs.Keys.{is_key, is_pair, key_before, pair_key, Rises}
use Rattle.router_state.specs.Keys.{named_key}
use Rattle.rows_sorted.proofs.OrderLemmas.{AllInOrder, all_filter, all_from_all, before_joins, in_order, put_rises, filter_rises}
use Rattle.rows_sorted.proofs.PartLemmas.{parted_by_key}
use Rattle.rows_sorted.proofs.RowLemmas.{inserted_is}
use Rattle.rows_index.specs.declared.entry.Entry.{Entry}
use Rattle.rows_index.specs.Index.{entry_before, entry_key, is_entry}
use Rattle.rows_index.proofs.FoundLemmas.{all_two, none_at}
use Rattle.rows_index.proofs.IndexLemmas.{entry_same, is_itself}
use Rattle.rows_index.proofs.RowLemmas.{any_fails, each_fails}
use Rattle.rows_index.proofs.SumLemmas.{all_passed}
use Rattle.rows_index.specs.Numbers.{number_of}
use Rattle.activity_context.specs.declared.numbered.NumberedName.{NumberedName}
use Rattle.activity_context.specs.Naming.{AreFiled, AreFound, AreNeeded, activity_entry, as_kept, in_byte_order, numbered_key}
use Rattle.rows_index.proofs.ItemLemmas as items
use Rattle.rows_index.proofs.ItemLemmas.{all_put, filter_agree}
use Rattle.rows_index.proofs.SortLemmas as sorting
use Rattle.rows_index.proofs.SortLemmas.{IsAhead, AreApart}

pub one_way : (x y : Named) → name_before x y ≡ true → name_before y x ≡ false
one_way x y ahead = (parted_by_key named_key (named_key y)).low_not_behind x ahead

pub chain : (x y z : Named) → name_before x y ≡ true → name_before y z ≡ true → name_before x z ≡ true
chain x y z one two = before_joins (named_key x) (named_key y) (named_key z) one two

-- names of different texts are apart
apart_texts : (x y : Named) → bytes_eq y.name x.name ≡ false → AreApart name_before x y
apart_texts x y other = elim (cases_Bool (name_before y x)) [
  | inl low ↦ rw low ((parted_by_key named_key (named_key x)).low_not_behind y low)
  | inr high ↦ rw high ((parted_by_key named_key (named_key x)).neither y high other)
]

-- and names that are apart have different texts
texts_apart : (x y : Named) → AreApart name_before x y → bytes_eq x.name y.name ≡ true → true ≡ false
texts_apart x y apart same =
    let laws = parted_by_key named_key (named_key y) in
    let low : name_before x y ≡ false = laws.mine_not_low x same in
    let high : name_before y x ≡ false = laws.mine_not_behind x same in
    let is : false ≡ not (name_before y x) = rw low at apart in
    sym (rw high at is)

same_text : (x y name : List ℕ) → bytes_eq x name ≡ true → bytes_eq y name ≡ true → bytes_eq x y ≡ true
same_text x y name one two =
    let left : x ≡ name = (bytes_eq-Decides x name).0 one in
    let right : y ≡ name = (bytes_eq-Decides y name).0 two in
    (bytes_eq-Decides x y).1 (left ∙ sym right)

once_named : (name : List ℕ) (x y : Named) → AreApart name_before x y → bytes_eq x.name name ≡ true → bytes_eq y.name name ≡ false
once_named name x y apart mine = elim (cases_Bool (bytes_eq y.name name)) [
  | inl also ↦ let wrong = texts_apart x y apart (same_text x.name y.name name mine also) in cc
  | inr other ↦ other
]

named_order : (rows : List NumberedName) → IsTrue (rises_by name_before (in_byte_order rows)) → AllInOrder (IsAhead name_before) (in_byte_order rows)
named_order rows once = in_order named_key (in_byte_order rows) once

has_text : List ℕ → NumberedName → Bool
has_text name row = bytes_eq row.named.name name

found_kept : (name : List ℕ) (rows : List NumberedName) → option_map (λ row. row.named.activity) (find (λ row. bytes_eq row.named.name name) rows) ≡ option_map (λ row. row.activity) (find (λ row. bytes_eq row.name name) (as_kept rows))
found_kept name [] = refl
found_kept name (x ∷ xs) = elim (cases_Bool (bytes_eq x.named.name name)) [
  | inl mine ↦ rw mine refl
  | inr other ↦ rw other (found_kept name xs)
]

-- the activity of a text is the same in byte order
pub named_is : (name : List ℕ) (rows : List NumberedName) → IsTrue (rises_by name_before (in_byte_order rows))
    → option_map (λ row. row.named.activity) (find (λ row. bytes_eq row.named.name name) rows) ≡ named_at (in_byte_order rows) name
named_is name rows once =
    found_kept name rows
    ∙ ap (option_map (λ (row : Named). row.activity)) (sym (sorting.sorted_finds name_before one_way chain (λ (row : Named). bytes_eq row.name name) (once_named name) (as_kept rows) (named_order rows once)))

find_where : (p q : NumberedName → Bool) (rows : List NumberedName) → AllByRecursion (λ row. p row ≡ true → q row ≡ true) rows → find p (filter q rows) ≡ find p rows
find_where p q [] all = refl
find_where p q (x ∷ xs) all = elim (cases_Bool (p x)) [
  | inl mine ↦ rw (all.0 mine, mine) refl
  | inr other ↦ elim (cases_Bool (q x)) [
    | inl stays ↦ rw (stays, other) (find_where p q xs all.1)
    | inr goes ↦ rw (goes, other) (find_where p q xs all.1)
  ]
]

number_same : (n m : ℕ) → n ≡ m → (n == m) ≡ true
number_same n m is = grind (arith, nat_tests, is)

-- the name of a text is found under the number of the text
pub found_numbered : (name : List ℕ) (rows : List NumberedName) → AllByRecursion (λ row. row.number ≡ number_of row.named.name) rows
    → find (λ row. bytes_eq row.named.name name) (filter (λ row. row.number == number_of name) rows) ≡ find (λ row. bytes_eq row.named.name name) rows
found_numbered name rows numbered =
    find_where (λ row. bytes_eq row.named.name name) (λ row. row.number == number_of name) rows
    (all_from_all (λ (row : NumberedName). row.number ≡ number_of row.named.name) (λ row. bytes_eq row.named.name name ≡ true → (row.number == number_of name) ≡ true)
    (λ row is mine. let text : row.named.name ≡ name = (bytes_eq-Decides row.named.name name).0 mine in number_same row.number (number_of name) (is ∙ ap number_of text)) rows numbered)

-- what is left out of the names is left out of them in byte order
pub order_filter : (q : Named → Bool) (rows : List NumberedName) → IsTrue (rises_by name_before (in_byte_order rows)) → in_byte_order (filter (λ row. q row.named) rows) ≡ filter q (in_byte_order rows)
order_filter q rows once = items.order_filter (λ (row : NumberedName). row.named) name_before one_way chain q rows (named_order rows once)

other_numbered : (x y : NumberedName) → bytes_eq x.named.name y.named.name ≡ false → is_key (numbered_key x) (numbered_key y) ≡ false
other_numbered x y other = elim (cases_Bool (x.number == y.number)) [
  | inl first ↦ elim (cases_Bool (x.named.activity.0 == y.named.activity.0)) [
    | inl second ↦ rw (first, second, other) refl
    | inr differ ↦ rw (first, differ) refl
  ]
  | inr differ ↦ rw differ refl
]

absent_keys : (x : NumberedName) (rows : List NumberedName) → find (λ row. bytes_eq row.named.name x.named.name) rows ≡ None → AllByRecursion (λ row. is_key (numbered_key row) (numbered_key x) ≡ false) rows
absent_keys x rows absent =
    all_from_all (λ (row : NumberedName). bytes_eq row.named.name x.named.name ≡ false) (λ row. is_key (numbered_key row) (numbered_key x) ≡ false) (λ row other. other_numbered row x other) rows
    (none_at (λ (row : NumberedName). bytes_eq row.named.name x.named.name) rows absent)

-- the place of a name whose text none has
put_place : (x : NumberedName) (rows : List NumberedName) → Rises numbered_key rows → find (λ row. bytes_eq row.named.name x.named.name) rows ≡ None
    → insert rows (prefix_len (λ row. key_before (numbered_key row) (numbered_key x)) rows) x ≡ put (λ a b. key_before (numbered_key a) (numbered_key b)) x rows
put_place x rows rises absent = inserted_is _ _ _ _ (parted_by_key numbered_key (numbered_key x)) x rows (in_order numbered_key rows rises) (absent_keys x rows absent)

-- a name whose text none has is put in its place in byte order
pub order_put : (x : NumberedName) (rows : List NumberedName) → Rises numbered_key rows → IsTrue (rises_by name_before (in_byte_order rows)) → find (λ row. bytes_eq row.named.name x.named.name) rows ≡ None
    → in_byte_order (put (λ a b. key_before (numbered_key a) (numbered_key b)) x rows) ≡ put name_before x.named (in_byte_order rows)
order_put x rows rises once absent =
    let none = none_at (λ (row : NumberedName). bytes_eq row.named.name x.named.name) rows absent in
    let place = prefix_len (λ row. key_before (numbered_key row) (numbered_key x)) rows in
    let is = put_place x rows rises absent in
    let apart = all_from_all (λ (row : NumberedName). bytes_eq row.named.name x.named.name ≡ false) (λ row. AreApart name_before x.named row.named) (λ row other. apart_texts x.named row.named other) rows none in
    ap in_byte_order (sym is)
    ∙ items.order_insert (λ (row : NumberedName). row.named) name_before one_way chain x place rows (named_order rows once) apart

any_joined : {X : Type 0} (p : X → Bool) (xs ys : List X) → list_any p (xs ++ ys) ≡ (list_any p xs || list_any p ys)
any_joined p [] ys = refl
any_joined p (x ∷ xs) ys = elim (cases_Bool (p x)) [ inl passes ↦ rw passes refl | inr fails ↦ rw fails (any_joined p xs ys) ]

or_right : (a b : Bool) → b ≡ true → (a || b) ≡ true
or_right true b is = refl
or_right false b is = is

or_left : (a b : Bool) → a ≡ true → (a || b) ≡ true
or_left true b is = refl
or_left false b is = cc

-- an entry that is put is there
put_has_own : (x : Entry) (entries : List Entry) → list_any (is_entry x) (put entry_before x entries) ≡ true
put_has_own x entries =
    any_joined (is_entry x) (filter (λ e. entry_before e x) entries) (x ∷ filter (λ e. entry_before x e) entries)
    ∙ or_right (list_any (is_entry x) (filter (λ e. entry_before e x) entries)) (list_any (is_entry x) (x ∷ filter (λ e. entry_before x e) entries)) (or_left (is_entry x x) (list_any (is_entry x) (filter (λ e. entry_before x e) entries)) (is_itself x))

alike : (x y : Entry) → entry_before y x ≡ false → entry_before x y ≡ false → is_entry x y ≡ true
alike x y one other = grind (arith, nat_tests)

same_entry : (e y : Entry) → is_entry e y ≡ true → y ≡ e
same_entry e y is = let parts = entry_same e y is in λ i. record { key = parts.0 i; number = parts.1 i }

-- and an entry that was there is still there
put_has : (e x : Entry) (entries : List Entry) → list_any (is_entry e) entries ≡ true → list_any (is_entry e) (put entry_before x entries) ≡ true
put_has e x entries there = elim (cases_Bool (entry_before e x)) [
  | inl low ↦
      any_joined (is_entry e) (filter (λ y. entry_before y x) entries) (x ∷ filter (λ y. entry_before x y) entries)
      ∙ or_left _ _ (any-filter_same (is_entry e) (λ y. entry_before y x) true (λ y is. ap (λ (z : Entry). entry_before z x) (same_entry e y is) ∙ low) entries ∙ there)
  | inr high ↦
      any_joined (is_entry e) (filter (λ y. entry_before y x) entries) (x ∷ filter (λ y. entry_before x y) entries)
      ∙ or_right _ _ (elim (cases_Bool (entry_before x e)) [
        | inl behind ↦ or_right (is_entry e x) _ (any-filter_same (is_entry e) (λ y. entry_before x y) true (λ y is. ap (λ (z : Entry). entry_before x z) (same_entry e y is) ∙ behind) entries ∙ there)
        | inr neither ↦ or_left (is_entry e x) _ (alike e x neither high)
      ])
]

any_insert : {X : Type 0} (p : X → Bool) (x : X) (n : ℕ) (xs : List X) → list_any p xs ≡ true → list_any p (insert xs n x) ≡ true
any_insert p x zero xs there = or_right (p x) (list_any p xs) there
any_insert p x (suc n) [] there = cc
any_insert p x (suc n) (y ∷ ys) there = elim (cases_Bool (p y)) [
  | inl passes ↦ rw passes refl
  | inr fails ↦ rw fails (any_insert p x n ys (rw fails at there))
]

any_own : {X : Type 0} (p : X → Bool) (x : X) (n : ℕ) (xs : List X) → p x ≡ true → list_any p (insert xs n x) ≡ true
any_own p x zero xs own = or_left (p x) (list_any p xs) own
any_own p x (suc n) [] own = or_left (p x) false own
any_own p x (suc n) (y ∷ ys) own = or_right (p y) (list_any p (insert ys n x)) (any_own p x n ys own)

own_pair : (x : NumberedName) → is_pair x.number x.named.activity.0 (numbered_key x) ≡ true
own_pair x =
    let first : (x.number == x.number) ≡ true = number_same x.number x.number refl in
    let second : (x.named.activity.0 == x.named.activity.0) ≡ true = number_same x.named.activity.0 x.named.activity.0 refl in
    rw (first, second) refl

needed_put : (x : NumberedName) (n : ℕ) (rows : List NumberedName) (entries : List Entry) → AreNeeded rows entries → AreNeeded (insert rows n x) (put entry_before (activity_entry x) entries)
needed_put x n rows entries needed =
    all_put entry_before (λ (e : Entry). list_any (λ row. is_pair e.number e.key (numbered_key row)) (insert rows n x) ≡ true) (activity_entry x) entries
    (any_own (λ row. is_pair x.number x.named.activity.0 (numbered_key row)) x n rows (own_pair x))
    (all_from_all (λ (e : Entry). list_any (λ row. is_pair e.number e.key (numbered_key row)) rows ≡ true) (λ e. list_any (λ row. is_pair e.number e.key (numbered_key row)) (insert rows n x) ≡ true)
    (λ e there. any_insert (λ row. is_pair e.number e.key (numbered_key row)) x n rows there) entries needed)

-- a name that comes with its entry
pub filed_put : (x : NumberedName) (rows : List NumberedName) (entries : List Entry) → x.number ≡ number_of x.named.name → Rises numbered_key rows → AreFiled rows entries → find (λ row. bytes_eq row.named.name x.named.name) rows ≡ None
    → AreFiled (put (λ a b. key_before (numbered_key a) (numbered_key b)) x rows) (put entry_before (activity_entry x) entries)
filed_put x rows entries number rises filed absent =
    let before = λ (a b : NumberedName). key_before (numbered_key a) (numbered_key b) in
    let more = put entry_before (activity_entry x) entries in
    record {
      numbered = all_put before (λ row. row.number ≡ number_of row.named.name) x rows number filed.numbered;
      found = all_put before (λ row. list_any (is_entry (activity_entry row)) more ≡ true) x rows (put_has_own (activity_entry x) entries)
          (all_from_all (λ (row : NumberedName). list_any (is_entry (activity_entry row)) entries ≡ true) (λ row. list_any (is_entry (activity_entry row)) more ≡ true) (λ row there. put_has (activity_entry row) (activity_entry x) entries there) rows filed.found);
      needed = rw (← put_place x rows rises absent) (needed_put x (prefix_len (λ row. key_before (numbered_key row) (numbered_key x)) rows) rows entries filed.needed);
      once = rw (order_put x rows rises filed.once absent) (put_rises named_key x.named (in_byte_order rows) filed.once);
    }

-- names are left out, and the entries of the others stay
pub filed_filter : (q : Named → Bool) (rows : List NumberedName) (entries less : List Entry) → AreFiled rows entries → AreFound (filter (λ row. q row.named) rows) less → AreNeeded (filter (λ row. q row.named) rows) less
    → AreFiled (filter (λ row. q row.named) rows) less
filed_filter q rows entries less filed found needed = record {
  numbered = all_filter (λ row. row.number ≡ number_of row.named.name) (λ row. q row.named) rows filed.numbered;
  found = found;
  needed = needed;
  once = rw (order_filter q rows filed.once) (filter_rises named_key q (in_byte_order rows) filed.once);
}

all_left : {X : Type 0} (xs : List X) → filter (λ x. not false) xs ≡ xs
all_left [] = refl
all_left (x ∷ xs) = ap (λ rest. x ∷ rest) (all_left xs)

-- where no entries are left, none goes
pub none_under : (a : ℕ) (rows : List NumberedName) → filter (λ row. not (list_any (λ (e : Entry). is_pair e.number a (numbered_key row)) [])) rows ≡ rows
none_under a rows = all_left rows

-- those of one entry may go before those of the others
pub next_under : (a : ℕ) (e : Entry) (entries : List Entry) (rows : List NumberedName)
    → filter (λ row. not (list_any (λ e. is_pair e.number a (numbered_key row)) entries)) (filter (λ row. not (is_pair e.number a (numbered_key row))) rows)
    ≡ filter (λ row. not (list_any (λ e. is_pair e.number a (numbered_key row)) (e ∷ entries))) rows
next_under a e entries [] = refl
next_under a e entries (x ∷ xs) = elim (cases_Bool (is_pair e.number a (numbered_key x))) [
  | inl goes ↦ rw goes (next_under a e entries xs)
  | inr stays ↦ elim (cases_Bool (list_any (λ (e : Entry). is_pair e.number a (numbered_key x)) entries)) [
    | inl later ↦ rw (stays, later) (next_under a e entries xs)
    | inr never ↦ rw (stays, never) (ap (λ rest. x ∷ rest) (next_under a e entries xs))
  ]
]

under_other : (a : ℕ) (row : NumberedName) → (row.named.activity.0 == a) ≡ false → (entries : List Entry) → AllByRecursion (λ e. is_pair e.number a (numbered_key row) ≡ false) entries
under_other a row other [] = tt
under_other a row other (e ∷ entries) = (elim (cases_Bool (row.number == e.number)) [ inl same ↦ rw (same, other) refl | inr differ ↦ rw differ refl ], under_other a row other entries)

under_own : (a : ℕ) (row : NumberedName) → row.named.activity.0 ≡ a → (entries : List Entry) → list_any (is_entry (activity_entry row)) entries ≡ true
    → list_any (λ e. is_pair e.number a (numbered_key row)) (filter (λ e. e.key == a) entries) ≡ true
under_own a row own [] there = cc
under_own a row own (e ∷ entries) there = elim (cases_Bool (is_entry (activity_entry row) e)) [
  | inl mine ↦
      let parts = entry_same (activity_entry row) e mine in
      let here : (e.key == a) ≡ true = number_same e.key a (parts.0 ∙ own) in
      let first : (row.number == e.number) ≡ true = number_same row.number e.number (sym parts.1) in
      let second : (row.named.activity.0 == a) ≡ true = number_same row.named.activity.0 a own in
      rw (here, first, second) refl
  | inr other ↦
      let rest = under_own a row own entries (rw other at there) in
      elim (cases_Bool (e.key == a)) [
        | inl here ↦ rw here (or_right (is_pair e.number a (numbered_key row)) _ rest)
        | inr away ↦ rw away rest
      ]
]

found_with : (a : ℕ) (entries : List Entry) (row : NumberedName) → list_any (is_entry (activity_entry row)) entries ≡ true
    → list_any (λ e. is_pair e.number a (numbered_key row)) (filter (λ e. e.key == a) entries) ≡ (row.named.activity.0 == a)
found_with a entries row there = elim (cases_Bool (row.named.activity.0 == a)) [
  | inl mine ↦
      let own : row.named.activity.0 ≡ a = grind (arith, nat_tests, mine) in
      under_own a row own entries there ∙ sym mine
  | inr other ↦ any_fails (λ (e : Entry). is_pair e.number a (numbered_key row)) (filter (λ e. e.key == a) entries) (under_other a row other (filter (λ e. e.key == a) entries)) ∙ sym other
]

-- the names under the entries of an activity are its own
pub under_own_entries : (a : ℕ) (rows : List NumberedName) (entries : List Entry) → AreFound rows entries
    → filter (λ row. list_any (λ e. is_pair e.number a (numbered_key row)) (filter (λ e. e.key == a) entries)) rows ≡ filter (λ row. row.named.activity.0 == a) rows
under_own_entries a rows entries found =
    filter_agree (λ (row : NumberedName). list_any (λ e. is_pair e.number a (numbered_key row)) (filter (λ e. e.key == a) entries)) (λ row. row.named.activity.0 == a) rows
    (all_from_all (λ (row : NumberedName). list_any (is_entry (activity_entry row)) entries ≡ true) (λ row. list_any (λ e. is_pair e.number a (numbered_key row)) (filter (λ e. e.key == a) entries) ≡ (row.named.activity.0 == a))
    (λ row there. found_with a entries row there) rows found)

goes_with : (a : ℕ) (entries : List Entry) (row : NumberedName) → list_any (is_entry (activity_entry row)) entries ≡ true
    → not (list_any (λ e. is_pair e.number a (numbered_key row)) (filter (λ e. e.key == a) entries)) ≡ not (row.named.activity.0 == a)
goes_with a entries row there = ap not (found_with a entries row there)

-- and the names that aren't under them are those of the others
pub under_activity : (a : ℕ) (rows : List NumberedName) (entries : List Entry) → AreFound rows entries
    → filter (λ row. not (list_any (λ e. is_pair e.number a (numbered_key row)) (filter (λ e. e.key == a) entries))) rows ≡ filter (λ row. not (row.named.activity.0 == a)) rows
under_activity a rows entries found =
    filter_agree (λ (row : NumberedName). not (list_any (λ e. is_pair e.number a (numbered_key row)) (filter (λ e. e.key == a) entries))) (λ row. not (row.named.activity.0 == a)) rows
    (all_from_all (λ (row : NumberedName). list_any (is_entry (activity_entry row)) entries ≡ true) (λ row. not (list_any (λ e. is_pair e.number a (numbered_key row)) (filter (λ e. e.key == a) entries)) ≡ not (row.named.activity.0 == a))
    (λ row there. goes_with a entries row there) rows found)

still_there : (p : Entry → Bool) (row : NumberedName) (entries : List Entry) → p (activity_entry row) ≡ true → list_any (is_entry (activity_entry row)) entries ≡ true → list_any (is_entry (activity_entry row)) (filter p entries) ≡ true
still_there p row entries stays there = any-filter_same (is_entry (activity_entry row)) p true (λ e is. ap p (same_entry (activity_entry row) e is) ∙ stays) entries ∙ there

-- the entries of the other activities stay
pub others_found : (a : ℕ) (rows : List NumberedName) (entries : List Entry) → AreFound rows entries → AreFound (filter (λ row. not (row.named.activity.0 == a)) rows) (filter (λ e. not (e.key == a)) entries)
others_found a rows entries found =
    let left = filter (λ (row : NumberedName). not (row.named.activity.0 == a)) rows in
    all_two (λ (row : NumberedName). not (row.named.activity.0 == a) ≡ true) (λ row. list_any (is_entry (activity_entry row)) entries ≡ true) (λ row. list_any (is_entry (activity_entry row)) (filter (λ e. not (e.key == a)) entries) ≡ true)
    (λ row stays there. still_there (λ (e : Entry). not (e.key == a)) row entries stays there) left
    (all_passed (λ (row : NumberedName). not (row.named.activity.0 == a)) rows)
    (all_filter (λ row. list_any (is_entry (activity_entry row)) entries ≡ true) (λ row. not (row.named.activity.0 == a)) rows found)

other_pair : (n a : ℕ) (row : NumberedName) → is_pair n a (numbered_key row) ≡ false → not (is_key (entry_key (activity_entry row)) (pair_key a n)) ≡ true
other_pair n a row other = elim (cases_Bool (row.named.activity.0 == a)) [
  | inl second ↦ elim (cases_Bool (row.number == n)) [
    | inl first ↦ let wrong : true ≡ false = rw (first, second) at other in cc
    | inr differ ↦ rw (second, differ) refl
  ]
  | inr differ ↦ rw differ refl
]

-- where no name of the pair is left, the pair's entry may go
pub rest_found : (n a : ℕ) (rows : List NumberedName) (entries : List Entry) → AreFound rows entries → list_any (λ row. is_pair n a (numbered_key row)) rows ≡ false
    → AreFound rows (filter (λ e. not (is_key (entry_key e) (pair_key a n))) entries)
rest_found n a rows entries found none =
    all_two (λ (row : NumberedName). is_pair n a (numbered_key row) ≡ false) (λ row. list_any (is_entry (activity_entry row)) entries ≡ true) (λ row. list_any (is_entry (activity_entry row)) (filter (λ e. not (is_key (entry_key e) (pair_key a n))) entries) ≡ true)
    (λ row other there. still_there (λ (e : Entry). not (is_key (entry_key e) (pair_key a n))) row entries (other_pair n a row other) there) rows
    (each_fails (λ (row : NumberedName). is_pair n a (numbered_key row)) rows none) found

same_pair : (e : Entry) (row : NumberedName) → is_pair e.number e.key (numbered_key row) ≡ true → (row.number ≡ e.number) × (row.named.activity.0 ≡ e.key)
same_pair e row is =
    let parts = and_parts (row.number == e.number) (row.named.activity.0 == e.key) is in
    (grind (arith, nat_tests, parts.0), grind (arith, nat_tests, parts.1))

needed_still : (e : Entry) (q : NumberedName → Bool) (rows : List NumberedName) → ((row : NumberedName) → is_pair e.number e.key (numbered_key row) ≡ true → q row ≡ true)
    → list_any (λ row. is_pair e.number e.key (numbered_key row)) rows ≡ true → list_any (λ row. is_pair e.number e.key (numbered_key row)) (filter q rows) ≡ true
needed_still e q rows stays there = any-filter_same (λ row. is_pair e.number e.key (numbered_key row)) q true stays rows ∙ there

-- the entries of the other activities are needed
pub others_needed : (a : ℕ) (rows : List NumberedName) (entries : List Entry) → AreNeeded rows entries → AreNeeded (filter (λ row. not (row.named.activity.0 == a)) rows) (filter (λ e. not (e.key == a)) entries)
others_needed a rows entries needed =
    all_two (λ (e : Entry). not (e.key == a) ≡ true) (λ e. list_any (λ row. is_pair e.number e.key (numbered_key row)) rows ≡ true) (λ e. list_any (λ row. is_pair e.number e.key (numbered_key row)) (filter (λ row. not (row.named.activity.0 == a)) rows) ≡ true)
    (λ e stays there. needed_still e (λ row. not (row.named.activity.0 == a)) rows (λ row is. ap (λ (n : ℕ). not (n == a)) (same_pair e row is).1 ∙ stays) there) (filter (λ (e : Entry). not (e.key == a)) entries)
    (all_passed (λ (e : Entry). not (e.key == a)) entries)
    (all_filter (λ (e : Entry). list_any (λ row. is_pair e.number e.key (numbered_key row)) rows ≡ true) (λ e. not (e.key == a)) entries needed)

other_row : (n a : ℕ) (name : List ℕ) (e : Entry) (row : NumberedName) → not (is_key (entry_key e) (pair_key a n)) ≡ true → is_pair e.number e.key (numbered_key row) ≡ true
    → not (is_key (numbered_key row) (record { first = n; second = a; text = name })) ≡ true
other_row n a name e row stays is =
    let same = same_pair e row is in
    elim (cases_Bool (e.number == n)) [
      | inl first ↦ elim (cases_Bool (e.key == a)) [
        | inl second ↦ let wrong : false ≡ true = rw (second, first) at stays in cc
        | inr differ ↦
            let other : (row.named.activity.0 == a) ≡ false = ap (λ (k : ℕ). k == a) same.1 ∙ differ in
            let mine : (row.number == n) ≡ true = ap (λ (k : ℕ). k == n) same.0 ∙ first in
            rw (mine, other) refl
      ]
      | inr differ ↦ let other : (row.number == n) ≡ false = ap (λ (k : ℕ). k == n) same.0 ∙ differ in rw other refl
    ]

-- where a name goes, the entries of the other pairs are needed
pub rest_needed : (n a : ℕ) (name : List ℕ) (rows : List NumberedName) (entries : List Entry) → AreNeeded rows entries
    → AreNeeded (filter (λ row. not (is_key (numbered_key row) (record { first = n; second = a; text = name }))) rows) (filter (λ e. not (is_key (entry_key e) (pair_key a n))) entries)
rest_needed n a name rows entries needed =
    let q = λ (row : NumberedName). not (is_key (numbered_key row) (record { first = n; second = a; text = name })) in
    let stays = λ (e : Entry). not (is_key (entry_key e) (pair_key a n)) in
    all_two (λ (e : Entry). stays e ≡ true) (λ e. list_any (λ row. is_pair e.number e.key (numbered_key row)) rows ≡ true) (λ e. list_any (λ row. is_pair e.number e.key (numbered_key row)) (filter q rows) ≡ true)
    (λ e other there. needed_still e q rows (λ row is. other_row n a name e row other is) there) (filter stays entries)
    (all_passed stays entries) (all_filter (λ (e : Entry). list_any (λ row. is_pair e.number e.key (numbered_key row)) rows ≡ true) stays entries needed)

-- and its own one, where another name of the pair is left
pub own_needed : (n a : ℕ) (name : List ℕ) (rows : List NumberedName) (entries : List Entry) → AreNeeded rows entries
    → list_any (λ row. is_pair n a (numbered_key row)) (filter (λ row. not (is_key (numbered_key row) (record { first = n; second = a; text = name }))) rows) ≡ true
    → AreNeeded (filter (λ row. not (is_key (numbered_key row) (record { first = n; second = a; text = name }))) rows) entries
own_needed n a name rows entries needed left =
    all_from_all (λ (e : Entry). list_any (λ row. is_pair e.number e.key (numbered_key row)) rows ≡ true) (λ e. list_any (λ row. is_pair e.number e.key (numbered_key row)) (filter q rows) ≡ true) one entries needed
  where
    q : NumberedName → Bool
    q row = not (is_key (numbered_key row) (record { first = n; second = a; text = name }))

    one : (e : Entry) → list_any (λ row. is_pair e.number e.key (numbered_key row)) rows ≡ true → list_any (λ row. is_pair e.number e.key (numbered_key row)) (filter q rows) ≡ true
    one e there = elim (cases_Bool (is_key (entry_key e) (pair_key a n))) [
      | inl mine ↦
          let parts = and_parts (e.key == a) ((e.number == n) && true) mine in
          let first : e.key ≡ a = grind (arith, nat_tests, parts.0) in
          let second : e.number ≡ n = let both = and_parts (e.number == n) true parts.1 in let is = both.0 in grind (arith, nat_tests, is) in
          (λ i. list_any (λ row. is_pair (second i) (first i) (numbered_key row)) (filter q rows)) ∙ left
      | inr other ↦ needed_still e q rows (λ row is. other_row n a name e row (ap not other) is) there
    ]

-- fewer names are found by the same entries
pub fewer_found : (q : NumberedName → Bool) (rows : List NumberedName) (entries : List Entry) → AreFound rows entries → AreFound (filter q rows) entries
fewer_found q rows entries found = all_filter (λ row. list_any (is_entry (activity_entry row)) entries ≡ true) q rows found

only_found : (name : List ℕ) (found : NumberedName) (rows : List NumberedName) → AllInOrder (AreApart name_before) (as_kept rows) → find (λ row. bytes_eq row.named.name name) rows ≡ Some found
    → AllByRecursion (λ row. bytes_eq row.named.name name ≡ true → row ≡ found) rows
only_found name found [] order is = tt
only_found name found (x ∷ xs) order is = elim (cases_Bool (bytes_eq x.named.name name)) [
  | inl mine ↦
      let first : Some x ≡ Some found = rw mine at is in
      let same : x ≡ found = cc in
      ((λ own. same), others xs order.0 mine)
  | inr other ↦ ((λ own. let wrong : true ≡ false = sym own ∙ other in cc), only_found name found xs order.1 (rw other at is))
]
  where
    others : (ys : List NumberedName) → AllByRecursion (AreApart name_before x.named) (as_kept ys) → bytes_eq x.named.name name ≡ true → AllByRecursion (λ row. bytes_eq row.named.name name ≡ true → row ≡ found) ys
    others [] apart mine = tt
    others (y ∷ ys) apart mine = ((λ own. let wrong : true ≡ false = sym own ∙ once_named name x.named y.named apart.0 mine in cc), others ys apart.1 mine)

-- the name of a text is the only one of its key
pub one_goes : (name : List ℕ) (found : NumberedName) (rows : List NumberedName) → IsTrue (rises_by name_before (in_byte_order rows)) → find (λ row. bytes_eq row.named.name name) rows ≡ Some found
    → filter (λ row. not (is_key (numbered_key row) (record { first = found.number; second = found.named.activity.0; text = name }))) rows ≡ filter (λ row. not (bytes_eq row.named.name name)) rows
one_goes name found rows once is =
    filter_agree (λ (row : NumberedName). not (is_key (numbered_key row) (record { first = found.number; second = found.named.activity.0; text = name }))) (λ row. not (bytes_eq row.named.name name)) rows
    (all_from_all (λ (row : NumberedName). bytes_eq row.named.name name ≡ true → row ≡ found) (λ row. not (is_key (numbered_key row) (record { first = found.number; second = found.named.activity.0; text = name })) ≡ not (bytes_eq row.named.name name)) one rows
    (only_found name found rows (sorting.apart_of_sorted name_before one_way chain (as_kept rows) (named_order rows once)) is))
  where
    one : (row : NumberedName) → (bytes_eq row.named.name name ≡ true → row ≡ found) → not (is_key (numbered_key row) (record { first = found.number; second = found.named.activity.0; text = name })) ≡ not (bytes_eq row.named.name name)
    one row only = elim (cases_Bool (bytes_eq row.named.name name)) [
      | inl mine ↦
          let same = only mine in
          let first : (row.number == found.number) ≡ true = number_same row.number found.number (ap (λ (r : NumberedName). r.number) same) in
          let second : (row.named.activity.0 == found.named.activity.0) ≡ true = number_same row.named.activity.0 found.named.activity.0 (ap (λ (r : NumberedName). r.named.activity.0) same) in
          rw (first, second) refl
      | inr other ↦ elim (cases_Bool (row.number == found.number)) [
        | inl first ↦ elim (cases_Bool (row.named.activity.0 == found.named.activity.0)) [
          | inl second ↦ rw (first, second) refl
          | inr differ ↦ rw (first, differ, other) refl
        ]
        | inr differ ↦ rw (differ, other) refl
      ]
    ]

-- a name that was cut is free
pub cut_is_free : (name : List ℕ) (rows : List NumberedName) → find (λ row. bytes_eq row.named.name name) (filter (λ row. not (bytes_eq row.named.name name)) rows) ≡ None
cut_is_free name [] = refl
cut_is_free name (x ∷ xs) = elim (cases_Bool (bytes_eq x.named.name name)) [
  | inl mine ↦ rw mine (cut_is_free name xs)
  | inr other ↦ rw (other, other) (cut_is_free name xs)
]
