-- Rows that come and go with their entries.
use Rattle.std.proofs.Common.{◌≡◌, ℕ, ◌+◌, ◌*◌, ◌<◌, ◌≤◌, ◌==◌, Bool, true, false, List, [], ◌∷◌, Option, Some, None, length, refl, sym, ap, ◌∙◌, arith, inl, inr}
use Rattle.std.specs.Prelude.{not, ◌&&◌, ◌||◌, ◌-◌, nat_lt, nat_le, min, max, is_some, option_map}
use Rattle.std.specs.Str.{bytes_eq}
use Rattle.std.specs.List.{filter, find, list_any, sum_by}
use Rattle.std.proofs.lemmas.Bool.{cases_Bool, and_parts}
use Rattle.std.proofs.lemmas.Bool.Decides.{nat_tests}
use Rattle.std.proofs.lemmas.Nat.{mul-le}
use Rattle.rows_sorted.specs.Orders.{put}
use Rattle.rows_sorted.specs.Keys.{Key, key_before, Rises}
use Rattle.rows_sorted.proofs.OrderLemmas.{IsBefore, in_order}
use Rattle.rows_index.specs.declared.entry.Entry.{Entry}
use Rattle.rows_index.proofs.FoundLemmas.{none_at}
use Rattle.rows_index.proofs.IndexLemmas.{sum_put}
use Rattle.rows_index.proofs.RowLemmas.{all_stay, any_fails}
use Rattle.rows_index.specs.declared.tally.Tally.{Tally}
use Rattle.rows_index.specs.Tallies.{tally_key, all_less, all_more, total, AreSome, IsTally}
use Rattle.rows_index.proofs.CountLemmas.{found_passes, sum_cut}
use Rattle.rows_index.proofs.KeyLemmas.{all_rise, less_all_rise, less_all_some, share_all, share_all_less}
use Rattle.rows_index.proofs.LengthLemmas.{put_as_long, put_longer, sum_replaced}
use Rattle.profile_tables.specs.Keeping.{numbered_key}
use Rattle.profile_tables.specs.Unique.{most_of, row_entries, unique_of, value_entry, without_old}
use Rattle.profile_tables.specs.declared.numbered.NumberedRow.{NumberedRow}
use Rattle.profile_tables.specs.declared.table_spec.TableSpec.{TableSpec}
use Rattle.profile_tables.proofs.RowLemmas.{found_any}
use Rattle.profile_tables.proofs.UniqueLemmas.{count_ones, found_counted, has_key, once_key, total_within, unique_within}

-- a row that is found is of the key's table
pub found_table : (k : Key) (old : NumberedRow) (rows : List NumberedRow) → find (has_key k) rows ≡ Some old → old.item.table ≡ k.second
found_table k old rows is =
    let rest = (and_parts (old.number == k.first) ((old.item.table == k.second) && bytes_eq old.item.row k.text) (found_passes (has_key k) old rows is)).1 in
    let mine = (and_parts (old.item.table == k.second) (bytes_eq old.item.row k.text) rest).0 in
    grind (arith, nat_tests, mine)

pub times_max : (m a b c : ℕ) → m * a ≤ c → m * b ≤ c → m * max a b ≤ c
times_max m a b c one other = elim (cases_Bool (nat_le a b)) [
  | inl low ↦ let is : max a b ≡ b = grind (arith, nat_tests, low) in rw is other
  | inr high ↦ let is : max a b ≡ a = grind (arith, nat_tests, high) in rw is one
]

pub filter_within : {X : Type 0} (p : X → Bool) (xs : List X) → length (filter p xs) ≤ length xs
filter_within p [] = omega arith
filter_within p (x ∷ xs) = let rest = filter_within p xs in elim (cases_Bool (p x)) [ inl stays ↦ rw stays (omega (arith, rest)) | inr goes ↦ rw goes (omega (arith, rest)) ]

-- a new row has a place
pub free_place : (q : NumberedRow → Bool) (rows : List NumberedRow) (room places : ℕ) → (list_any q rows || nat_lt 0 (min room (places - length rows))) ≡ true → find q rows ≡ None → length rows < places
free_place q rows room places asked is =
    let none = any_fails q rows (none_at q rows is) in
    let some : nat_lt 0 (min room (places - length rows)) ≡ true = rw none at asked in
    let left : 0 < min room (places - length rows) = grind (arith, nat_tests, some) in
    omega (arith, left)

pub room_beside : (there : Bool) (room places : ℕ) → (there || nat_lt 0 (min room places)) ≡ true → (there || nat_lt 0 room) ≡ true
room_beside true room places asked = refl
room_beside false room places asked =
    let left : 0 < min room places = grind (arith, nat_tests, asked) in
    let some : 0 < room = omega (arith, left) in
    grind (arith, nat_tests, some)

there_any : (q : NumberedRow → Bool) (o : Option NumberedRow) (rows : List NumberedRow) → find q rows ≡ o → list_any q rows ≡ is_some o
there_any q o rows is = sym (found_any (λ row. row) q rows) ∙ same (find q rows) ∙ ap is_some is
  where
    same : (p : Option NumberedRow) → is_some (option_map (λ row. row) p) ≡ is_some p
    same None = refl
    same (Some row) = refl

-- a row in its place
abbrev pub placed : NumberedRow → List NumberedRow → List NumberedRow
placed x rows = put (λ a b. key_before (numbered_key a) (numbered_key b)) x rows

-- a row that is put takes a place of its own at most
pub put_within : (x : NumberedRow) (rows : List NumberedRow) (places : ℕ) → Rises numbered_key rows → length rows ≤ places → (find (has_key (numbered_key x)) rows ≡ None → length rows < places) → length (placed x rows) ≤ places
put_within x rows places rises within free = by (find (has_key (numbered_key x)) rows) refl
  where
    by : (o : Option NumberedRow) → find (has_key (numbered_key x)) rows ≡ o → length (placed x rows) ≤ places
    by None is = let low = free is in let long = put_longer numbered_key x rows rises (there_any (has_key (numbered_key x)) None rows is) in omega (arith, low, long)
    by (Some old) is = let long = put_as_long numbered_key x rows rises (there_any (has_key (numbered_key x)) (Some old) rows is) in omega (arith, long, within)

pub put_most : (x : NumberedRow) (rows : List NumberedRow) → Rises numbered_key rows → length (placed x rows) ≤ length rows + 1
put_most x rows rises = put_within x rows (length rows + 1) rises (omega arith) (λ none. omega arith)

module _ (tables : List TableSpec) where
  pub old_rises : (o : Option NumberedRow) (ts : List Tally) → Rises tally_key ts → Rises tally_key (without_old tables o ts)
  old_rises None ts rises = rises
  old_rises (Some old) ts rises = less_all_rise (row_entries tables old) ts rises

  pub old_some : (o : Option NumberedRow) (ts : List Tally) → AreSome ts → AreSome (without_old tables o ts)
  old_some None ts some = some
  old_some (Some old) ts some = less_all_some (row_entries tables old) ts some

  -- a row in its place is counted in place of the one that gave way
  pub tally_put : (x : NumberedRow) (rows : List NumberedRow) (ts : List Tally) → Rises numbered_key rows → IsTally (row_entries tables) rows ts
      → IsTally (row_entries tables) (placed x rows) (all_more (row_entries tables x) (without_old tables (find (has_key (numbered_key x)) rows) ts))
  tally_put x rows ts rises tally = record {
    rises = all_rise (row_entries tables x) (without_old tables (find (has_key (numbered_key x)) rows) ts) (old_rises (find (has_key (numbered_key x)) rows) ts tally.rises);
    same = λ f. by f (find (has_key (numbered_key x)) rows) refl;
  }
    where
      by : (f : Entry → ℕ) (o : Option NumberedRow) → find (has_key (numbered_key x)) rows ≡ o
          → sum_by (λ t. t.count * f t.entry) (all_more (row_entries tables x) (without_old tables (find (has_key (numbered_key x)) rows) ts)) ≡ sum_by (λ row. sum_by f (row_entries tables row)) (placed x rows)
      by f None is =
          let more = share_all f (row_entries tables x) ts tally.rises in
          let sum = sum_put numbered_key (λ row. sum_by f (row_entries tables row)) x rows rises (none_at (has_key (numbered_key x)) rows is) in
          let same = tally.same f in
          rw is (omega (arith, more, sum, same))
      by f (Some old) is =
          let counted = found_counted tables (numbered_key x) old rows ts rises tally is in
          let left = all_less (row_entries tables old) ts in
          let more = share_all f (row_entries tables x) left (less_all_rise (row_entries tables old) ts tally.rises) in
          let less = share_all_less f (row_entries tables old) ts tally.rises counted in
          let sum = sum_replaced numbered_key (λ row. sum_by f (row_entries tables row)) x old rows rises is in
          let same = tally.same f in
          rw is (omega (arith, more, less, sum, same))

  -- a row that goes is counted no more
  pub tally_cut : (k : Key) (rows : List NumberedRow) (ts : List Tally) → Rises numbered_key rows → IsTally (row_entries tables) rows ts
      → IsTally (row_entries tables) (filter (λ row. not (has_key k row)) rows) (without_old tables (find (has_key k) rows) ts)
  tally_cut k rows ts rises tally = by (find (has_key k) rows) refl
    where
      by : (o : Option NumberedRow) → find (has_key k) rows ≡ o → IsTally (row_entries tables) (filter (λ row. not (has_key k row)) rows) (without_old tables (find (has_key k) rows) ts)
      by None is = rw (is, all_stay (has_key k) rows (none_at (has_key k) rows is)) tally
      by (Some old) is =
          let counted = found_counted tables k old rows ts rises tally is in
          rw is record {
            rises = less_all_rise (row_entries tables old) ts tally.rises;
            same = λ f.
                let less = share_all_less f (row_entries tables old) ts tally.rises counted in
                let cut = sum_cut (IsBefore numbered_key) (has_key k) (once_key k) (λ row. sum_by f (row_entries tables row)) old rows (in_order numbered_key rows rises) is in
                let same = tally.same f in
                omega (arith, less, cut, same);
          }

  -- there is room to count a row that has a place
  pub room_for : (x : NumberedRow) (rows : List NumberedRow) (ts : List Tally) (places : ℕ) → Rises numbered_key rows → IsTally (row_entries tables) rows ts → length rows ≤ places
      → (find (has_key (numbered_key x)) rows ≡ None → length rows < places) → total (without_old tables (find (has_key (numbered_key x)) rows) ts) + length (unique_of tables x.item.table) ≤ most_of tables * places
  room_for x rows ts places rises tally within free = by (find (has_key (numbered_key x)) rows) refl
    where
      by : (o : Option NumberedRow) → find (has_key (numbered_key x)) rows ≡ o → total (without_old tables (find (has_key (numbered_key x)) rows) ts) + length (unique_of tables x.item.table) ≤ most_of tables * places
      by None is =
          let low = free is in
          let all = total_within tables rows ts tally in
          let most = unique_within tables x.item.table in
          let times = mul-le (most_of tables) (length rows + 1) (most_of tables) places (omega arith) (omega (arith, low)) in
          let one : most_of tables * (length rows + 1) ≡ most_of tables * length rows + most_of tables = omega arith in
          rw is (omega (arith, all, most, times, one))
      by (Some old) is =
          let counted = found_counted tables (numbered_key x) old rows ts rises tally is in
          let less = share_all_less (λ n. 1) (row_entries tables old) ts tally.rises counted in
          let ones = count_ones (value_entry old.item.table old.item.attributes old.number) (unique_of tables old.item.table) ∙ ap (λ n. length (unique_of tables n)) (found_table (numbered_key x) old rows is) in
          let all = total_within tables rows ts tally in
          let times = mul-le (most_of tables) (length rows) (most_of tables) places (omega arith) within in
          rw is (omega (arith, less, ones, all, times))
