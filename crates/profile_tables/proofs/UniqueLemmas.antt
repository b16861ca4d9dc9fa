-- Rows whose entries are counted.
use Rattle.std.proofs.Common.{◌≡◌, ℕ, zero, suc, ◌+◌, ◌*◌, ◌≤◌, Bool, true, false, List, [], ◌∷◌, Some, map, length, refl, arith}
use Rattle.std.specs.List.{find, sum_by}
use Rattle.std.proofs.lemmas.List.Sums.{sum_by-cons}
use Rattle.rows_sorted.specs.Keys.{Key, is_key, Rises}
use Rattle.rows_sorted.proofs.OrderLemmas.{IsBefore, in_order}
use Rattle.rows_sorted.proofs.PartLemmas.{parted_by_key}
use Rattle.rows_index.specs.declared.entry.Entry.{Entry}
use Rattle.rows_index.specs.declared.tally.Tally.{Tally}
use Rattle.rows_index.specs.Tallies.{one_of, total, AreCounted, IsTally}
use Rattle.rows_index.proofs.CountLemmas.{count_is, sum_cut}
use Rattle.profile_tables.specs.Keeping.{numbered_key}
use Rattle.profile_tables.specs.Unique.{most_of, row_entries, unique_of, value_entry}
use Rattle.profile_tables.specs.declared.numbered.NumberedRow.{NumberedRow}
use Rattle.profile_tables.specs.declared.table_spec.TableSpec.{TableSpec}

-- the row has this key
abbrev pub has_key : Key → NumberedRow → Bool
has_key k row = is_key (numbered_key row) k

pub once_key : (k : Key) (x y : NumberedRow) → IsBefore numbered_key x y → has_key k x ≡ true → has_key k y ≡ false
once_key k x y before mine =
    let laws = parted_by_key numbered_key k in
    laws.later_apart x y before (laws.mine_not_low x mine)

-- a row that is found has its entries counted
pub found_counted : (tables : List TableSpec) (k : Key) (found : NumberedRow) (rows : List NumberedRow) (ts : List Tally) → Rises numbered_key rows → IsTally (row_entries tables) rows ts → find (has_key k) rows ≡ Some found
    → AreCounted (row_entries tables found) ts
found_counted tables k found rows ts rises tally is = λ e.
    let count = count_is (row_entries tables) e rows ts tally in
    let cut = sum_cut (IsBefore numbered_key) (has_key k) (once_key k) (λ row. sum_by (one_of e) (row_entries tables row)) found rows (in_order numbered_key rows rises) is in
    omega (arith, count, cut)

pub unique_within : (tables : List TableSpec) (n : ℕ) → length (unique_of tables n) ≤ most_of tables
unique_within [] n = omega arith
unique_within (spec ∷ specs) zero = omega arith
unique_within (spec ∷ specs) (suc n) = let rest = unique_within specs n in omega (arith, rest)

pub count_ones : (f : List ℕ → Entry) (names : List (List ℕ)) → sum_by (λ n. 1) (map f names) ≡ length names
count_ones f [] = refl
count_ones f (x ∷ xs) = let step = sum_by-cons (λ n. 1) (f x) (map f xs) in let rest = count_ones f xs in omega (arith, step, rest)

row_ones : (tables : List TableSpec) (rows : List NumberedRow) → sum_by (λ row. sum_by (λ n. 1) (row_entries tables row)) rows ≤ most_of tables * length rows
row_ones tables [] = omega arith
row_ones tables (x ∷ xs) =
    let rest = row_ones tables xs in
    let step = sum_by-cons (λ row. sum_by (λ n. 1) (row_entries tables row)) x xs in
    let mine = count_ones (value_entry x.item.table x.item.attributes x.number) (unique_of tables x.item.table) in
    let most = unique_within tables x.item.table in
    let times : most_of tables * length (x ∷ xs) ≡ most_of tables + most_of tables * length xs = omega arith in
    omega (arith, rest, step, mine, most, times)

-- no more are counted than each row may have
pub total_within : (tables : List TableSpec) (rows : List NumberedRow) (ts : List Tally) → IsTally (row_entries tables) rows ts → total ts ≤ most_of tables * length rows
total_within tables rows ts tally = let same = tally.same (λ n. 1) in let most = row_ones tables rows in omega (arith, same, most)
