-- What changes of rows leave of their index.
use Rattle.std.proofs.Common.{◌≡◌, ℕ, ◌+◌, ◌<◌, ◌==◌, Bool, true, false, cond, List, [], ◌∷◌, Some, map, refl, sym, ap, ◌∙◌, arith, inl, inr}
use Rattle.std.specs.Prelude.{◌&&◌}
use Rattle.std.specs.List.{AllByRecursion, filter, find, insert, prefix_len, sum_by}
use Rattle.std.proofs.lemmas.Bool.{cases_Bool, and_parts}
use Rattle.std.proofs.lemmas.Bool.Decides.{nat_tests}
use Rattle.std.proofs.lemmas.List.Sorted.{sum_by-IsPermutation, IsPermutation-insert}
use Rattle.std.proofs.lemmas.List.Sums.{sum_by-cons}
use Rattle.rows_sorted.specs.Orders.{put}
use Rattle.rows_sorted.specs.Keys.{Key, is_key, key_before, Rises}
use Rattle.rows_sorted.proofs.OrderLemmas.{in_order, filter_rises, put_rises, all_from_all}
use Rattle.rows_sorted.proofs.RowLemmas.{inserted_is}
use Rattle.rows_sorted.proofs.PartLemmas.{parted_by_key}
use Rattle.rows_index.specs.declared.entry.Entry.{Entry}
use Rattle.rows_index.specs.Index.{entry_key, entry_before, is_entry, IsIndex}
use Rattle.rows_index.proofs.SumLemmas.{if_passes, one_if, sum_filter, sum_mapped, sum_agree, none_counted, none_passes, some_passes}

both_true : (a b : Bool) → a ≡ true → b ≡ true → (a && b) ≡ true
both_true true true passes also = refl
both_true true false passes also = cc
both_true false b passes also = cc

pub is_itself : (e : Entry) → is_entry e e ≡ true
is_itself e =
    let key : (e.key == e.key) ≡ true = grind (arith, nat_tests) in
    let number : (e.number == e.number) ≡ true = grind (arith, nat_tests) in
    both_true _ _ key number

pub entry_same : (e x : Entry) → is_entry e x ≡ true → (x.key ≡ e.key) × (x.number ≡ e.number)
entry_same e x is =
    let parts = and_parts (x.key == e.key) (x.number == e.number) is in
    (grind (arith, nat_tests, parts.0), grind (arith, nat_tests, parts.1))

-- a row that is put where none has its key adds its own measure
pub sum_put : {Row : Type 0} (key : Row → Key) (f : Row → ℕ) (x : Row) (rows : List Row) → Rises key rows → AllByRecursion (λ row. is_key (key row) (key x) ≡ false) rows
    → sum_by f (put (λ a b. key_before (key a) (key b)) x rows) ≡ f x + sum_by f rows
sum_put key f x rows rises absent =
    let place = prefix_len (λ row. key_before (key row) (key x)) rows in
    let is : insert rows place x ≡ put (λ a b. key_before (key a) (key b)) x rows = inserted_is _ _ _ _ (parted_by_key key (key x)) x rows (in_order key rows rises) absent in
    ap (sum_by f) (sym is) ∙ sum_by-IsPermutation f (x ∷ rows) (insert rows place x) (IsPermutation-insert rows place x) ∙ sum_by-cons f x rows

module _ {Row : Type 0} (entry : Row → Entry) where
  -- where no row's entry passes, no entry does
  pub entries_fail : (q : Entry → Bool) (rows : List Row) (entries : List Entry) → IsIndex entry rows entries → AllByRecursion (λ row. q (entry row) ≡ false) rows → AllByRecursion (λ e. q e ≡ false) entries
  entries_fail q rows entries index none = none_passes q entries (index.same (one_if q) ∙ none_counted (λ row. q (entry row)) rows none)

  -- where no entry passes, no row's entry does
  pub rows_fail : (q : Entry → Bool) (rows : List Row) (entries : List Entry) → IsIndex entry rows entries → AllByRecursion (λ e. q e ≡ false) entries → AllByRecursion (λ row. q (entry row) ≡ false) rows
  rows_fail q rows entries index none = none_passes (λ row. q (entry row)) rows (sym (index.same (one_if q)) ∙ none_counted q entries none)

  -- a row that comes with its entry
  pub index_put : (x : Row) (rows more : List Row) (entries : List Entry) → IsIndex entry rows entries → AllByRecursion (λ row. is_key (entry_key (entry row)) (entry_key (entry x)) ≡ false) rows
      → ((f : Row → ℕ) → sum_by f more ≡ f x + sum_by f rows) → IsIndex entry more (put entry_before (entry x) entries)
  index_put x rows more entries index absent grown =
      let none = entries_fail (λ e. is_key (entry_key e) (entry_key (entry x))) rows entries index absent in
      record {
        rises = put_rises entry_key (entry x) entries index.rises;
        same = λ f. sum_put entry_key f (entry x) entries index.rises none ∙ ap (λ n. f (entry x) + n) (index.same f) ∙ sym (grown (λ row. f (entry row)));
      }

  -- rows that go with their entries
  pub index_filter : (p : Row → Bool) (q : Entry → Bool) (rows : List Row) (entries : List Entry) → IsIndex entry rows entries → AllByRecursion (λ row. q (entry row) ≡ p row) rows
      → IsIndex entry (filter p rows) (filter q entries)
  index_filter p q rows entries index agree = record {
    rises = filter_rises entry_key q entries index.rises;
    same = λ f.
        sum_filter f q entries ∙ index.same (if_passes q f)
        ∙ sum_agree (λ row. if_passes q f (entry row)) (if_passes p (λ row. f (entry row))) rows (all_from_all (λ row. q (entry row) ≡ p row) (λ row. if_passes q f (entry row) ≡ if_passes p (λ row. f (entry row)) row) (λ row is. ap (λ b. cond b (f (entry row)) 0) is) rows agree)
        ∙ sym (sum_filter (λ row. f (entry row)) p rows);
  }

  -- rows that change without a change of their entries
  pub index_map : (g : Row → Row) (rows : List Row) (entries : List Entry) → IsIndex entry rows entries → AllByRecursion (λ row. entry (g row) ≡ entry row) rows → IsIndex entry (map g rows) entries
  index_map g rows entries index keeps = record {
    rises = index.rises;
    same = λ f.
        index.same f
        ∙ sum_agree (λ row. f (entry row)) (λ row. f (entry (g row))) rows (all_from_all (λ row. entry (g row) ≡ entry row) (λ row. f (entry row) ≡ f (entry (g row))) (λ row is. ap f (sym is)) rows keeps)
        ∙ sym (sum_mapped (λ row. f (entry row)) g rows);
  }

  -- the first of the entries that pass is that of a row
  pub first_has_row : (P : Row → Type 0) (q : Entry → Bool) (rows : List Row) (entries : List Entry) (e : Entry) → IsIndex entry rows entries → AllByRecursion P rows → find q entries ≡ Some e
      → (row : Row) × (is_entry e (entry row) ≡ true) × P row × (q e ≡ true)
  first_has_row P q rows entries e index all is =
      let first = found_first entries is in
      let some : 0 < sum_by (one_if (λ row. is_entry e (entry row))) rows = omega (arith, first.0, index.same (one_if (is_entry e))) in
      let found = some_passes P (λ row. is_entry e (entry row)) rows all some in
      (found.0, found.1, found.2, first.1)
    where
      found_first : (xs : List Entry) → find q xs ≡ Some e → (0 < sum_by (one_if (is_entry e)) xs) × (q e ≡ true)
      found_first [] is = absurd (cc)
      found_first (x ∷ xs) is =
          let step = sum_by-cons (one_if (is_entry e)) x xs in
          elim (cases_Bool (q x)) [
            | inl passes ↦
                let first : Some x ≡ Some e = rw passes at is in
                let same : x ≡ e = cc in
                let one : one_if (is_entry e) x ≡ 1 = ap (one_if (is_entry e)) same ∙ (rw (is_itself e) refl) in
                (omega (arith, step, one), ap q (sym same) ∙ passes)
            | inr fails ↦ let later = found_first xs (rw fails at is) in (omega (arith, step, later.0), later.1)
          ]
