-- Rows found by their numbers, and an index of them by some part of each and then by its number.
use Rattle.std.proofs.Common.{◌≡◌, ℕ, ◌+◌, ◌<◌, ◌==◌, Bool, true, false, cond, List, [], ◌∷◌, Some, None, length, refl, sym, ap, subst, ◌∙◌, arith, inl, inr}
use Rattle.std.specs.Prelude.{not}
use Rattle.std.specs.List.{AllByRecursion, filter, find, list_any, sum_by}
use Rattle.std.proofs.lemmas.Bool.{cases_Bool}
use Rattle.std.proofs.lemmas.Bool.Decides.{nat_tests}
use Rattle.rows_sorted.specs.Orders.{put}
use Rattle.rows_sorted.specs.Keys.{Key, is_key, key_before, number_key, pair_key, Rises}
use Rattle.rows_sorted.proofs.OrderLemmas.{all_from_all}
use Rattle.rows_index.specs.declared.entry.Entry.{Entry}
use Rattle.rows_index.specs.Index.{entry_key, IsIndex}
use Rattle.rows_index.proofs.FoundLemmas.{each_found, only_found, none_at}
use Rattle.rows_index.proofs.IndexLemmas.{entry_same, first_has_row, index_filter, index_put, rows_fail, sum_put}

-- entries of different numbers are different
pub other_key : (a b n m : ℕ) → (n == m) ≡ false → is_key (pair_key a n) (pair_key b m) ≡ false
other_key a b n m other = elim (cases_Bool (a == b)) [ inl same ↦ rw (same, other) refl | inr differ ↦ rw differ refl ]

pub same_key : (a b n m : ℕ) → a ≡ b → n ≡ m → is_key (pair_key a n) (pair_key b m) ≡ true
same_key a b n m first second =
    let one : (a == b) ≡ true = grind (arith, nat_tests, first) in
    let two : (n == m) ≡ true = grind (arith, nat_tests, second) in
    rw (one, two) refl

-- where none passes, leaving out those that do leaves all
pub all_stay : {X : Type 0} (p : X → Bool) (xs : List X) → AllByRecursion (λ x. p x ≡ false) xs → filter (λ x. not (p x)) xs ≡ xs
all_stay p [] none = refl
all_stay p (x ∷ xs) none = rw none.0 (ap (λ rest. x ∷ rest) (all_stay p xs none.1))

pub any_fails : {X : Type 0} (p : X → Bool) (xs : List X) → AllByRecursion (λ x. p x ≡ false) xs → list_any p xs ≡ false
any_fails p [] none = refl
any_fails p (x ∷ xs) none = rw none.0 (any_fails p xs none.1)

pub each_fails : {X : Type 0} (p : X → Bool) (xs : List X) → list_any p xs ≡ false → AllByRecursion (λ x. p x ≡ false) xs
each_fails p [] none = tt
each_fails p (x ∷ xs) none = elim (cases_Bool (p x)) [
  | inl passes ↦ let wrong : true ≡ false = rw passes at none in cc
  | inr fails ↦ (fails, each_fails p xs (rw fails at none))
]

-- a filter behind one that leaves out none of those that pass it
pub filter_behind : {X : Type 0} (p q : X → Bool) (xs : List X) → AllByRecursion (λ x. q x ≡ false → p x ≡ false) xs → filter p (filter q xs) ≡ filter p xs
filter_behind p q [] all = refl
filter_behind p q (x ∷ xs) all = elim (cases_Bool (q x)) [
  | inl stays ↦ rw stays (ap (λ rest. cond (p x) (x ∷ rest) rest) (filter_behind p q xs all.1))
  | inr goes ↦ rw (goes, all.0 goes) (filter_behind p q xs all.1)
]

module _ {Row : Type 0} (number : Row → ℕ) where
  -- the row that is found has the number
  pub found_number : (n : ℕ) (found : Row) (rows : List Row) → find (λ row. number row == n) rows ≡ Some found → number found ≡ n
  found_number n found [] is = cc
  found_number n found (x ∷ xs) is = elim (cases_Bool (number x == n)) [
    | inl mine ↦ let first : Some x ≡ Some found = rw mine at is in let same : x ≡ found = cc in let own : number x ≡ n = grind (arith, nat_tests, mine) in ap number (sym same) ∙ own
    | inr other ↦ found_number n found xs (rw other at is)
  ]

  filter_most : (p : Row → Bool) (rows : List Row) → length (filter p rows) < length rows + 1
  filter_most p [] = omega arith
  filter_most p (y ∷ ys) = let more = filter_most p ys in elim (cases_Bool (p y)) [ inl stays ↦ rw stays (omega (arith, more)) | inr goes ↦ rw goes (omega (arith, more)) ]

  -- fewer are left where one that is there goes
  pub cut_fewer : (n : ℕ) (found : Row) (rows : List Row) → find (λ row. number row == n) rows ≡ Some found → length (filter (λ row. not (number row == n)) rows) < length rows
  cut_fewer n found [] is = absurd (cc)
  cut_fewer n found (x ∷ xs) is = elim (cases_Bool (number x == n)) [
    | inl mine ↦ let most = filter_most (λ row. not (number row == n)) xs in rw mine (omega (arith, most))
    | inr other ↦ let more = cut_fewer n found xs (rw other at is) in rw other (omega (arith, more))
  ]

  module _ (part : Row → ℕ) where
    -- a row under some part of it
    abbrev pub entry : Row → Entry
    entry x = record { key = part x; number = number x }

    -- where no entry is found, no row's entry passes
    pub none_first : (q : Entry → Bool) (rows : List Row) (entries : List Entry) → IsIndex entry rows entries → find q entries ≡ None → AllByRecursion (λ row. q (entry row) ≡ false) rows
    none_first q rows entries index is = rows_fail entry q rows entries index (none_at q entries is)

    module _ (key : Row → Key) (is_number : (x : Row) → key x ≡ number_key (number x)) where
      apart_keys : (x y : Row) → (number x == number y) ≡ false → is_key (key x) (key y) ≡ false
      apart_keys x y other = (λ i. is_key (is_number x i) (is_number y i)) ∙ (rw other refl)

      -- a row whose number none has comes with its entry
      pub indexed_put : (x : Row) (rows more : List Row) (entries : List Entry) → Rises key rows → IsIndex entry rows entries → find (λ row. number row == number x) rows ≡ None
          → more ≡ put (λ a b. key_before (key a) (key b)) x rows
          → IsIndex entry more (put (λ a b. key_before (entry_key a) (entry_key b)) (entry x) entries)
      indexed_put x rows more entries rises index absent is =
          let none = none_at (λ row. number row == number x) rows absent in
          let apart = all_from_all (λ row. (number row == number x) ≡ false) (λ row. is_key (entry_key (entry row)) (entry_key (entry x)) ≡ false) (λ row other. other_key (part row) (part x) (number row) (number x) other) rows none in
          let keys = all_from_all (λ row. (number row == number x) ≡ false) (λ row. is_key (key row) (key x) ≡ false) (λ row other. apart_keys row x other) rows none in
          index_put entry x rows more entries index apart (λ f. ap (sum_by f) is ∙ sum_put key f x rows rises keys)

      -- the row of a number goes with its entry
      pub indexed_cut : (n : ℕ) (found : Row) (rows : List Row) (entries : List Entry) → Rises key rows → IsIndex entry rows entries → find (λ row. number row == n) rows ≡ Some found
          → IsIndex entry (filter (λ row. not (number row == n)) rows) (filter (λ e. not (is_key (entry_key e) (pair_key (part found) n))) entries)
      indexed_cut n found rows entries rises index is =
          index_filter entry (λ row. not (number row == n)) (λ e. not (is_key (entry_key e) (pair_key (part found) n))) rows entries index
          (all_from_all (λ row. (number row == n) ≡ true → row ≡ found) (λ row. not (is_key (entry_key (entry row)) (pair_key (part found) n)) ≡ not (number row == n)) one rows (only_found number key is_number n found rows rises is))
        where
          one : (row : Row) → ((number row == n) ≡ true → row ≡ found) → not (is_key (entry_key (entry row)) (pair_key (part found) n)) ≡ not (number row == n)
          one row only = elim (cases_Bool (number row == n)) [
            | inl mine ↦
                let same = only mine in
                let own : number row ≡ n = grind (arith, nat_tests, mine) in
                ap not (same_key (part row) (part found) (number row) n (ap part same) own ∙ sym mine)
            | inr other ↦ ap not (other_key (part row) (part found) (number row) n other ∙ sym other)
          ]

      -- the first of the entries that pass is that of a row that is found by its number
      pub some_first : (q : Entry → Bool) (rows : List Row) (entries : List Entry) (e : Entry) → Rises key rows → IsIndex entry rows entries → find q entries ≡ Some e
          → (row : Row) × (find (λ other. number other == e.number) rows ≡ Some row) × (part row ≡ e.key) × (q e ≡ true)
      some_first q rows entries e rises index is =
          let has = first_has_row entry (λ row. find (λ other. number other == number row) rows ≡ Some row) q rows entries e index (each_found number key is_number rows rises) is in
          let same = entry_same e (entry has.0) has.1 in
          (has.0, subst (λ (n : ℕ). find (λ other. number other == n) rows ≡ Some has.0) same.1 has.2, same.0, has.3)
