-- Rows that rise by their numbers, each found by its own.
use Rattle.std.proofs.Common.{◌≡◌, ℕ, ◌==◌, Bool, true, false, List, [], ◌∷◌, Some, None, refl, sym, ap, ◌∙◌, arith, inl, inr}
use Rattle.std.specs.Prelude.{nat_lt}
use Rattle.std.specs.List.{AllByRecursion, find}
use Rattle.std.proofs.lemmas.Bool.{cases_Bool}
use Rattle.std.proofs.lemmas.Bool.Decides.{nat_tests}
use Rattle.rows_sorted.specs.Keys.{Key, key_before, number_key, Rises}
use Rattle.rows_sorted.proofs.KeyLemmas.{number_agrees}
use Rattle.rows_sorted.proofs.OrderLemmas.{AllInOrder, IsBefore, all_from_all, in_order}

pub all_two : {X : Type 0} (P Q R : X → Type 0) → ((x : X) → P x → Q x → R x) → (xs : List X) → AllByRecursion P xs → AllByRecursion Q xs → AllByRecursion R xs
all_two P Q R follows [] ps qs = tt
all_two P Q R follows (x ∷ xs) ps qs = (follows x ps.0 qs.0, all_two P Q R follows xs ps.1 qs.1)

pub none_at : {Row : Type 0} (q : Row → Bool) (rows : List Row) → find q rows ≡ None → AllByRecursion (λ row. q row ≡ false) rows
none_at q [] is = tt
none_at q (x ∷ xs) is = elim (cases_Bool (q x)) [
  | inl mine ↦ let wrong : Some x ≡ None = rw mine at is in cc
  | inr other ↦ (other, none_at q xs (rw other at is))
]

module _ {Row : Type 0} (number : Row → ℕ) (key : Row → Key) (is_number : (x : Row) → key x ≡ number_key (number x)) where
  pub lower_number : (x y : Row) → IsBefore key x y → nat_lt (number x) (number y) ≡ true
  lower_number x y before = sym (number_agrees (number x) (number y)) ∙ (λ i. key_before (sym (is_number x) i) (sym (is_number y) i)) ∙ before

  found_later : (x row : Row) (xs : List Row) → IsBefore key x row → find (λ other. number other == number row) xs ≡ Some row → find (λ other. number other == number row) (x ∷ xs) ≡ Some row
  found_later x row xs before is =
      let less = lower_number x row before in
      let other : (number x == number row) ≡ false = grind (arith, nat_tests, less) in
      rw other is

  -- each row is found by its number
  pub each_found : (rows : List Row) → Rises key rows → AllByRecursion (λ row. find (λ other. number other == number row) rows ≡ Some row) rows
  each_found rows rises = by rows (in_order key rows rises)
    where
      by : (rows : List Row) → AllInOrder (IsBefore key) rows → AllByRecursion (λ row. find (λ other. number other == number row) rows ≡ Some row) rows
      by [] order = tt
      by (x ∷ xs) order =
          let mine : (number x == number x) ≡ true = grind (arith, nat_tests) in (
            rw mine refl,
            all_two (IsBefore key x) (λ row. find (λ other. number other == number row) xs ≡ Some row) (λ row. find (λ other. number other == number row) (x ∷ xs) ≡ Some row)
                (λ row before is. found_later x row xs before is) xs order.0 (by xs order.1),
          )

  -- only the one that is found has the number
  pub only_found : (n : ℕ) (found : Row) (rows : List Row) → Rises key rows → find (λ other. number other == n) rows ≡ Some found → AllByRecursion (λ row. (number row == n) ≡ true → row ≡ found) rows
  only_found n found rows rises is = all_from_all (λ row. find (λ other. number other == number row) rows ≡ Some row) (λ row. (number row == n) ≡ true → row ≡ found) one rows (each_found rows rises)
    where
      one : (row : Row) → find (λ other. number other == number row) rows ≡ Some row → (number row == n) ≡ true → row ≡ found
      one row own mine =
          let same : number row ≡ n = grind (arith, nat_tests, mine) in
          let both : find (λ other. number other == n) rows ≡ Some row = ap (λ (k : ℕ). find (λ other. number other == k) rows) (sym same) ∙ own in
          let joined : Some found ≡ Some row = sym is ∙ both in
          cc
