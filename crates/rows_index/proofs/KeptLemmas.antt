-- Rows that are put back in the place of those of their number, and rows that are pushed.
use Rattle.std.proofs.Common.{◌≡◌, ℕ, ◌+◌, ◌==◌, false, List, [], ◌∷◌, ◌++◌, None, refl, ap, ◌∙◌, arith, inl, inr}
use Rattle.std.specs.Prelude.{not, nat_lt, IsTrue}
use Rattle.std.specs.List.{AllByRecursion, filter, find, list_all, sum_by}
use Rattle.std.proofs.lemmas.Bool.{cases_Bool, and_parts}
use Rattle.std.proofs.lemmas.Bool.Decides.{nat_tests}
use Rattle.std.proofs.lemmas.List.Sums.{sum_by-cons, sum_by-append}
use Rattle.rows_sorted.specs.Orders.{are_below, put}
use Rattle.rows_index.proofs.RowLemmas.{filter_behind}

-- a row that is pushed adds its own measure
pub sum_pushed : {Row : Type 0} (f : Row → ℕ) (x : Row) (rows : List Row) → sum_by f (rows ++ x ∷ []) ≡ f x + sum_by f rows
sum_pushed f x rows = let joined = sum_by-append f rows (x ∷ []) in let one = sum_by-cons f x [] in omega (arith, joined, one)

module _ {Row : Type 0} (number : Row → ℕ) where
  -- a row that has the next number is none of those below it
  pub others_below : (n : ℕ) (rows : List Row) → IsTrue (are_below number n rows) → AllByRecursion (λ row. (number row == n) ≡ false) rows
  others_below n [] all = tt
  others_below n (x ∷ xs) all =
      let parts = and_parts (nat_lt (number x) n) (list_all (λ row. nat_lt (number row) n) xs) all in
      let low = parts.0 in
      (grind (arith, nat_tests, low), others_below n xs parts.1)

  -- where the row of a number was cut, none has it
  pub cut_is_free : (n : ℕ) (rows : List Row) → find (λ row. number row == n) (filter (λ row. not (number row == n)) rows) ≡ None
  cut_is_free n [] = refl
  cut_is_free n (x ∷ xs) = elim (cases_Bool (number x == n)) [
    | inl mine ↦ rw mine (cut_is_free n xs)
    | inr other ↦ rw (other, other) (cut_is_free n xs)
  ]

  low_stays : (n : ℕ) (x : Row) → not (number x == n) ≡ false → nat_lt (number x) n ≡ false
  low_stays n x goes = grind (arith, nat_tests)

  high_stays : (n : ℕ) (x : Row) → not (number x == n) ≡ false → nat_lt n (number x) ≡ false
  high_stays n x goes = grind (arith, nat_tests)

  each : (P : Row → Type 0) → ((x : Row) → P x) → (rows : List Row) → AllByRecursion P rows
  each P all [] = tt
  each P all (x ∷ xs) = (all x, each P all xs)

  -- the one that gives way may be cut before
  pub put_over : (x : Row) (rows : List Row) → put (λ a b. nat_lt (number a) (number b)) x (filter (λ row. not (number row == number x)) rows) ≡ put (λ a b. nat_lt (number a) (number b)) x rows
  put_over x rows =
      let stays = λ (row : Row). not (number row == number x) in
      let low = λ (row : Row). nat_lt (number row) (number x) in
      let high = λ (row : Row). nat_lt (number x) (number row) in
      ap (λ front. front ++ x ∷ filter high (filter stays rows)) (filter_behind low stays rows (each (λ row. stays row ≡ false → low row ≡ false) (low_stays (number x)) rows))
      ∙ ap (λ back. filter low rows ++ x ∷ back) (filter_behind high stays rows (each (λ row. stays row ≡ false → high row ≡ false) (high_stays (number x)) rows))
