-- Rows that rise by a number which is below the next one: what a push, a filter, a put and a change of other parts keep.
use Rattle.std.proofs.Common.{◌≡◌, ℕ, ◌+◌, ◌<◌, Bool, true, false, List, [], ◌∷◌, ◌++◌, map, refl, ◌∙◌, arith, inl, inr}
use Rattle.std.specs.Prelude.{◌&&◌, nat_lt, IsTrue}
use Rattle.std.specs.List.{AllByRecursion, filter, list_all}
use Rattle.std.proofs.lemmas.Bool.{cases_Bool}
use Rattle.std.proofs.lemmas.Bool.Decides.{nat_tests}
use Rattle.rows_sorted.specs.Orders.{put, are_below}
use Rattle.rows_sorted.specs.Keys.{Key, number_key, Rises}
use Rattle.rows_sorted.proofs.KeyLemmas.{number_agrees}
use Rattle.rows_sorted.proofs.OrderLemmas.{AllInOrder, IsBefore, in_order, rises_again}

both_true : (a b : Bool) → (a && b) ≡ true → (a ≡ true) × (b ≡ true)
both_true true true passes = (refl, refl)
both_true true false passes = cc
both_true false b passes = cc

true_both : (a b : Bool) → a ≡ true → b ≡ true → (a && b) ≡ true
true_both true true passes also = refl
true_both true false passes also = cc
true_both false b passes also = cc

module _ {Row : Type 0} (number : Row → ℕ) where
  all_passed : (p q : Row → Bool) → ((x : Row) → p x ≡ true → q x ≡ true) → (rows : List Row) → list_all p rows ≡ true → list_all q rows ≡ true
  all_passed p q follows [] all = refl
  all_passed p q follows (x ∷ xs) all = let parts = both_true (p x) (list_all p xs) all in true_both _ _ (follows x parts.0) (all_passed p q follows xs parts.1)

  all_of_both : (p : Row → Bool) (xs ys : List Row) → list_all p xs ≡ true → list_all p ys ≡ true → list_all p (xs ++ ys) ≡ true
  all_of_both p [] ys all also = also
  all_of_both p (x ∷ xs) ys all also = let parts = both_true (p x) (list_all p xs) all in true_both _ _ parts.0 (all_of_both p xs ys parts.1 also)

  all_of_some : (p q : Row → Bool) (xs : List Row) → list_all p xs ≡ true → list_all p (filter q xs) ≡ true
  all_of_some p q [] all = refl
  all_of_some p q (x ∷ xs) all =
      let parts = both_true (p x) (list_all p xs) all in
      elim (cases_Bool (q x)) [
        | inl stays ↦ rw stays (true_both _ _ parts.0 (all_of_some p q xs parts.1))
        | inr goes ↦ rw goes (all_of_some p q xs parts.1)
      ]

  one_below : (n : ℕ) (x : Row) → number x < n → nat_lt (number x) n ≡ true
  one_below n x low = grind (arith, nat_tests)

  below_later : (n : ℕ) (rows : List Row) → IsTrue (are_below number n rows) → IsTrue (are_below number (n + 1) rows)
  below_later n rows all = all_passed (λ row. nat_lt (number row) n) (λ row. nat_lt (number row) (n + 1)) (λ x low. grind (arith, nat_tests)) rows all

  -- a row with the next number goes behind the others
  pub below_pushed : (n : ℕ) (row : Row) (rows : List Row) → number row ≡ n → IsTrue (are_below number n rows) → IsTrue (are_below number (n + 1) (rows ++ row ∷ []))
  below_pushed n row rows is all =
      all_of_both (λ row. nat_lt (number row) (n + 1)) rows (row ∷ []) (below_later n rows all) (true_both _ _ (one_below (n + 1) row (omega (arith, is))) refl)

  pub below_filter : (n : ℕ) (p : Row → Bool) (rows : List Row) → IsTrue (are_below number n rows) → IsTrue (are_below number n (filter p rows))
  below_filter n p rows all = all_of_some (λ row. nat_lt (number row) n) p rows all

  pub below_put : (n : ℕ) (before : Row → Row → Bool) (row : Row) (rows : List Row) → number row < n → IsTrue (are_below number n rows) → IsTrue (are_below number n (put before row rows))
  below_put n before row rows low all =
      let test = λ (row : Row). nat_lt (number row) n in
      all_of_both test (filter (λ other. before other row) rows) (row ∷ filter (λ other. before row other) rows) (all_of_some test (λ other. before other row) rows all)
      (true_both _ _ (one_below n row low) (all_of_some test (λ other. before row other) rows all))

  pub below_map : (n : ℕ) (f : Row → Row) → ((x : Row) → number (f x) ≡ number x) → (rows : List Row) → IsTrue (are_below number n rows) → IsTrue (are_below number n (map f rows))
  below_map n f keeps [] all = refl
  below_map n f keeps (x ∷ xs) all =
      let parts = both_true (nat_lt (number x) n) (list_all (λ row. nat_lt (number row) n) xs) all in
      true_both _ _ (rw (keeps x) parts.0) (below_map n f keeps xs parts.1)

  module _ (key : Row → Key) (is_number : (x : Row) → key x ≡ number_key (number x)) where
    before_next : (n : ℕ) (x y : Row) → number y ≡ n → nat_lt (number x) n ≡ true → IsBefore key x y
    before_next n x y is low = rw (is_number x, is_number y, is) (number_agrees (number x) n ∙ low)

    all_before : (n : ℕ) (row : Row) (rows : List Row) → number row ≡ n → list_all (λ x. nat_lt (number x) n) rows ≡ true → AllByRecursion (λ x. IsBefore key x row) rows
    all_before n row [] is all = tt
    all_before n row (x ∷ xs) is all =
        let parts = both_true (nat_lt (number x) n) (list_all (λ x. nat_lt (number x) n) xs) all in
        (before_next n x row is parts.0, all_before n row xs is parts.1)

    pushed_order : (row : Row) (rows : List Row) → AllInOrder (IsBefore key) rows → AllByRecursion (λ x. IsBefore key x row) rows → AllInOrder (IsBefore key) (rows ++ row ∷ [])
    pushed_order row [] order all = (tt, tt)
    pushed_order row (x ∷ xs) order all = (pushed_all x xs order.0 all.0, pushed_order row xs order.1 all.1)
      where
        pushed_all : (x : Row) (xs : List Row) → AllByRecursion (IsBefore key x) xs → IsBefore key x row → AllByRecursion (IsBefore key x) (xs ++ row ∷ [])
        pushed_all x [] all last = (last, tt)
        pushed_all x (y ∷ ys) all last = (all.0, pushed_all x ys all.1 last)

    pub rises_pushed : (n : ℕ) (row : Row) (rows : List Row) → number row ≡ n → IsTrue (are_below number n rows) → Rises key rows → Rises key (rows ++ row ∷ [])
    rises_pushed n row rows is all rises = rises_again key _ (pushed_order row rows (in_order key rows rises) (all_before n row rows is all))

-- a change that keeps keys keeps the order
module _ {Row : Type 0} (key : Row → Key) (f : Row → Row) (keeps : (x : Row) → key (f x) ≡ key x) where
  all_mapped : (x : Row) (rows : List Row) → AllByRecursion (IsBefore key x) rows → AllByRecursion (IsBefore key (f x)) (map f rows)
  all_mapped x [] all = tt
  all_mapped x (y ∷ ys) all = (rw (keeps x, keeps y) all.0, all_mapped x ys all.1)

  order_mapped : (rows : List Row) → AllInOrder (IsBefore key) rows → AllInOrder (IsBefore key) (map f rows)
  order_mapped [] order = tt
  order_mapped (x ∷ xs) order = (all_mapped x xs order.0, order_mapped xs order.1)

  pub rises_map : (rows : List Row) → Rises key rows → Rises key (map f rows)
  rises_map rows rises = rises_again key (map f rows) (order_mapped rows (in_order key rows rises))
