-- The first of the rows that pass a test, where these stand side by side in rows that stand in order.
use Rattle.std.proofs.Common.{◌≡◌, ℕ, ◌+◌, Bool, true, false, List, [], ◌∷◌, Some, None, refl, ap, arith, inl, inr, suc, slice_get}
use Rattle.std.specs.Prelude.{remove, nat_lt, ◌==◌, ◌&&◌, ◌||◌}
use Rattle.std.specs.List.{AllByRecursion, prefix_len, position_from}
use Rattle.std.proofs.lemmas.Bool.{cases_Bool, cond_both}
use Rattle.std.proofs.lemmas.Bool.Decides.{nat_tests}
use Rattle.rows_sorted.specs.Keys.{Key, is_pair, Rises}
use Rattle.rows_sorted.specs.Runs.{without_first}
use Rattle.rows_sorted.proofs.OrderLemmas.{AllInOrder, IsBefore, in_order, rises_again, all_from_all}
use Rattle.rows_sorted.proofs.HalvingLemmas.{found}

-- The rows that pass the test p stand before those that pass q, and these stand side by side.
pub record HeadBy {Row : Type 0} (R : Row → Row → Type 0) (p q : Row → Bool) : Type 0 where
  pub before : (x : Row) → p x ≡ true → q x ≡ false
  pub later : (x y : Row) → R x y → p x ≡ false → q x ≡ false → q y ≡ false

none_there : {Row : Type 0} (q : Row → Bool) (i : ℕ) (rows : List Row) → AllByRecursion (λ y. q y ≡ false) rows → position_from q i rows ≡ None
none_there q i [] all = refl
none_there q i (y ∷ ys) all = rw all.0 (none_there q (i + 1) ys all.1)

module _ {Row : Type 0} (R : Row → Row → Type 0) (p q : Row → Bool) (laws : HeadBy R p q) where
  -- the first row that passes, if there is one, stands where those before it end
  pub head_at : (i : ℕ) (rows : List Row) → AllInOrder R rows → position_from q i rows ≡ found q (slice_get rows (prefix_len p rows)) (i + prefix_len p rows)
  head_at i [] order = refl
  head_at i (x ∷ xs) order = elim (cases_Bool (p x)) [
    | inl passes ↦
        let one : 1 + prefix_len p xs ≡ suc (prefix_len p xs) = omega arith in
        let count : i + 1 + prefix_len p xs ≡ i + suc (prefix_len p xs) = omega arith in
        rw (laws.before x passes, passes, one, ← count) (head_at (i + 1) xs order.1)
    | inr fails ↦ elim (cases_Bool (q x)) [
      | inl mine ↦ let here : i + 0 ≡ i = omega arith in rw (fails, mine, here) refl
      | inr other ↦
          let none = none_there q (i + 1) xs (all_from_all (R x) (λ y. q y ≡ false) (λ y later. laws.later x y later fails other) xs order.0) in
          rw (fails, other, none) refl
    ]
  ]

  -- the place of the first row that passes, from how many rows stand before it
  pub head_place : (n : ℕ) (rows : List Row) → AllInOrder R rows → n ≡ prefix_len p rows → position_from q 0 rows ≡ found q (slice_get rows n) n
  head_place n rows order is =
      let none : 0 + n ≡ n = omega arith in
      let at = head_at 0 rows order in
      let moved = rw (← is, none) at at in
      moved

-- taking out the row at the place of the first one that passes takes out that one
removed_first : {Row : Type 0} (q : Row → Bool) (i k : ℕ) (rows : List Row) → position_from q i rows ≡ Some k → (j : ℕ) × (k ≡ i + j) × (remove rows j ≡ without_first q rows)
removed_first q i k [] is = cc
removed_first q i k (x ∷ xs) is = elim (cases_Bool (q x)) [
  | inl mine ↦
      let first : Some i ≡ Some k = rw mine at is in
      let same : i ≡ k = cc in
      (0, omega (arith, same), rw mine refl)
  | inr other ↦
      let later : position_from q (i + 1) xs ≡ Some k = rw other at is in
      let rest = removed_first q (i + 1) k xs later in
      (suc rest.0, omega (arith, rest.1), rw other (ap (λ more. x ∷ more) rest.2))
]

pub first_removed : {Row : Type 0} (q : Row → Bool) (k : ℕ) (rows : List Row) → position_from q 0 rows ≡ Some k → remove rows k ≡ without_first q rows
first_removed q k rows is =
    let rest = removed_first q 0 k rows is in
    let same : k ≡ rest.0 = omega (arith, rest.1) in
    rw same rest.2

pub first_absent : {Row : Type 0} (q : Row → Bool) (rows : List Row) → AllByRecursion (λ y. q y ≡ false) rows → without_first q rows ≡ rows
first_absent q [] all = refl
first_absent q (x ∷ xs) all = rw all.0 (ap (λ rest. x ∷ rest) (first_absent q xs all.1))

all_without : {Row : Type 0} (P : Row → Type 0) (q : Row → Bool) (rows : List Row) → AllByRecursion P rows → AllByRecursion P (without_first q rows)
all_without P q [] all = tt
all_without P q (x ∷ xs) all = cond_both (q x) xs (x ∷ without_first q xs) (AllByRecursion P) (λ _. all.1) (λ _. (all.0, all_without P q xs all.1))

order_without : {Row : Type 0} (R : Row → Row → Type 0) (q : Row → Bool) (rows : List Row) → AllInOrder R rows → AllInOrder R (without_first q rows)
order_without R q [] order = tt
order_without R q (x ∷ xs) order = cond_both (q x) xs (x ∷ without_first q xs) (AllInOrder R) (λ _. order.1) (λ _. (all_without (R x) q xs order.0, order_without R q xs order.1))

module _ {Row : Type 0} (key : Row → Key) where
  pub first_head : (a : ℕ) → HeadBy (IsBefore key) (λ x. nat_lt (key x).first a) (λ x. (key x).first == a)
  first_head a = record {
    before = λ x low. grind (arith, nat_tests);
    later = λ x y rises high other. grind (arith, nat_tests);
  }

  pub pair_head : (a b : ℕ) → HeadBy (IsBefore key) (λ x. nat_lt (key x).first a || (((key x).first == a) && nat_lt (key x).second b)) (λ x. is_pair a b (key x))
  pair_head a b = record {
    before = λ x low. grind (arith, nat_tests);
    later = λ x y rises high other. grind (arith, nat_tests);
  }

  pub without_first_rises : (q : Row → Bool) (rows : List Row) → Rises key rows → Rises key (without_first q rows)
  without_first_rises q rows rises = rises_again key (without_first q rows) (order_without (IsBefore key) q rows (in_order key rows rises))
