-- Rows split in two: what moves behind, and in which of both parts a row belongs.
use Rattle.std.proofs.Common.{◌≡◌, ◌<◌, Bool, true, false, List, [], ◌∷◌, ◌++◌, length, reverse, sym, ap, ◌∙◌, refl, arith, inl, inr, append_assoc}
use Rattle.std.specs.List.{AllByRecursion, prefix_len}
use Rattle.std.proofs.lemmas.Bool.{cases_Bool}
use Rattle.std.proofs.lemmas.List.{append-nil, reverse-append}
use Rattle.rows_sorted.specs.Orders.{put}
use Rattle.rows_sorted.specs.Keys.{Key, key_before, Rises}
use Rattle.rows_sorted.proofs.OrderLemmas.{IsBefore, in_order, rises_again}
use Rattle.rows_leaves.specs.Laying.{last_key}
use Rattle.rows_leaves.proofs.LastLemmas.{all_low, all_high, order_front, order_back}
use Rattle.rows_leaves.proofs.PartLemmas.{put_between}

module _ {Row : Type 0} where
  -- one more row moves from the end of the first part to that of the second, which is turned round later
  pub moved_more : (rows less behind all : List Row) (x : Row) → rows ++ reverse behind ≡ all → rows ≡ less ++ x ∷ [] → less ++ reverse (behind ++ x ∷ []) ≡ all
  moved_more rows less behind all x so_far is =
      rw (reverse-append behind (x ∷ [])) (sym (append_assoc less (x ∷ []) (reverse behind)) ∙ ap (λ front. front ++ reverse behind) (sym is) ∙ so_far)

  pub all_in_front : (p : Row → Bool) (rows : List Row) → prefix_len p rows ≡ length rows → AllByRecursion (λ x. p x ≡ true) rows
  all_in_front p [] same = tt
  all_in_front p (x ∷ xs) same = elim (cases_Bool (p x)) [
    | inl passes ↦ let more = rw passes at same in (passes, all_in_front p xs (omega (arith, more)))
    | inr fails ↦ let none = rw fails at same in absurd (omega (arith, none))
  ]

  front_of_all : (p : Row → Bool) (rows : List Row) → AllByRecursion (λ x. p x ≡ true) rows → prefix_len p rows ≡ length rows
  front_of_all p [] all = refl
  front_of_all p (x ∷ xs) all = rw all.0 (omega (arith, front_of_all p xs all.1))

  module _ (key : Row → Key) where
    pub last_not_low : (k : Key) (rows : List Row) → Rises key rows → (prefix_len (λ x. key_before (key x) k) rows ≡ length rows → ⊥) → key_before (last_key key rows) k ≡ false
    last_not_low k rows rises other = elim (cases_Bool (key_before (last_key key rows) k)) [
      | inl low ↦ absurd (other (front_of_all (λ x. key_before (key x) k) rows (all_low key k rows (in_order key rows rises) low)))
      | inr high ↦ high
    ]

    pub front_rises : (xs ys : List Row) → Rises key (xs ++ ys) → Rises key xs
    front_rises xs ys rises = rises_again key xs (order_front (IsBefore key) xs ys (in_order key _ rises))

    pub back_rises : (xs ys : List Row) → Rises key (xs ++ ys) → Rises key ys
    back_rises xs ys rises = rises_again key ys (order_back (IsBefore key) xs ys (in_order key _ rises))

    -- a row behind all of the first part is put into the second one
    pub put_behind : (row : Row) (xs ys : List Row) → AllByRecursion (λ x. key_before (key x) (key row) ≡ true) xs
        → xs ++ put (λ x y. key_before (key x) (key y)) row ys ≡ put (λ x y. key_before (key x) (key y)) row (xs ++ ys)
    put_behind row xs ys low =
        let all = put_between key row xs ys [] low tt in
        sym (rw (append-nil ys, append-nil (put (λ x y. key_before (key x) (key y)) row ys)) at all)

    -- any other row is put into the first one
    pub put_ahead : (row : Row) (xs ys : List Row) → Rises key (xs ++ ys) → 0 < length xs → key_before (last_key key xs) (key row) ≡ false
        → put (λ x y. key_before (key x) (key y)) row xs ++ ys ≡ put (λ x y. key_before (key x) (key y)) row (xs ++ ys)
    put_ahead row xs ys rises some high = sym (put_between key row [] xs ys tt (all_high key (key row) xs ys (in_order key _ rises) some high))
