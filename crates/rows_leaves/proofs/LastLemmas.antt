-- The last of rows in order, and lists of rows in parts.
use Rattle.std.proofs.Common.{◌≡◌, suc, ◌-◌, ◌<◌, true, false, List, [], ◌∷◌, ◌++◌, Some, length, slice_get, arith}
use Rattle.std.specs.List.{AllByRecursion}
use Rattle.rows_sorted.specs.Keys.{Key, key_before}
use Rattle.rows_sorted.proofs.OrderLemmas.{AllInOrder, IsBefore, all_from_all, before_joins}
use Rattle.rows_sorted.proofs.PartLemmas.{parted_by_key}
use Rattle.rows_leaves.specs.Laying.{last_key}

module _ {Row : Type 0} where
  pub all_front : (P : Row → Type 0) (xs ys : List Row) → AllByRecursion P (xs ++ ys) → AllByRecursion P xs
  all_front P [] ys all = tt
  all_front P (x ∷ xs) ys all = (all.0, all_front P xs ys all.1)

  pub all_back : (P : Row → Type 0) (xs ys : List Row) → AllByRecursion P (xs ++ ys) → AllByRecursion P ys
  all_back P [] ys all = all
  all_back P (x ∷ xs) ys all = all_back P xs ys all.1

  pub all_both : (P : Row → Type 0) (xs ys : List Row) → AllByRecursion P xs → AllByRecursion P ys → AllByRecursion P (xs ++ ys)
  all_both P [] ys all also = also
  all_both P (x ∷ xs) ys all also = (all.0, all_both P xs ys all.1 also)

  module _ (R : Row → Row → Type 0) where
    pub order_front : (xs ys : List Row) → AllInOrder R (xs ++ ys) → AllInOrder R xs
    order_front [] ys order = tt
    order_front (x ∷ xs) ys order = (all_front (R x) xs ys order.0, order_front xs ys order.1)

    pub order_back : (xs ys : List Row) → AllInOrder R (xs ++ ys) → AllInOrder R ys
    order_back [] ys order = order
    order_back (x ∷ xs) ys order = order_back xs ys order.1

  module _ (key : Row → Key) where
    pub last_is : (rows : List Row) (row : Row) → Some row ≡ slice_get rows (length rows - 1) → last_key key rows ≡ key row
    last_is [] row is = cc
    last_is (x ∷ []) row is = cc
    last_is (x ∷ y ∷ rows) row is =
        let less : suc (suc (length rows)) - 1 ≡ suc (length rows) = omega arith in
        let back : suc (length rows) - 1 ≡ length rows = omega arith in
        last_is (y ∷ rows) row (rw back (rw less at is))

    -- the rows before one that stands before a key stand before the key
    pub all_low : (k : Key) (rows : List Row) → AllInOrder (IsBefore key) rows → key_before (last_key key rows) k ≡ true → AllByRecursion (λ x. key_before (key x) k ≡ true) rows
    all_low k [] order low = tt
    all_low k (x ∷ []) order low = (low, tt)
    all_low k (x ∷ y ∷ rows) order low =
        let rest = all_low k (y ∷ rows) order.1 low in
        (before_joins (key x) (key y) k order.0.0 rest.0, rest)

    -- what stands behind a row that doesn't stand before a key stands behind the key
    pub all_high : (k : Key) (rows later : List Row) → AllInOrder (IsBefore key) (rows ++ later) → 0 < length rows → key_before (last_key key rows) k ≡ false → AllByRecursion (λ z. key_before k (key z) ≡ true) later
    all_high k [] later order filled high = absurd (omega (arith, filled))
    all_high k (x ∷ []) later order filled high = all_from_all (IsBefore key x) (λ z. key_before k (key z) ≡ true) (λ z before. (parted_by_key key k).later_behind x z before high) later order.0
    all_high k (x ∷ y ∷ rows) later order filled high = all_high k (y ∷ rows) later order.1 (omega arith) high

    -- the last row is one of those that stand behind a key
    pub last_behind : (k : Key) (rows : List Row) → 0 < length rows → AllByRecursion (λ z. key_before k (key z) ≡ true) rows → key_before k (last_key key rows) ≡ true
    last_behind k [] filled all = absurd (omega (arith, filled))
    last_behind k (x ∷ []) filled all = all.0
    last_behind k (x ∷ y ∷ rows) filled all = last_behind k (y ∷ rows) (omega arith) all.1

    -- the last row stands before those behind it
    pub last_before : (rows later : List Row) → AllInOrder (IsBefore key) (rows ++ later) → 0 < length rows → AllByRecursion (λ z. key_before (last_key key rows) (key z) ≡ true) later
    last_before [] later order filled = absurd (omega (arith, filled))
    last_before (x ∷ []) later order filled = order.0
    last_before (x ∷ y ∷ rows) later order filled = last_before (y ∷ rows) later order.1 (omega arith)
