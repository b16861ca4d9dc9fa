-- Leaves rise by their last rows, and a key belongs in one of them.
use Rattle.std.proofs.Common.{◌≡◌, ℕ, zero, suc, ◌+◌, ◌<◌, ◌≤◌, true, List, [], ◌∷◌, ◌∙◌, length, take, drop, arith, inl, inr}
use Rattle.std.specs.List.{AllByRecursion, flat_map, prefix_len}
use Rattle.std.proofs.lemmas.Bool.{cases_Bool, cases_lt}
use Rattle.std.proofs.lemmas.List.{drop_all}
use Rattle.rows_sorted.specs.Keys.{Key, key_before, Rises}
use Rattle.rows_sorted.proofs.OrderLemmas.{AllInOrder, IsBefore, in_order, rises_again}
use Rattle.rows_leaves.specs.Laying.{last_key}
use Rattle.rows_leaves.proofs.LastLemmas.{all_front, all_back, all_both, order_front, order_back, all_low, all_high, last_behind, last_before}

module _ {Leaf Row : Type 0} (key : Row → Key) (rows_of : Leaf → List Row) where
  abbrev pub Filled : Leaf → Type 0
  Filled leaf = 0 < length (rows_of leaf)

  abbrev pub leaf_key : Leaf → Key
  leaf_key leaf = last_key key (rows_of leaf)

  later_leaves : (k : Key) (leaves : List Leaf) → AllByRecursion Filled leaves → AllByRecursion (λ z. key_before k (key z) ≡ true) (flat_map rows_of leaves) → AllByRecursion (λ leaf. key_before k (leaf_key leaf) ≡ true) leaves
  later_leaves k [] filled all = tt
  later_leaves k (l ∷ ls) filled all =
      (last_behind key k (rows_of l) filled.0 (all_front _ (rows_of l) (flat_map rows_of ls) all), later_leaves k ls filled.1 (all_back _ (rows_of l) (flat_map rows_of ls) all))

  leaf_order : (leaves : List Leaf) → AllByRecursion Filled leaves → AllInOrder (IsBefore key) (flat_map rows_of leaves) → AllInOrder (IsBefore leaf_key) leaves
  leaf_order [] filled order = tt
  leaf_order (l ∷ ls) filled order =
      (later_leaves (leaf_key l) ls filled.1 (last_before key (rows_of l) (flat_map rows_of ls) order filled.0), leaf_order ls filled.1 (order_back (IsBefore key) (rows_of l) (flat_map rows_of ls) order))

  pub leaves_rise : (leaves : List Leaf) → AllByRecursion Filled leaves → Rises key (flat_map rows_of leaves) → Rises leaf_key leaves
  leaves_rise leaves filled rises = rises_again leaf_key leaves (leaf_order leaves filled (in_order key _ rises))

  -- the rows of the leaves whose last rows stand before a key
  pub low_front : (k : Key) (n : ℕ) (leaves : List Leaf) → AllInOrder (IsBefore key) (flat_map rows_of leaves) → n ≤ prefix_len (λ leaf. key_before (leaf_key leaf) k) leaves
      → AllByRecursion (λ x. key_before (key x) k ≡ true) (flat_map rows_of (take n leaves))
  low_front k zero leaves order le = tt
  low_front k (suc n) [] order le = tt
  low_front k (suc n) (l ∷ ls) order le = elim (cases_Bool (key_before (leaf_key l) k)) [
    | inl low ↦
        let more = rw low at le in
        all_both _ (rows_of l) (flat_map rows_of (take n ls)) (all_low key k (rows_of l) (order_front (IsBefore key) (rows_of l) (flat_map rows_of ls) order) low)
        (low_front k n ls (order_back (IsBefore key) (rows_of l) (flat_map rows_of ls) order) (omega (arith, more)))
    | inr high ↦ let none = rw high at le in absurd (omega (arith, none))
  ]

  -- the rows of the leaves behind the first one whose last row doesn't stand before a key
  pub high_back : (k : Key) (n : ℕ) (leaves : List Leaf) → n < length leaves → AllByRecursion Filled leaves → AllInOrder (IsBefore key) (flat_map rows_of leaves) → n ≡ prefix_len (λ leaf. key_before (leaf_key leaf) k) leaves
      → AllByRecursion (λ z. key_before k (key z) ≡ true) (flat_map rows_of (drop (suc n) leaves))
  high_back k n [] within filled order is = absurd (omega (arith, within))
  high_back k zero (l ∷ ls) within filled order is = elim (cases_Bool (key_before (leaf_key l) k)) [
    | inl low ↦ let one = rw low at is in absurd (omega (arith, one))
    | inr high ↦ all_high key k (rows_of l) (flat_map rows_of ls) order filled.0 high
  ]
  high_back k (suc n) (l ∷ ls) within filled order is = elim (cases_Bool (key_before (leaf_key l) k)) [
    | inl low ↦
        let more = rw low at is in
        high_back k n ls (omega (arith, within)) filled.1 (order_back (IsBefore key) (rows_of l) (flat_map rows_of ls) order) (omega (arith, more))
    | inr high ↦ let none = rw high at is in absurd (omega (arith, none))
  ]

  -- the leaf of a key, from how many leaves have last rows before it
  pub leaf_low : (k : Key) (count place : ℕ) (leaves : List Leaf) → Rises key (flat_map rows_of leaves) → count ≡ prefix_len (λ leaf. key_before (leaf_key leaf) k) leaves → place ≤ count
      → AllByRecursion (λ x. key_before (key x) k ≡ true) (flat_map rows_of (take place leaves))
  leaf_low k count place leaves rises is le = low_front k place leaves (in_order key _ rises) (omega (arith, is, le))

  pub leaf_high : (k : Key) (count place : ℕ) (leaves : List Leaf) → AllByRecursion Filled leaves → Rises key (flat_map rows_of leaves) → count ≡ prefix_len (λ leaf. key_before (leaf_key leaf) k) leaves
      → place < length leaves → (count < length leaves → place ≡ count) → (length leaves ≤ count → place + 1 ≡ length leaves)
      → AllByRecursion (λ z. key_before k (key z) ≡ true) (flat_map rows_of (drop (suc place) leaves))
  leaf_high k count place leaves filled rises is within there last = elim (cases_lt count (length leaves)) [
    | inl inside ↦ let same = there inside in high_back k place leaves within filled (in_order key _ rises) (same ∙ is)
    | inr behind ↦ let end = last behind in let none : drop (suc place) leaves ≡ [] = drop_all (suc place) leaves (omega (arith, end)) in rw none tt
  ]
