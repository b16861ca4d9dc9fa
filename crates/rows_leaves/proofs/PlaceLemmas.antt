-- The place of a row in its leaf and among all rows.
use Rattle.std.proofs.Common.{◌≡◌, ℕ, ◌+◌, ◌<◌, Bool, false, List, [], ◌∷◌, ◌++◌, Option, Some, None, drop, take, get_or, length, length-append, refl, ap, ◌∙◌, arith, inl, inr}
use Rattle.std.specs.List.{AllByRecursion, flat_map, position_from}
use Rattle.std.proofs.lemmas.Bool.{cases_Bool}
use Rattle.rows_sorted.specs.Keys.{Key, is_key}
use Rattle.rows_leaves.proofs.PartLemmas.{High, Low, high_apart, low_apart}
use Rattle.rows_leaves.proofs.JoinLemmas.{joined_at}

-- a place so many further on
abbrev pub further : ℕ → Option ℕ → Option ℕ
further n None = None
further n (Some place) = Some (n + place)

module _ {Row : Type 0} (q : Row → Bool) where
  position_past : (i : ℕ) (xs ys : List Row) → AllByRecursion (λ x. q x ≡ false) xs → position_from q i (xs ++ ys) ≡ position_from q (i + length xs) ys
  position_past i [] ys all = ap (λ j. position_from q j ys) (omega arith)
  position_past i (x ∷ xs) ys all =
      let same : i + 1 + length xs ≡ i + length (x ∷ xs) = omega arith in
      rw all.0 (position_past (i + 1) xs ys all.1 ∙ ap (λ j. position_from q j ys) same)

  position_none : (i : ℕ) (zs : List Row) → AllByRecursion (λ z. q z ≡ false) zs → position_from q i zs ≡ None
  position_none i [] all = refl
  position_none i (z ∷ zs) all = rw all.0 (position_none (i + 1) zs all.1)

  position_ahead : (i : ℕ) (ys zs : List Row) → AllByRecursion (λ z. q z ≡ false) zs → position_from q i (ys ++ zs) ≡ position_from q i ys
  position_ahead i [] zs all = position_none i zs all
  position_ahead i (y ∷ ys) zs all = elim (cases_Bool (q y)) [
    | inl mine ↦ rw mine refl
    | inr other ↦ rw other (position_ahead (i + 1) ys zs all)
  ]

  position_further : (n i : ℕ) (ys : List Row) → position_from q (n + i) ys ≡ further n (position_from q i ys)
  position_further n i [] = refl
  position_further n i (y ∷ ys) = elim (cases_Bool (q y)) [
    | inl mine ↦ rw mine refl
    | inr other ↦
        let same : n + i + 1 ≡ n + (i + 1) = omega arith in
        rw (other, same) (position_further n (i + 1) ys)
  ]

  -- a place between rows that don't pass is as many further on as rows stand before
  pub position_between : (xs ys zs : List Row) → AllByRecursion (λ x. q x ≡ false) xs → AllByRecursion (λ z. q z ≡ false) zs
      → position_from q 0 (xs ++ (ys ++ zs)) ≡ further (length xs) (position_from q 0 ys)
  position_between xs ys zs low high =
      let same : 0 + length xs ≡ length xs + 0 = omega arith in
      position_past 0 xs (ys ++ zs) low ∙ position_ahead (0 + length xs) ys zs high ∙ ap (λ j. position_from q j ys) same ∙ position_further (length xs) 0 ys

module _ {Leaf Row : Type 0} (key : Row → Key) (rows_of : Leaf → List Row) (k : Key) (leaves : List Leaf) (n : ℕ) (leaf : Leaf) (within : n < length leaves) (is : leaf ≡ get_or leaves n leaf)
    (low : Low key k (flat_map rows_of (take n leaves))) (high : High key k (flat_map rows_of (drop (n + 1) leaves))) where
  pub place_in_leaf : position_from (λ row. is_key (key row) k) 0 (flat_map rows_of leaves)
      ≡ further (length (flat_map rows_of (take n leaves))) (position_from (λ row. is_key (key row) k) 0 (rows_of leaf))
  place_in_leaf =
      ap (position_from (λ row. is_key (key row) k) 0) (joined_at rows_of leaves n leaf within is)
      ∙ position_between (λ row. is_key (key row) k) (flat_map rows_of (take n leaves)) (rows_of leaf) (flat_map rows_of (drop (n + 1) leaves)) (low_apart key k _ low) (high_apart key k _ high)

module _ {Leaf Row : Type 0} (rows_of : Leaf → List Row) (leaves : List Leaf) (n : ℕ) (leaf : Leaf) (within : n < length leaves) (is : leaf ≡ get_or leaves n leaf) where
  -- a place in a leaf is one among all rows
  pub place_bounded : (place : ℕ) → place < length (rows_of leaf) → length (flat_map rows_of (take n leaves)) + place < length (flat_map rows_of leaves)
  place_bounded place inner =
      let all = ap length (joined_at rows_of leaves n leaf within is) in
      let parts = length-append (flat_map rows_of (take n leaves)) (rows_of leaf ++ flat_map rows_of (drop (n + 1) leaves)) in
      let behind = length-append (rows_of leaf) (flat_map rows_of (drop (n + 1) leaves)) in
      omega (arith, all, parts, behind, inner)
