-- How many rows the leaves have, one by one and taken together.
use Rattle.std.proofs.Common.{◌≡◌, ℕ, zero, suc, ◌+◌, ◌^◌, ◌<◌, ◌≤◌, List, [], ◌∷◌, ◌++◌, Some, map, length, length-append, take, drop, set, get_or, slice_get, refl, sym, ap, ◌∙◌, arith}
use Rattle.std.specs.Prelude.{remove}
use Rattle.std.specs.List.{flat_map, insert, sum}
use Rattle.std.proofs.lemmas.List.{drop-map, length-map, get_or-append-add, get_or_append_left, map-append, map-set, take-map}
use Rattle.std.proofs.lemmas.List.Sums.{sum_by-cons}
use Rattle.std.proofs.lemmas.Option.{slice_get-get_or}
use Rattle.rows_leaves.specs.Invariant.{leaf_rows, row_count}
use Rattle.rows_leaves.specs.declared.leaf.Leaf.{Leaf}
use Rattle.rows_leaves.proofs.CountLemmas.{joined_length}
use Rattle.rows_leaves.proofs.JoinLemmas.{joined_at}
use Rattle.rows_leaves.proofs.PlaceLemmas.{place_bounded}

module _ {Row : Type 0} where
  pub lengths_sum : (leaves : List (Leaf Row)) → sum (map row_count leaves) ≡ length (flat_map leaf_rows leaves)
  lengths_sum [] = refl
  lengths_sum (leaf ∷ leaves) = omega (arith, sum_by-cons (λ n. n) (row_count leaf) (map row_count leaves), lengths_sum leaves, length-append (leaf_rows leaf) (flat_map leaf_rows leaves))

  -- the rows of so many first leaves
  pub lengths_before : (numbers : List ℕ) (leaves : List (Leaf Row)) (n : ℕ) → numbers ≡ map row_count leaves → sum (take n numbers) ≡ length (flat_map leaf_rows (take n leaves))
  lengths_before numbers leaves n is = ap (λ ms. sum (take n ms)) is ∙ ap (λ ms. sum ms) (take-map row_count n leaves) ∙ lengths_sum (take n leaves)

  -- the counts fit together where the rows do
  pub lengths_fit : (numbers : List ℕ) (leaves : List (Leaf Row)) → numbers ≡ map row_count leaves → length (flat_map leaf_rows leaves) < 2 ^ 64 → sum numbers < 2 ^ 64
  lengths_fit numbers leaves is fits = rw is (omega (arith, lengths_sum leaves, fits))

  pub lengths_within : (numbers : List ℕ) (leaves : List (Leaf Row)) → numbers ≡ map row_count leaves → length numbers ≡ length leaves
  lengths_within numbers leaves is = ap length is ∙ length-map leaves row_count

  module _ (numbers : List ℕ) (leaves : List (Leaf Row)) (n count : ℕ) (new : Leaf Row) (is : numbers ≡ map row_count leaves) (same : count ≡ row_count new) where
    pub lengths_set : set numbers n count ≡ map row_count (set leaves n new)
    lengths_set = rw (is, same) (sym (map-set row_count leaves n new))

    pub lengths_insert : insert numbers n count ≡ map row_count (insert leaves n new)
    lengths_insert = rw (is, same, take-map row_count n leaves, drop-map row_count n leaves) (sym (map-append row_count (take n leaves) (new ∷ drop n leaves)))

  pub lengths_remove : (numbers : List ℕ) (leaves : List (Leaf Row)) (n : ℕ) → numbers ≡ map row_count leaves → remove numbers n ≡ map row_count (remove leaves n)
  lengths_remove numbers leaves n is = rw (is, take-map row_count n leaves, drop-map row_count (suc n) leaves) (sym (map-append row_count (take n leaves) (drop (suc n) leaves)))

  -- fewer rows in one leaf fit too
  pub fewer_fit : (leaves : List (Leaf Row)) (n : ℕ) (old new : Leaf Row) → n < length leaves → old ≡ get_or leaves n old → row_count new ≤ row_count old
      → length (flat_map leaf_rows leaves) < 2 ^ 64 → length (flat_map leaf_rows (set leaves n new)) < 2 ^ 64
  fewer_fit leaves n old new within is fewer fits = omega (arith, joined_length leaf_rows leaves n old new within is, fewer, fits)

  read_length : (leaves : List (Leaf Row)) (n : ℕ) (leaf : Leaf Row) → n < length leaves → get_or (map row_count leaves) n 0 ≡ row_count (get_or leaves n leaf)
  read_length [] n leaf within = absurd (omega (arith, within))
  read_length (x ∷ leaves) zero leaf within = refl
  read_length (x ∷ leaves) (suc n) leaf within = read_length leaves n leaf (omega (arith, within))

  -- the count beside a leaf
  pub length_at : (numbers : List ℕ) (leaves : List (Leaf Row)) (n : ℕ) (leaf : Leaf Row) → numbers ≡ map row_count leaves → n < length leaves → leaf ≡ get_or leaves n leaf → get_or numbers n 0 ≡ row_count leaf
  length_at numbers leaves n leaf is within leaf_is = ap (λ ms. get_or ms n 0) is ∙ read_length leaves n leaf within ∙ ap row_count (sym leaf_is)

  -- the row at a place in a leaf stands as many further on as the leaves before have rows
  pub row_at_place : (leaves : List (Leaf Row)) (n rest : ℕ) (leaf : Leaf Row) (row : Row) → n < length leaves → leaf ≡ get_or leaves n leaf → rest < row_count leaf → row ≡ get_or (leaf_rows leaf) rest row
      → slice_get (flat_map leaf_rows leaves) (length (flat_map leaf_rows (take n leaves)) + rest) ≡ Some row
  row_at_place leaves n rest leaf row within is inner row_is =
      let front = flat_map leaf_rows (take n leaves) in
      let back = flat_map leaf_rows (drop (n + 1) leaves) in
      slice_get-get_or (flat_map leaf_rows leaves) (length front + rest) row (place_bounded leaf_rows leaves n leaf within is rest inner)
      ∙ ap (λ rows. Some (get_or rows (length front + rest) row)) (joined_at leaf_rows leaves n leaf within is)
      ∙ ap (λ one. Some one) (get_or-append-add front (leaf_rows leaf ++ back) rest row ∙ get_or_append_left (leaf_rows leaf) back row rest inner ∙ sym row_is)
