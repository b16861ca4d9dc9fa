-- The numbers that a leaf has beside its rows are those of its last row, so that the leaves rise by them too.
use Rattle.std.proofs.Common.{◌≡◌, Bool, List, [], ◌∷◌, map, refl, sym, ap, ◌∙◌}
use Rattle.std.specs.List.{AllByRecursion, flat_map, prefix_len}
use Rattle.rows_sorted.specs.Orders.{rises_by}
use Rattle.rows_sorted.specs.Keys.{Key, key_before, Rises}
use Rattle.rows_leaves.specs.Laying.{last_key}
use Rattle.rows_leaves.specs.Invariant.{leaf_rows, HasRows, IsNumbered}
use Rattle.rows_leaves.specs.declared.leaf.Leaf.{Leaf}
use Rattle.rows_leaves.specs.declared.leaf.Numbers.{Numbers}
use Rattle.rows_leaves.proofs.ChangeLemmas.{by_keys}
use Rattle.rows_leaves.proofs.LeafLemmas.{leaves_rise}

module _ {Row : Type 0} (key : Row → Key) where
  pub last_same : (rows others : List Row) → map key rows ≡ map key others → last_key key rows ≡ last_key key others
  last_same [] [] same = refl
  last_same [] (y ∷ ys) same = cc
  last_same (x ∷ xs) [] same = cc
  last_same (x ∷ []) (y ∷ []) same = cc
  last_same (x ∷ []) (y ∷ z ∷ ys) same = cc
  last_same (x ∷ w ∷ xs) (y ∷ []) same = cc
  last_same (x ∷ w ∷ xs) (y ∷ z ∷ ys) same =
      let later : map key (w ∷ xs) ≡ map key (z ∷ ys) = cc in
      last_same (w ∷ xs) (z ∷ ys) later

  -- a leaf's key by the numbers that it has, and by its last row
  abbrev pub by_numbers : Leaf Row → Key
  by_numbers leaf = record { first = leaf.last.first; second = leaf.last.second; text = (last_key key leaf.rows.items).text }

  abbrev pub by_last : Leaf Row → Key
  by_last leaf = last_key key (leaf_rows leaf)

  same_key : (leaf : Leaf Row) → IsNumbered key leaf → by_numbers leaf ≡ by_last leaf
  same_key leaf is = ap (λ (n : Numbers). record { first = n.first; second = n.second; text = (last_key key leaf.rows.items).text }) is

  same_keys : (leaves : List (Leaf Row)) → AllByRecursion (IsNumbered key) leaves → map by_numbers leaves ≡ map by_last leaves
  same_keys [] all = refl
  same_keys (leaf ∷ leaves) all = rw (same_key leaf all.0) (ap (λ rest. by_last leaf ∷ rest) (same_keys leaves all.1))

  counted : {X : Type 0} (p : Key → Bool) (k : X → Key) (xs : List X) → prefix_len (λ x. p (k x)) xs ≡ prefix_len p (map k xs)
  counted p k [] = refl
  counted p k (x ∷ xs) = rw (counted p k xs) refl

  -- leaves rise by the numbers that they have
  pub numbers_rise : (leaves : List (Leaf Row)) → AllByRecursion HasRows leaves → AllByRecursion (IsNumbered key) leaves → Rises key (flat_map leaf_rows leaves) → Rises by_numbers leaves
  numbers_rise leaves filled all rises =
      by_keys by_numbers leaves ∙ ap (rises_by key_before) (same_keys leaves all) ∙ sym (by_keys by_last leaves) ∙ leaves_rise key leaf_rows leaves filled rises

  -- as many leaves pass by the numbers that they have as by their last rows
  pub count_same : (p : Key → Bool) (leaves : List (Leaf Row)) → AllByRecursion (IsNumbered key) leaves → prefix_len (λ leaf. p (by_numbers leaf)) leaves ≡ prefix_len (λ leaf. p (by_last leaf)) leaves
  count_same p leaves all = counted p by_numbers leaves ∙ ap (prefix_len p) (same_keys leaves all) ∙ sym (counted p by_last leaves)
