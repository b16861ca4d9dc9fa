-- The first row behind a key, among rows that rise and in leaves.
use Rattle.std.proofs.Common.{◌≡◌, ℕ, ◌+◌, ◌<◌, suc, Bool, true, List, [], ◌∷◌, ◌++◌, Option, Some, None, drop, take, get_or, length, slice_get, refl, ap, ◌∙◌, arith, inl, inr}
use Rattle.std.specs.Prelude.{if◌then◌else◌}
use Rattle.std.specs.List.{AllByRecursion, find, flat_map, prefix_len}
use Rattle.std.proofs.lemmas.Bool.{cases_Bool}
use Rattle.rows_sorted.specs.Keys.{Key, is_key, key_before}
use Rattle.rows_sorted.proofs.OrderLemmas.{AllInOrder, IsBefore, all_from_all}
use Rattle.rows_sorted.proofs.PartLemmas.{parted_by_key}
use Rattle.rows_leaves.proofs.PartLemmas.{find_past, low_not_behind, High, Low}
use Rattle.rows_leaves.proofs.JoinLemmas.{joined_at}

-- where all rows pass, the first one is found
pub find_all : {Row : Type 0} (b : Row → Bool) (rows : List Row) → AllByRecursion (λ x. b x ≡ true) rows → find b rows ≡ slice_get rows 0
find_all b [] all = refl
find_all b (x ∷ xs) all = rw all.0 refl

-- the one that stands where the key would stand, or the next one if that has the key
abbrev pub next_of : {Row : Type 0} → (Row → Bool) → List Row → ℕ → Option Row → Option Row
next_of q rows n None = None
next_of q rows n (Some x) = if q x then slice_get rows (n + 1) else Some x

module _ {Row : Type 0} (key : Row → Key) (k : Key) where
  abbrev low : Row → Bool
  low x = key_before (key x) k

  abbrev pub mine : Row → Bool
  mine x = is_key (key x) k

  abbrev pub behind : Row → Bool
  behind x = key_before k (key x)

  pub behind_is : (rows : List Row) → AllInOrder (IsBefore key) rows → find behind rows ≡ next_of mine rows (prefix_len low rows) (slice_get rows (prefix_len low rows))
  behind_is [] order = refl
  behind_is (x ∷ xs) order = elim (cases_Bool (low x)) [
    | inl before ↦
        let one : 1 + prefix_len low xs ≡ suc (prefix_len low xs) = omega arith in
        rw (before, one, (parted_by_key key k).low_not_behind x before) (behind_is xs order.1 ∙ shifted (slice_get xs (prefix_len low xs)))
    | inr above ↦ elim (cases_Bool (mine x)) [
      | inl own ↦
          let later = all_from_all (IsBefore key x) (λ y. behind y ≡ true) (λ y rises. (parted_by_key key k).later_behind x y rises above) xs order.0 in
          rw (above, own, (parted_by_key key k).mine_not_behind x own) (find_all behind xs later)
      | inr other ↦ rw (above, other, (parted_by_key key k).neither x above other) refl
    ]
  ]
    where
      shifted : (at : Option Row) → next_of mine xs (prefix_len low xs) at ≡ next_of mine (x ∷ xs) (suc (prefix_len low xs)) at
      shifted None = refl
      shifted (Some y) = let one : suc (prefix_len low xs) + 1 ≡ suc (prefix_len low xs + 1) = omega arith in rw one refl

-- what is found first in a part, or else behind it
pub find_joined : {Row : Type 0} (b : Row → Bool) (ys zs : List Row) (r : Row) → find b ys ≡ Some r → find b (ys ++ zs) ≡ Some r
find_joined b [] zs r is = cc
find_joined b (y ∷ ys) zs r is = elim (cases_Bool (b y)) [
  | inl passes ↦ rw passes (rw passes at is)
  | inr fails ↦ rw fails (find_joined b ys zs r (rw fails at is))
]

pub find_later : {Row : Type 0} (b : Row → Bool) (ys zs : List Row) → find b ys ≡ None → find b (ys ++ zs) ≡ find b zs
find_later b [] zs is = refl
find_later b (y ∷ ys) zs is = elim (cases_Bool (b y)) [
  | inl passes ↦ let wrong : Some y ≡ None = rw passes at is in cc
  | inr fails ↦ rw fails (find_later b ys zs (rw fails at is))
]

module _ {Leaf Row : Type 0} (key : Row → Key) (rows_of : Leaf → List Row) (k : Key) (leaves : List Leaf) (n : ℕ) (leaf : Leaf) (within : n < length leaves) (is : leaf ≡ get_or leaves n leaf)
    (low : Low key k (flat_map rows_of (take n leaves))) (high : High key k (flat_map rows_of (drop (n + 1) leaves))) where
  past : find (behind key k) (flat_map rows_of leaves) ≡ find (behind key k) (rows_of leaf ++ flat_map rows_of (drop (n + 1) leaves))
  past =
      ap (find (behind key k)) (joined_at rows_of leaves n leaf within is)
      ∙ find_past (behind key k) (flat_map rows_of (take n leaves)) (rows_of leaf ++ flat_map rows_of (drop (n + 1) leaves)) (low_not_behind key k (flat_map rows_of (take n leaves)) low)

  -- a row of the key's own leaf is found, if one is behind the key
  pub behind_in_leaf : (row : Row) → find (behind key k) (rows_of leaf) ≡ Some row → find (behind key k) (flat_map rows_of leaves) ≡ Some row
  behind_in_leaf row found = past ∙ find_joined (behind key k) (rows_of leaf) (flat_map rows_of (drop (n + 1) leaves)) row found

  -- and else the first one of the later leaves
  pub behind_in_next : find (behind key k) (rows_of leaf) ≡ None → find (behind key k) (flat_map rows_of leaves) ≡ slice_get (flat_map rows_of (drop (n + 1) leaves)) 0
  behind_in_next none =
      past ∙ find_later (behind key k) (rows_of leaf) (flat_map rows_of (drop (n + 1) leaves)) none ∙ find_all (behind key k) (flat_map rows_of (drop (n + 1) leaves)) high
