-- The first row of a share stands in the first leaf whose last row doesn't stand before them.
use Rattle.std.proofs.Common.{◌≡◌, ℕ, zero, suc, ◌+◌, ◌<◌, ◌≤◌, Bool, true, false, List, [], ◌∷◌, ◌++◌, Bor, Option, Some, None, length, slice_get, get_or, take, drop, refl, sym, ap, ◌∙◌, add-one, append_assoc, arith, inl, inr}
use Rattle.std.specs.Prelude.{is_some, not, option_copied}
use Rattle.std.specs.List.{AllByRecursion, filter, find, flat_map, list_any, prefix_len}
use Rattle.std.proofs.lemmas.Bool.{cases_Bool}
use Rattle.rows_sorted.specs.Keys.{Key, Rises}
use Rattle.rows_sorted.proofs.OrderLemmas.{AllInOrder, IsBefore, all_from_all, in_order}
use Rattle.rows_sorted.proofs.HeadLemmas.{first_absent}
use Rattle.rows_sorted.specs.Runs.{without_first}
use Rattle.rows_leaves.specs.Laying.{last_key}
use Rattle.rows_leaves.proofs.LastLemmas.{order_front, order_back}
use Rattle.rows_leaves.specs.Shares.{is_ahead, is_in}
use Rattle.rows_leaves.specs.declared.share.Share.{Share}
use Rattle.rows_leaves.proofs.PartLemmas.{find_none, find_past}
use Rattle.rows_leaves.proofs.ShareLemmas.{share_parts, all_up_to_last, mine, ahead, ahead_apart, later_apart}

-- a row passes just where one is found
pub any_found : {Row : Type 0} (q : Row → Bool) (rows : List Row) → list_any q rows ≡ is_some (find q rows)
any_found q [] = refl
any_found q (x ∷ xs) = elim (cases_Bool (q x)) [
  | inl mine ↦ rw mine refl
  | inr other ↦ rw other (any_found q xs)
]

pub same_some : {X : Type 0} (found : Option (Bor X)) → is_some found ≡ is_some (option_copied found)
same_some None = refl
same_some (Some row) = refl

pub none_of : {X : Type 0} (found : Option X) → is_some found ≡ false → found ≡ None
none_of None is = refl
none_of (Some x) wrong = cc

module _ {Row : Type 0} (key : Row → Key) (share : Share) where
  -- no row is one of them in a leaf whose last row stands before them
  pub lower_apart : (rows : List Row) → AllInOrder (IsBefore key) rows → is_ahead share (last_key key rows) ≡ true → AllByRecursion (λ x. mine key share x ≡ false) rows
  lower_apart rows order low = all_from_all (λ x. ahead key share x ≡ true) (λ x. mine key share x ≡ false) (ahead_apart key share) rows (all_up_to_last key (is_ahead share) (share_parts key share).lower rows order low)

  -- behind a leaf whose last row doesn't stand before them the first of them doesn't stand
  find_head : (rows later : List Row) → AllInOrder (IsBefore key) (rows ++ later) → 0 < length rows → is_ahead share (last_key key rows) ≡ false → find (mine key share) (rows ++ later) ≡ find (mine key share) rows
  find_head [] later order some high = absurd (omega (arith, some))
  find_head (x ∷ []) later order some high = elim (cases_Bool (mine key share x)) [
    | inl is ↦ rw is refl
    | inr other ↦ rw other (find_none (mine key share) later (all_from_all (IsBefore key x) (λ z. mine key share z ≡ false) (λ z before. later_apart key share x z before high other) later order.0))
  ]
  find_head (x ∷ y ∷ rows) later order some high = elim (cases_Bool (mine key share x)) [
    | inl is ↦ rw is refl
    | inr other ↦ rw other (find_head (y ∷ rows) later order.1 (omega arith) high)
  ]

  module _ {Leaf : Type 0} (rows_of : Leaf → List Row) where
    abbrev pub is_lower : Leaf → Bool
    is_lower leaf = is_ahead share (last_key key (rows_of leaf))

    found_at : (n : ℕ) (leaves : List Leaf) (leaf : Leaf) → AllByRecursion (λ leaf. 0 < length (rows_of leaf)) leaves → AllInOrder (IsBefore key) (flat_map rows_of leaves)
        → n < length leaves → leaf ≡ get_or leaves n leaf → n ≡ prefix_len is_lower leaves → find (mine key share) (flat_map rows_of leaves) ≡ find (mine key share) (rows_of leaf)
    found_at n [] leaf filled order within is count = absurd (omega (arith, within))
    found_at zero (l ∷ ls) leaf filled order within is count = elim (cases_Bool (is_lower l)) [
      | inl low ↦ let one = rw low at count in absurd (omega (arith, one))
      | inr high ↦ find_head (rows_of l) (flat_map rows_of ls) order filled.0 high ∙ ap (λ one. find (mine key share) (rows_of one)) (sym is)
    ]
    found_at (suc n) (l ∷ ls) leaf filled order within is count = elim (cases_Bool (is_lower l)) [
      | inl low ↦
          let more = rw low at count in
          find_past (mine key share) (rows_of l) (flat_map rows_of ls) (lower_apart (rows_of l) (order_front (IsBefore key) (rows_of l) (flat_map rows_of ls) order) low)
          ∙ found_at n ls leaf filled.1 (order_back (IsBefore key) (rows_of l) (flat_map rows_of ls) order) (omega (arith, within)) is (omega (arith, more))
      | inr high ↦ let none = rw high at count in absurd (omega (arith, none))
    ]

    found_none : (leaves : List Leaf) → AllInOrder (IsBefore key) (flat_map rows_of leaves) → length leaves ≡ prefix_len is_lower leaves → find (mine key share) (flat_map rows_of leaves) ≡ None
    found_none [] order count = refl
    found_none (l ∷ ls) order count = elim (cases_Bool (is_lower l)) [
      | inl low ↦
          let more = rw low at count in
          find_past (mine key share) (rows_of l) (flat_map rows_of ls) (lower_apart (rows_of l) (order_front (IsBefore key) (rows_of l) (flat_map rows_of ls) order) low)
          ∙ found_none ls (order_back (IsBefore key) (rows_of l) (flat_map rows_of ls) order) (omega (arith, more))
      | inr high ↦ let none = rw high at count in absurd (omega (arith, none))
    ]

    pub first_in_leaf : (n : ℕ) (leaves : List Leaf) (leaf : Leaf) → AllByRecursion (λ leaf. 0 < length (rows_of leaf)) leaves → Rises key (flat_map rows_of leaves)
        → n < length leaves → leaf ≡ get_or leaves n leaf → n ≡ prefix_len is_lower leaves → find (λ row. is_in share (key row)) (flat_map rows_of leaves) ≡ find (λ row. is_in share (key row)) (rows_of leaf)
    first_in_leaf n leaves leaf filled rises within is count = found_at n leaves leaf filled (in_order key _ rises) within is count

    pub first_in_none : (n : ℕ) (leaves : List Leaf) → Rises key (flat_map rows_of leaves) → n ≡ length leaves → n ≡ prefix_len is_lower leaves → find (λ row. is_in share (key row)) (flat_map rows_of leaves) ≡ None
    first_in_none n leaves rises all count = found_none leaves (in_order key _ rises) (sym all ∙ count)

-- where none is found, none goes
pub none_goes : {Row : Type 0} (q : Row → Bool) (rows : List Row) → find q rows ≡ None → without_first q rows ≡ rows
none_goes q [] none = refl
none_goes q (x ∷ xs) none = elim (cases_Bool (q x)) [
  | inl is ↦ let wrong : Some x ≡ None = rw is at none in cc
  | inr other ↦ let later : find q xs ≡ None = rw other at none in rw other (ap (λ rest. x ∷ rest) (none_goes q xs later))
]

without_past : {Row : Type 0} (q : Row → Bool) (xs ys : List Row) → AllByRecursion (λ x. q x ≡ false) xs → without_first q (xs ++ ys) ≡ xs ++ without_first q ys
without_past q [] ys all = refl
without_past q (x ∷ xs) ys all = rw all.0 (ap (λ rest. x ∷ rest) (without_past q xs ys all.1))

module _ {Row : Type 0} (key : Row → Key) (share : Share) where
  without_head : (rows later : List Row) → AllInOrder (IsBefore key) (rows ++ later) → 0 < length rows → is_ahead share (last_key key rows) ≡ false → without_first (mine key share) (rows ++ later) ≡ without_first (mine key share) rows ++ later
  without_head [] later order some high = absurd (omega (arith, some))
  without_head (x ∷ []) later order some high = elim (cases_Bool (mine key share x)) [
    | inl is ↦ rw is refl
    | inr other ↦ rw other (ap (λ rest. x ∷ rest) (first_absent (mine key share) later (all_from_all (IsBefore key x) (λ z. mine key share z ≡ false) (λ z before. later_apart key share x z before high other) later order.0)))
  ]
  without_head (x ∷ y ∷ rows) later order some high = elim (cases_Bool (mine key share x)) [
    | inl is ↦ rw is refl
    | inr other ↦ rw other (ap (λ rest. x ∷ rest) (without_head (y ∷ rows) later order.1 (omega arith) high))
  ]

  module _ {Leaf : Type 0} (rows_of : Leaf → List Row) where
    without_at : (n : ℕ) (leaves : List Leaf) (leaf : Leaf) → AllByRecursion (λ leaf. 0 < length (rows_of leaf)) leaves → AllInOrder (IsBefore key) (flat_map rows_of leaves)
        → n < length leaves → leaf ≡ get_or leaves n leaf → n ≡ prefix_len (is_lower key share rows_of) leaves
        → without_first (mine key share) (flat_map rows_of leaves) ≡ flat_map rows_of (take n leaves) ++ (without_first (mine key share) (rows_of leaf) ++ flat_map rows_of (drop (suc n) leaves))
    without_at n [] leaf filled order within is count = absurd (omega (arith, within))
    without_at zero (l ∷ ls) leaf filled order within is count = elim (cases_Bool (is_lower key share rows_of l)) [
      | inl low ↦ let one = rw low at count in absurd (omega (arith, one))
      | inr high ↦ without_head (rows_of l) (flat_map rows_of ls) order filled.0 high ∙ ap (λ one. without_first (mine key share) (rows_of one) ++ flat_map rows_of ls) (sym is)
    ]
    without_at (suc n) (l ∷ ls) leaf filled order within is count = elim (cases_Bool (is_lower key share rows_of l)) [
      | inl low ↦
          let more = rw low at count in
          without_past (mine key share) (rows_of l) (flat_map rows_of ls) (lower_apart key share (rows_of l) (order_front (IsBefore key) (rows_of l) (flat_map rows_of ls) order) low)
          ∙ ap (λ rest. rows_of l ++ rest) (without_at n ls leaf filled.1 (order_back (IsBefore key) (rows_of l) (flat_map rows_of ls) order) (omega (arith, within)) is (omega (arith, more)))
          ∙ sym (append_assoc (rows_of l) (flat_map rows_of (take n ls)) (without_first (mine key share) (rows_of leaf) ++ flat_map rows_of (drop (suc n) ls)))
      | inr high ↦ let none = rw high at count in absurd (omega (arith, none))
    ]

    -- the first row of a number goes from all just as from its leaf
    pub without_in_leaf : (n : ℕ) (leaves : List Leaf) (leaf : Leaf) → AllByRecursion (λ leaf. 0 < length (rows_of leaf)) leaves → Rises key (flat_map rows_of leaves)
        → n < length leaves → leaf ≡ get_or leaves n leaf → n ≡ prefix_len (λ leaf. is_ahead share (last_key key (rows_of leaf))) leaves
        → flat_map rows_of (take n leaves) ++ (without_first (λ row. is_in share (key row)) (rows_of leaf) ++ flat_map rows_of (drop (n + 1) leaves)) ≡ without_first (λ row. is_in share (key row)) (flat_map rows_of leaves)
    without_in_leaf n leaves leaf filled rises within is count = rw add-one (sym (without_at n leaves leaf filled (in_order key _ rises) within is count))

-- no rows come where one goes
pub without_short : {Row : Type 0} (q : Row → Bool) (rows : List Row) → length (without_first q rows) ≤ length rows
without_short q [] = omega arith
without_short q (x ∷ xs) = elim (cases_Bool (q x)) [
  | inl is ↦ rw is (omega arith)
  | inr other ↦ rw other (omega (arith, without_short q xs))
]

-- the first row that passes goes, and the others that don't pass stay
pub kept_without : {Row : Type 0} (q : Row → Bool) (rows : List Row) → filter (λ row. not (q row)) (without_first q rows) ≡ filter (λ row. not (q row)) rows
kept_without q [] = refl
kept_without q (x ∷ xs) = elim (cases_Bool (q x)) [
  | inl is ↦ rw is refl
  | inr other ↦ rw (other, other) (ap (λ rest. x ∷ rest) (kept_without q xs))
]

pub fewer_without : {Row : Type 0} (q : Row → Bool) (rows : List Row) (row : Row) → find q rows ≡ Some row → length (without_first q rows) < length rows
fewer_without q [] row is = cc
fewer_without q (x ∷ xs) row found = elim (cases_Bool (q x)) [
  | inl is ↦ rw is (omega arith)
  | inr other ↦ let later : find q xs ≡ Some row = rw other at found in rw other (omega (arith, fewer_without q xs row later))
]

-- where none is found, all are kept
pub all_left : {Row : Type 0} (q : Row → Bool) (rows : List Row) → find q rows ≡ None → filter (λ row. not (q row)) rows ≡ rows
all_left q [] none = refl
all_left q (x ∷ xs) none = elim (cases_Bool (q x)) [
  | inl is ↦ let wrong : Some x ≡ None = rw is at none in cc
  | inr other ↦ let later : find q xs ≡ None = rw other at none in rw other (ap (λ rest. x ∷ rest) (all_left q xs later))
]

pub kept_within : {Row : Type 0} (q : Row → Bool) (rows : List Row) → length (filter q rows) ≤ length rows
kept_within q [] = omega arith
kept_within q (x ∷ xs) = elim (cases_Bool (q x)) [
  | inl is ↦ rw is (omega (arith, kept_within q xs))
  | inr other ↦ rw other (omega (arith, kept_within q xs))
]

-- the first that passes is the first of those that pass
pub find_kept : {Row : Type 0} (q : Row → Bool) (rows : List Row) → slice_get (filter q rows) 0 ≡ find q rows
find_kept q [] = refl
find_kept q (x ∷ xs) = elim (cases_Bool (q x)) [
  | inl is ↦ rw is refl
  | inr other ↦ rw other (find_kept q xs)
]

-- where a row passes, fewer are left
pub fewer_left : {Row : Type 0} (q : Row → Bool) (rows : List Row) → list_any q rows ≡ true → length (filter (λ row. not (q row)) rows) < length rows
fewer_left q [] some = cc
fewer_left q (x ∷ xs) some = elim (cases_Bool (q x)) [
  | inl is ↦ rw is (omega (arith, kept_within (λ row. not (q row)) xs))
  | inr other ↦ let later : list_any q xs ≡ true = rw other at some in rw other (omega (arith, fewer_left q xs later))
]

-- one goes just where one is found
pub one_goes : {Row : Type 0} (q : Row → Bool) (rows : List Row) (row : Row) → find q rows ≡ Some row → length rows ≡ length (without_first q rows) + 1
one_goes q [] row found = cc
one_goes q (x ∷ xs) row found = elim (cases_Bool (q x)) [
  | inl is ↦ rw is (omega arith)
  | inr other ↦ let later : find q xs ≡ Some row = rw other at found in rw other (omega (arith, one_goes q xs row later))
]
