-- The rows of all leaves, where one leaf stands, changes, goes or comes.
use Rattle.std.proofs.Common.{◌≡◌, ℕ, zero, suc, ◌+◌, ◌<◌, refl, append_assoc, List, [], ◌∷◌, ◌++◌, length, take, drop, get_or, sym, ap, subst, ◌∙◌, add-one, arith}
use Rattle.std.specs.Prelude.{not, remove, set}
use Rattle.std.specs.List.{AllByRecursion, filter, find, flat_map, insert, list_any}
use Rattle.std.proofs.lemmas.List.{append-nil, drop_more, drop-set-lt, set_split, take-append-drop, take_more_set, take-set}
use Rattle.std.proofs.lemmas.List.Concat.{flat_map-append}
use Rattle.rows_sorted.specs.Orders.{put}
use Rattle.rows_sorted.specs.Keys.{Key, is_key, key_before, Rises}
use Rattle.rows_sorted.proofs.OrderLemmas.{IsBefore, in_order, rises_again}
use Rattle.rows_leaves.proofs.LastLemmas.{all_both, order_front, order_back}
use Rattle.rows_leaves.proofs.PartLemmas.{Low, High, low_apart, high_apart, find_between, any_between, cut_between, put_between}

module _ {Leaf Row : Type 0} (rows_of : Leaf → List Row) where
  -- the rows before a leaf, its own, and those behind it
  pub joined_at : (leaves : List Leaf) (n : ℕ) (leaf : Leaf) → n < length leaves → leaf ≡ get_or leaves n leaf
      → flat_map rows_of leaves ≡ flat_map rows_of (take n leaves) ++ (rows_of leaf ++ flat_map rows_of (drop (n + 1) leaves))
  joined_at leaves n leaf within is =
      ap (flat_map rows_of) (sym (take-append-drop n leaves)) ∙ flat_map-append rows_of (take n leaves) (drop n leaves)
      ∙ ap (λ rest. flat_map rows_of (take n leaves) ++ flat_map rows_of rest) (drop_more leaves n leaf within)
      ∙ ap (λ one. flat_map rows_of (take n leaves) ++ (rows_of one ++ flat_map rows_of (drop (n + 1) leaves))) (sym is)

  pub joined_set : (leaves : List Leaf) (n : ℕ) (leaf : Leaf) → n < length leaves
      → flat_map rows_of (set leaves n leaf) ≡ flat_map rows_of (take n leaves) ++ (rows_of leaf ++ flat_map rows_of (drop (n + 1) leaves))
  joined_set leaves n leaf within = rw add-one (ap (flat_map rows_of) (set_split leaves n leaf within) ∙ flat_map-append rows_of (take n leaves) (leaf ∷ drop (suc n) leaves))

module _ {Leaf Row : Type 0} (key : Row → Key) (rows_of : Leaf → List Row) where
  part_rises : (xs ys zs : List Row) → Rises key (xs ++ (ys ++ zs)) → Rises key ys
  part_rises xs ys zs rises = rises_again key ys (order_front (IsBefore key) ys zs (order_back (IsBefore key) xs (ys ++ zs) (in_order key _ rises)))

  pub leaf_rises : (leaves : List Leaf) (n : ℕ) (leaf : Leaf) → n < length leaves → leaf ≡ get_or leaves n leaf → Rises key (flat_map rows_of leaves) → Rises key (rows_of leaf)
  leaf_rises leaves n leaf within is rises = part_rises (flat_map rows_of (take n leaves)) (rows_of leaf) (flat_map rows_of (drop (n + 1) leaves)) (subst (Rises key) (joined_at rows_of leaves n leaf within is) rises)

  module _ (k : Key) (leaves : List Leaf) (n : ℕ) (leaf : Leaf) (within : n < length leaves) (is : leaf ≡ get_or leaves n leaf)
      (low : Low key k (flat_map rows_of (take n leaves))) (high : High key k (flat_map rows_of (drop (n + 1) leaves))) where
    pub find_in_leaf : find (λ row. is_key (key row) k) (flat_map rows_of leaves) ≡ find (λ row. is_key (key row) k) (rows_of leaf)
    find_in_leaf = ap (find (λ row. is_key (key row) k)) (joined_at rows_of leaves n leaf within is) ∙ find_between _ _ (rows_of leaf) _ (low_apart key k _ low) (high_apart key k _ high)

    pub any_in_leaf : list_any (λ row. is_key (key row) k) (flat_map rows_of leaves) ≡ list_any (λ row. is_key (key row) k) (rows_of leaf)
    any_in_leaf = ap (list_any (λ row. is_key (key row) k)) (joined_at rows_of leaves n leaf within is) ∙ any_between _ _ (rows_of leaf) _ (low_apart key k _ low) (high_apart key k _ high)

    -- the rows with the row of the key cut from its leaf
    pub cut_in_leaf : flat_map rows_of (take n leaves) ++ (filter (λ row. not (is_key (key row) k)) (rows_of leaf) ++ flat_map rows_of (drop (n + 1) leaves)) ≡ filter (λ row. not (is_key (key row) k)) (flat_map rows_of leaves)
    cut_in_leaf = sym (ap (filter (λ row. not (is_key (key row) k))) (joined_at rows_of leaves n leaf within is) ∙ cut_between _ _ (rows_of leaf) _ (low_apart key k _ low) (high_apart key k _ high))

  -- the rows with a row put into its leaf
  pub put_in_leaf : (row : Row) (leaves : List Leaf) (n : ℕ) (leaf : Leaf) → n < length leaves → leaf ≡ get_or leaves n leaf
      → Low key (key row) (flat_map rows_of (take n leaves)) → High key (key row) (flat_map rows_of (drop (n + 1) leaves))
      → flat_map rows_of (take n leaves) ++ (put (λ x y. key_before (key x) (key y)) row (rows_of leaf) ++ flat_map rows_of (drop (n + 1) leaves)) ≡ put (λ x y. key_before (key x) (key y)) row (flat_map rows_of leaves)
  put_in_leaf row leaves n leaf within is low high = sym (ap (put (λ x y. key_before (key x) (key y)) row) (joined_at rows_of leaves n leaf within is) ∙ put_between key row _ (rows_of leaf) _ low high)

  module _ (row : Row) (leaves : List Leaf) (n : ℕ) (old : Leaf) (within : n < length leaves) (is : old ≡ get_or leaves n old)
      (low : Low key (key row) (flat_map rows_of (take n leaves))) (high : High key (key row) (flat_map rows_of (drop (n + 1) leaves))) where
    -- the leaf with the row in it stands in its place
    pub put_set : (new : Leaf) → rows_of new ≡ put (λ x y. key_before (key x) (key y)) row (rows_of old) → flat_map rows_of (set leaves n new) ≡ put (λ x y. key_before (key x) (key y)) row (flat_map rows_of leaves)
    put_set new put_is =
        joined_set rows_of leaves n new within
        ∙ ap (λ rows. flat_map rows_of (take n leaves) ++ (rows ++ flat_map rows_of (drop (n + 1) leaves))) put_is
        ∙ put_in_leaf row leaves n old within is low high

module _ {X : Type 0} (P : X → Type 0) where
  pub all_get : (xs : List X) (n : ℕ) (d : X) → AllByRecursion P xs → n < length xs → P (get_or xs n d)
  all_get [] n d all within = absurd (omega (arith, within))
  all_get (x ∷ xs) zero d all within = all.0
  all_get (x ∷ xs) (suc n) d all within = all_get xs n d all.1 (omega (arith, within))

  pub all_set : (xs : List X) (n : ℕ) (y : X) → AllByRecursion P xs → P y → AllByRecursion P (set xs n y)
  all_set [] n y all one = tt
  all_set (x ∷ xs) zero y all one = (one, all.1)
  all_set (x ∷ xs) (suc n) y all one = (all.0, all_set xs n y all.1 one)

  pub all_take : (n : ℕ) (xs : List X) → AllByRecursion P xs → AllByRecursion P (take n xs)
  all_take zero xs all = tt
  all_take (suc n) [] all = tt
  all_take (suc n) (x ∷ xs) all = (all.0, all_take n xs all.1)

  pub all_drop : (n : ℕ) (xs : List X) → AllByRecursion P xs → AllByRecursion P (drop n xs)
  all_drop zero xs all = all
  all_drop (suc n) [] all = tt
  all_drop (suc n) (x ∷ xs) all = all_drop n xs all.1

  pub all_insert : (xs : List X) (n : ℕ) (y : X) → AllByRecursion P xs → P y → AllByRecursion P (insert xs n y)
  all_insert xs n y all one = all_both P (take n xs) (y ∷ drop n xs) (all_take n xs all) (one, all_drop n xs all)

  pub all_remove : (xs : List X) (n : ℕ) → AllByRecursion P xs → AllByRecursion P (remove xs n)
  all_remove xs n all = all_both P (take n xs) (drop (suc n) xs) (all_take n xs all) (all_drop (suc n) xs all)

  pub all_push : (xs : List X) (y : X) → AllByRecursion P xs → P y → AllByRecursion P (xs ++ y ∷ [])
  all_push xs y all one = all_both P xs (y ∷ []) all (one, tt)

pub empty_is : {X : Type 0} (xs : List X) → length xs ≡ 0 → xs ≡ []
empty_is [] none = refl
empty_is (x ∷ xs) none = absurd (omega (arith, none))

-- what stood at a place before it was taken out doesn't matter
pub removed_same : {X : Type 0} (xs : List X) (n : ℕ) (y : X) → remove (set xs n y) n ≡ remove xs n
removed_same xs n y = rw (take-set xs n y, drop-set-lt (suc n) xs n y (omega arith)) refl

module _ {Leaf Row : Type 0} (rows_of : Leaf → List Row) where
  pub joined_removed : (leaves : List Leaf) (n : ℕ) → flat_map rows_of (remove leaves n) ≡ flat_map rows_of (take n leaves) ++ flat_map rows_of (drop (n + 1) leaves)
  joined_removed leaves n = rw add-one (flat_map-append rows_of (take n leaves) (drop (suc n) leaves))

  pub joined_split : (leaves : List Leaf) (n : ℕ) (one two : Leaf) → n < length leaves
      → flat_map rows_of (insert (set leaves n one) (n + 1) two) ≡ flat_map rows_of (take n leaves) ++ ((rows_of one ++ rows_of two) ++ flat_map rows_of (drop (n + 1) leaves))
  joined_split leaves n one two within =
      rw (take_more_set leaves n one within, drop-set-lt (n + 1) leaves n one (omega arith), flat_map-append rows_of (take n leaves ++ one ∷ []) (two ∷ drop (n + 1) leaves), flat_map-append rows_of (take n leaves) (one ∷ []), append-nil (rows_of one)) (simp append_assoc)

-- two leaves with a row among theirs stand in the place of one
pub put_split : {Leaf Row : Type 0} (key : Row → Key) (rows_of : Leaf → List Row) (row : Row) (leaves : List Leaf) (n : ℕ) (old one two : Leaf) → n < length leaves → old ≡ get_or leaves n old
    → Low key (key row) (flat_map rows_of (take n leaves)) → High key (key row) (flat_map rows_of (drop (n + 1) leaves)) → rows_of one ++ rows_of two ≡ put (λ x y. key_before (key x) (key y)) row (rows_of old)
    → flat_map rows_of (insert (set leaves n one) (n + 1) two) ≡ put (λ x y. key_before (key x) (key y)) row (flat_map rows_of leaves)
put_split key rows_of row leaves n old one two within is low high put_is =
    joined_split rows_of leaves n one two within
    ∙ ap (λ rows. flat_map rows_of (take n leaves) ++ (rows ++ flat_map rows_of (drop (n + 1) leaves))) put_is
    ∙ put_in_leaf key rows_of row leaves n old within is low high

-- what holds of all but one, and of that one, holds of all
pub all_restored : {X : Type 0} (P : X → Type 0) (xs : List X) (n : ℕ) (d : X) → AllByRecursion P (remove xs n) → P (get_or xs n d) → AllByRecursion P xs
all_restored P [] n d all one = tt
all_restored P (x ∷ xs) zero d all one = (one, all)
all_restored P (x ∷ xs) (suc n) d all one = (all.0, all_restored P xs n d all.1 one)

front_kept : {X : Type 0} (xs zs : List X) (n : ℕ) → n < length xs → take n (take (suc n) xs ++ zs) ≡ take n xs
front_kept [] zs n within = absurd (omega (arith, within))
front_kept (x ∷ xs) zs zero within = refl
front_kept (x ∷ xs) zs (suc n) within = ap (λ rest. x ∷ rest) (front_kept xs zs n (omega (arith, within)))

back_kept : {X : Type 0} (xs zs : List X) (n : ℕ) → n < length xs → drop (suc n) (take (suc n) xs ++ zs) ≡ zs
back_kept [] zs n within = absurd (omega (arith, within))
back_kept (x ∷ xs) zs zero within = refl
back_kept (x ∷ xs) zs (suc n) within = back_kept xs zs n (omega (arith, within))

one_kept : {X : Type 0} (xs zs : List X) (n : ℕ) (d : X) → n < length xs → get_or (take (suc n) xs ++ zs) n d ≡ get_or xs n d
one_kept [] zs n d within = absurd (omega (arith, within))
one_kept (x ∷ xs) zs zero d within = refl
one_kept (x ∷ xs) zs (suc n) d within = one_kept xs zs n d (omega (arith, within))

long_kept : {X : Type 0} (xs zs : List X) (n : ℕ) → n < length xs → n < length (take (suc n) xs ++ zs)
long_kept [] zs n within = absurd (omega (arith, within))
long_kept (x ∷ xs) zs zero within = omega arith
long_kept (x ∷ xs) zs (suc n) within = let more = long_kept xs zs n (omega (arith, within)) in omega (arith, more)

module _ {Leaf Row : Type 0} (rows_of : Leaf → List Row) where
  -- a leaf that is behind another one is still there where the other one went
  pub before_removed : (leaves : List Leaf) (n : ℕ) (d : Leaf) → n + 1 < length leaves → get_or (remove leaves (n + 1)) n d ≡ get_or leaves n d
  before_removed leaves n d within = rw add-one (one_kept leaves (drop (suc (suc n)) leaves) n d (omega (arith, within)))

  -- two leaves side by side that become one
  pub joined_pair : (leaves : List Leaf) (n : ℕ) (one two new : Leaf) → n + 1 < length leaves → one ≡ get_or leaves n one → two ≡ get_or leaves (n + 1) two → rows_of new ≡ rows_of one ++ rows_of two
      → flat_map rows_of (set (remove leaves (n + 1)) n new) ≡ flat_map rows_of leaves
  joined_pair leaves n one two new within is_one is_two is =
      let low : n < length leaves = omega (arith, within) in
      let after = drop (suc (suc n)) leaves in
      let short : n < length (take (suc n) leaves ++ after) = long_kept leaves after n low in
      let left : flat_map rows_of (set (remove leaves (n + 1)) n new) ≡ flat_map rows_of (take n leaves) ++ (rows_of new ++ flat_map rows_of after) =
      rw add-one (joined_set rows_of (take (suc n) leaves ++ after) n new short ∙ (rw add-one (rw (front_kept leaves after n low, back_kept leaves after n low) refl))) in
      let whole = joined_at rows_of leaves n one low is_one in
      let two_more : n + 1 + 1 ≡ suc (suc n) = omega arith in
      let next : flat_map rows_of (drop (n + 1) leaves) ≡ rows_of two ++ flat_map rows_of after =
      ap (flat_map rows_of) (drop_more leaves (n + 1) two within) ∙ ap (λ leaf. rows_of leaf ++ flat_map rows_of (drop (n + 1 + 1) leaves)) (sym is_two) ∙ ap (λ k. rows_of two ++ flat_map rows_of (drop k leaves)) two_more in
      left ∙ ap (λ rows. flat_map rows_of (take n leaves) ++ (rows ++ flat_map rows_of after)) is
      ∙ ap (λ rows. flat_map rows_of (take n leaves) ++ rows) (append_assoc (rows_of one) (rows_of two) (flat_map rows_of after) ∙ ap (λ rows. rows_of one ++ rows) (sym next))
      ∙ sym whole
