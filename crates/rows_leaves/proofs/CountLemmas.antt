-- How many rows there are after a change.
use Rattle.std.proofs.Common.{◌≡◌, ℕ, zero, suc, ◌+◌, ◌<◌, Bool, true, false, List, [], ◌∷◌, ◌++◌, Option, Some, None, length, take, drop, get_or, refl, sym, ap, ◌∙◌, arith, inl, inr}
use Rattle.std.specs.Prelude.{is_some, nat_lt, not, set}
use Rattle.std.specs.List.{filter, flat_map, insert, list_any, position_from, prefix_len}
use Rattle.std.proofs.lemmas.Bool.{cases_Bool}
use Rattle.std.proofs.lemmas.Bool.Decides.{nat_tests}
use Rattle.rows_sorted.specs.Orders.{put}
use Rattle.rows_sorted.specs.Keys.{Key, is_key, key_before, Rises}
use Rattle.rows_sorted.proofs.HalvingLemmas.{any_is, absent_from}
use Rattle.rows_sorted.proofs.OrderLemmas.{AllInOrder, IsBefore, in_order, rises_again, all_filter}
use Rattle.rows_sorted.proofs.PartLemmas.{parted_by_key}
use Rattle.rows_sorted.proofs.RowLemmas.{inserted_is, replaced_is}
use Rattle.rows_leaves.proofs.JoinLemmas.{joined_at, joined_set}
use Rattle.rows_leaves.proofs.LastLemmas.{all_front, all_back, all_both}

length_set : {X : Type 0} (xs : List X) (n : ℕ) (x : X) → length (set xs n x) ≡ length xs
length_set [] n x = refl
length_set (y ∷ ys) zero x = refl
length_set (y ∷ ys) (suc n) x = omega (arith, length_set ys n x)

length_insert : {X : Type 0} (n : ℕ) (xs : List X) (x : X) → length (insert xs n x) ≡ length xs + 1
length_insert zero xs x = omega arith
length_insert (suc n) [] x = refl
length_insert (suc n) (y ∷ ys) x = omega (arith, length_insert n ys x)

length_joined : {X : Type 0} (xs ys : List X) → length (xs ++ ys) ≡ length xs + length ys
length_joined [] ys = omega arith
length_joined (x ∷ xs) ys = omega (arith, length_joined xs ys)

some_of : {X : Type 0} (found : Option X) → is_some found ≡ true → (x : X) × (found ≡ Some x)
some_of None wrong = cc
some_of (Some x) is = (x, refl)

none_of : {X : Type 0} (found : Option X) → is_some found ≡ false → found ≡ None
none_of None is = refl
none_of (Some x) wrong = cc

module _ {Row : Type 0} (key : Row → Key) (row : Row) where
  abbrev same : Row → Bool
  same other = is_key (key other) (key row)

  pub put_again : (rows : List Row) → Rises key rows → list_any (λ other. is_key (key other) (key row)) rows ≡ true → length (put (λ x y. key_before (key x) (key y)) row rows) ≡ length rows
  put_again rows rises there =
      let at = some_of (position_from same 0 rows) (sym (any_is same 0 rows) ∙ there) in
      ap length (sym (replaced_is _ _ _ _ (parted_by_key key (key row)) row at.0 rows (in_order key rows rises) at.1)) ∙ length_set rows at.0 row

  pub put_anew : (rows : List Row) → Rises key rows → list_any (λ other. is_key (key other) (key row)) rows ≡ false → length (put (λ x y. key_before (key x) (key y)) row rows) ≡ length rows + 1
  put_anew rows rises none =
      let absent = absent_from same 0 rows (none_of (position_from same 0 rows) (sym (any_is same 0 rows) ∙ none)) in
      ap length (sym (inserted_is _ _ _ _ (parted_by_key key (key row)) row rows (in_order key rows rises) absent)) ∙ length_insert (prefix_len (λ x. key_before (key x) (key row)) rows) rows row

  -- there are more where none had the key
  pub put_added : (before after : ℕ) (rows : List Row) → Rises key rows → before ≡ length rows → after ≡ length (put (λ x y. key_before (key x) (key y)) row rows) → nat_lt before after ≡ not (list_any (λ other. is_key (key other) (key row)) rows)
  put_added before after rows rises old new = elim (cases_Bool (list_any same rows)) [
    | inl there ↦ let equal : before ≡ after = omega (arith, old, new, put_again rows rises there) in rw there (grind (arith, nat_tests))
    | inr none ↦ let more : before < after = omega (arith, old, new, put_anew rows rises none) in rw none (grind (arith, nat_tests))
  ]

-- the rows of all leaves, of which one has others now
pub joined_length : {Leaf Row : Type 0} (rows_of : Leaf → List Row) (leaves : List Leaf) (n : ℕ) (old new : Leaf) → n < length leaves → old ≡ get_or leaves n old
    → length (flat_map rows_of (set leaves n new)) + length (rows_of old) ≡ length (flat_map rows_of leaves) + length (rows_of new)
joined_length rows_of leaves n old new within is =
    let front = flat_map rows_of (take n leaves) in
    let back = flat_map rows_of (drop (n + 1) leaves) in
    let before = ap length (joined_at rows_of leaves n old within is) in
    let after = ap length (joined_set rows_of leaves n new within) in
    omega (arith, before, after, length_joined front (rows_of old ++ back), length_joined front (rows_of new ++ back), length_joined (rows_of old) back, length_joined (rows_of new) back)

-- rows taken out of a part
module _ {Row : Type 0} (key : Row → Key) where
  order_cut : (R : Row → Row → Type 0) (r : Row → Bool) (xs ys zs : List Row) → AllInOrder R (xs ++ (ys ++ zs)) → AllInOrder R (xs ++ (filter r ys ++ zs))
  order_cut R r [] [] zs order = order
  order_cut R r [] (y ∷ ys) zs order = elim (cases_Bool (r y)) [
    | inl stays ↦ rw stays (all_both (R y) (filter r ys) zs (all_filter (R y) r ys (all_front (R y) ys zs order.0)) (all_back (R y) ys zs order.0), order_cut R r [] ys zs order.1)
    | inr goes ↦ rw goes (order_cut R r [] ys zs order.1)
  ]
  order_cut R r (x ∷ xs) ys zs order =
      let front = all_front (R x) xs (ys ++ zs) order.0 in
      let rest = all_back (R x) xs (ys ++ zs) order.0 in
      (all_both (R x) xs (filter r ys ++ zs) front (all_both (R x) (filter r ys) zs (all_filter (R x) r ys (all_front (R x) ys zs rest)) (all_back (R x) ys zs rest)), order_cut R r xs ys zs order.1)

  pub cut_rises : (r : Row → Bool) (xs ys zs : List Row) → Rises key (xs ++ (ys ++ zs)) → Rises key (xs ++ (filter r ys ++ zs))
  cut_rises r xs ys zs rises = rises_again key _ (order_cut (IsBefore key) r xs ys zs (in_order key _ rises))

pub others_stay : {Row : Type 0} (r : Row → Bool) (xs ys zs : List Row) → filter r (xs ++ (filter r ys ++ zs)) ≡ filter r (xs ++ (ys ++ zs))
others_stay r [] ys zs = ends r ys zs
  where
    ends : {Row : Type 0} (r : Row → Bool) (ys zs : List Row) → filter r (filter r ys ++ zs) ≡ filter r (ys ++ zs)
    ends r [] zs = refl
    ends r (y ∷ ys) zs = elim (cases_Bool (r y)) [
      | inl stays ↦ rw (stays, stays) (ap (λ rest. y ∷ rest) (ends r ys zs))
      | inr goes ↦ rw goes (ends r ys zs)
    ]
others_stay r (x ∷ xs) ys zs = elim (cases_Bool (r x)) [
  | inl stays ↦ rw stays (ap (λ rest. x ∷ rest) (others_stay r xs ys zs))
  | inr goes ↦ rw goes (others_stay r xs ys zs)
]
