-- One row changed, whose key stays.
use Rattle.std.proofs.Common.{◌≡◌, ℕ, zero, suc, Bool, true, false, if◌then◌else◌, List, [], ◌∷◌, ◌++◌, Some, map, length, slice_get, refl, sym, ap, ◌∙◌, arith, inl, inr}
use Rattle.std.specs.Prelude.{set, ◌&&◌}
use Rattle.std.specs.List.{AllByRecursion, find, position_from}
use Rattle.std.proofs.lemmas.Bool.{cases_Bool}
use Rattle.rows_sorted.specs.Orders.{rises_by}
use Rattle.rows_sorted.specs.Keys.{Key, is_key, key_before, Rises}
use Rattle.rows_sorted.proofs.ChangeLemmas.{changed_is}
use Rattle.rows_sorted.proofs.HalvingLemmas.{find_at_place}

found_passes : {Row : Type 0} (q : Row → Bool) (row : Row) (rows : List Row) → find q rows ≡ Some row → q row ≡ true
found_passes q row [] found = cc
found_passes q row (x ∷ xs) found = elim (cases_Bool (q x)) [
  | inl is ↦ let same : Some x ≡ Some row = rw is at found in let one : x ≡ row = cc in rw (← one) is
  | inr other ↦ let later : find q xs ≡ Some row = rw other at found in found_passes q row xs later
]

pub changed_in_none : {Row : Type 0} (q : Row → Bool) (f : Row → Row) (rows : List Row) → AllByRecursion (λ x. q x ≡ false) rows → map (λ row. if q row then f row else row) rows ≡ rows
changed_in_none q f [] all = refl
changed_in_none q f (x ∷ xs) all = rw all.0 (ap (λ rest. x ∷ rest) (changed_in_none q f xs all.1))

pub map_joined : {X Y : Type 0} (f : X → Y) (xs ys : List X) → map f (xs ++ ys) ≡ map f xs ++ map f ys
map_joined f [] ys = refl
map_joined f (x ∷ xs) ys = ap (λ rest. f x ∷ rest) (map_joined f xs ys)

-- a change between rows that stay
pub changed_between : {Row : Type 0} (q : Row → Bool) (f : Row → Row) (xs ys zs : List Row) → AllByRecursion (λ x. q x ≡ false) xs → AllByRecursion (λ z. q z ≡ false) zs
    → xs ++ (map (λ row. if q row then f row else row) ys ++ zs) ≡ map (λ row. if q row then f row else row) (xs ++ (ys ++ zs))
changed_between q f xs ys zs low high =
    let g = λ (row : _). if q row then f row else row in
    sym (map_joined g xs (ys ++ zs) ∙ ap (λ front. front ++ map g (ys ++ zs)) (changed_in_none q f xs low)
    ∙ ap (λ rest. xs ++ rest) (map_joined g ys zs ∙ ap (λ back. map g ys ++ back) (changed_in_none q f zs high)))

pub keys_stay : {Row : Type 0} (key : Row → Key) (old new : Row) (n : ℕ) (rows : List Row) → slice_get rows n ≡ Some old → key new ≡ key old → map key (set rows n new) ≡ map key rows
keys_stay key old new n [] read same = refl
keys_stay key old new zero (x ∷ xs) read same =
    let one : x ≡ old = cc in
    ap (λ k. k ∷ map key xs) (same ∙ ap key (sym one))
keys_stay key old new (suc n) (x ∷ xs) read same = ap (λ rest. key x ∷ rest) (keys_stay key old new n xs read same)

module _ {Row : Type 0} (key : Row → Key) where
  pub by_keys : (rows : List Row) → rises_by (λ x y. key_before (key x) (key y)) rows ≡ rises_by key_before (map key rows)
  by_keys [] = refl
  by_keys (x ∷ []) = refl
  by_keys (x ∷ y ∷ rows) = ap (λ rest. key_before (key x) (key y) && rest) (by_keys (y ∷ rows))

  -- rows rise where others with the same keys do
  pub rises_as : (rows others : List Row) → map key rows ≡ map key others → Rises key others → Rises key rows
  rises_as rows others same rises = by_keys rows ∙ ap (rises_by key_before) same ∙ sym (by_keys others) ∙ rises

  module _ (k : Key) (f : Row → Row) where
    stays : (x : Row) → is_key (key x) k ≡ false → (if is_key (key x) k then f x else x) ≡ x
    stays x other = rw other refl

    pub changed_at_place : (old new : Row) (n : ℕ) (rows : List Row) → Rises key rows → position_from (λ x. is_key (key x) k) 0 rows ≡ Some n → slice_get rows n ≡ Some old → new ≡ f old
        → set rows n new ≡ map (λ row. if is_key (key row) k then f row else row) rows
    changed_at_place old new n rows rises at read is =
        let passes = found_passes (λ x. is_key (key x) k) old rows (find_at_place _ n rows at ∙ read) in
        let made : (if is_key (key old) k then f old else old) ≡ new = rw passes (sym is) in
        ap (set rows n) (sym made) ∙ changed_is key k (λ row. if is_key (key row) k then f row else row) stays old n rows rises at read

-- the keys of all, where those of a part stay
pub keys_between : {Row : Type 0} (key : Row → Key) (xs ys others zs : List Row) → map key others ≡ map key ys → map key (xs ++ (others ++ zs)) ≡ map key (xs ++ (ys ++ zs))
keys_between key xs ys others zs same =
    map_joined key xs (others ++ zs)
    ∙ ap (λ rest. map key xs ++ rest) (map_joined key others zs ∙ ap (λ part. part ++ map key zs) same ∙ sym (map_joined key ys zs))
    ∙ sym (map_joined key xs (ys ++ zs))

pub as_many : {Row : Type 0} (key : Row → Key) (rows others : List Row) → map key rows ≡ map key others → length rows ≡ length others
as_many key [] [] same = refl
as_many key [] (y ∷ ys) same = cc
as_many key (x ∷ xs) [] same = cc
as_many key (x ∷ xs) (y ∷ ys) same =
    let later : map key xs ≡ map key ys = cc in
    omega (arith, as_many key xs ys later)

-- two changes that agree on each row
pub map_same : {X Y : Type 0} (f g : X → Y) → ((x : X) → f x ≡ g x) → (xs : List X) → map f xs ≡ map g xs
map_same f g same [] = refl
map_same f g same (x ∷ xs) = rw (same x) (ap (λ rest. g x ∷ rest) (map_same f g same xs))
