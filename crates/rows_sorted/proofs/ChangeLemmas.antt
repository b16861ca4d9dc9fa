-- One row changed in its place.
use Rattle.std.proofs.Common.{◌≡◌, ℕ, ◌+◌, ◌==◌, Bool, true, false, List, [], ◌∷◌, Some, map, refl, ap, arith, inl, inr, suc, slice_get}
use Rattle.std.specs.Prelude.{set, ◌&&◌}
use Rattle.std.specs.List.{AllByRecursion, position_from}
use Rattle.std.proofs.lemmas.Bool.{cases_Bool}
use Rattle.rows_sorted.specs.Keys.{Key, is_key, number_key, Rises}
use Rattle.rows_sorted.proofs.OrderLemmas.{AllInOrder, IsBefore, in_order, all_from_all}
use Rattle.rows_sorted.proofs.RowLemmas.{places}
use Rattle.rows_sorted.proofs.PartLemmas.{parted_by_key}

none_changed : {Row : Type 0} (q : Row → Bool) (f : Row → Row) → ((x : Row) → q x ≡ false → f x ≡ x) → (rows : List Row) → AllByRecursion (λ y. q y ≡ false) rows → map f rows ≡ rows
none_changed q f stays [] all = refl
none_changed q f stays (x ∷ xs) all = rw (stays x all.0, none_changed q f stays xs all.1) refl

module _ {Row : Type 0} (R : Row → Row → Type 0) (q : Row → Bool) (once : (x y : Row) → R x y → q x ≡ true → q y ≡ false) (f : Row → Row) (stays : (x : Row) → q x ≡ false → f x ≡ x) where
  changed_from : (row : Row) (i n : ℕ) (rows : List Row) → AllInOrder R rows → position_from q i rows ≡ Some n
      → (j : ℕ) × (n ≡ i + j) × (slice_get rows j ≡ Some row → set rows j (f row) ≡ map f rows)
  changed_from row i n [] order is = cc
  changed_from row i n (x ∷ xs) order is = elim (cases_Bool (q x)) [
    | inl mine ↦
        let first : Some i ≡ Some n = rw mine at is in
        let same : i ≡ n = cc in
        let rest = none_changed q f stays xs (all_from_all (R x) (λ y. q y ≡ false) (λ y later. once x y later mine) xs order.0) in
        (0, omega (arith, same), (λ read. let it : x ≡ row = cc in rw (it, rest) refl))
    | inr other ↦
        let later : position_from q (i + 1) xs ≡ Some n = rw other at is in
        let rest = changed_from row (i + 1) n xs order.1 later in
        (suc rest.0, omega (arith, rest.1), (λ read. rw (stays x other) (ap (λ more. x ∷ more) (rest.2 read))))
  ]

  changed_at : (row : Row) (n : ℕ) (rows : List Row) → AllInOrder R rows → position_from q 0 rows ≡ Some n → slice_get rows n ≡ Some row → set rows n (f row) ≡ map f rows
  changed_at row n rows order is read =
      let rest = changed_from row 0 n rows order is in
      let same : n ≡ rest.0 = omega (arith, rest.1) in
      rw same (rest.2 (rw same at read))

-- Where f changes the row of a key alone, a changed row in its place is f of each row.
pub changed_is : {Row : Type 0} (key : Row → Key) (k : Key) (f : Row → Row) → ((x : Row) → is_key (key x) k ≡ false → f x ≡ x) → (row : Row) (n : ℕ) (rows : List Row)
    → Rises key rows → position_from (λ x. is_key (key x) k) 0 rows ≡ Some n → slice_get rows n ≡ Some row → set rows n (f row) ≡ map f rows
changed_is key k f stays row n rows rises is read =
    changed_at (IsBefore key) (λ x. is_key (key x) k) (places _ _ _ _ (parted_by_key key k)).once f stays row n rows (in_order key rows rises) is read

alone : (b : Bool) → (b && true) ≡ b
alone true = refl
alone false = refl

-- a key that is a number alone is found by it
pub number_is : (n a : ℕ) → is_key (number_key n) (number_key a) ≡ (n == a)
number_is n a = alone (n == a)
