-- Rows parted by a key: those before it, the one that has it, and those behind.
use Rattle.std.proofs.Common.{◌≡◌, ℕ, ◌+◌, Bool, true, false, List, [], ◌∷◌, ◌++◌, Some, None, refl, sym, ap, ◌∙◌, arith, inl, inr, suc, slice_get}
use Rattle.std.specs.Prelude.{set}
use Rattle.std.specs.List.{AllByRecursion, filter, insert, prefix_len, position_from}
use Rattle.std.proofs.lemmas.Bool.{cases_Bool}
use Rattle.rows_sorted.proofs.OrderLemmas.{AllInOrder, all_from_all}
use Rattle.rows_sorted.proofs.HalvingLemmas.{PlacesBy, found, position_at}

-- Of rows in order p says which stand before a key, q which has it, and b which stand behind it.
pub record PartedBy {Row : Type 0} (R : Row → Row → Type 0) (p q b : Row → Bool) : Type 0 where
  pub low_apart : (x : Row) → p x ≡ true → q x ≡ false
  pub low_not_behind : (x : Row) → p x ≡ true → b x ≡ false
  pub mine_not_low : (x : Row) → q x ≡ true → p x ≡ false
  pub mine_not_behind : (x : Row) → q x ≡ true → b x ≡ false
  pub neither : (x : Row) → p x ≡ false → q x ≡ false → b x ≡ true
  pub later_not_low : (x y : Row) → R x y → p x ≡ false → p y ≡ false
  pub later_apart : (x y : Row) → R x y → p x ≡ false → q y ≡ false
  pub later_behind : (x y : Row) → R x y → p x ≡ false → b y ≡ true

none_kept : {Row : Type 0} (p : Row → Bool) (rows : List Row) → AllByRecursion (λ y. p y ≡ false) rows → filter p rows ≡ []
none_kept p [] all = refl
none_kept p (y ∷ ys) all = rw all.0 (none_kept p ys all.1)

all_kept : {Row : Type 0} (p : Row → Bool) (rows : List Row) → AllByRecursion (λ y. p y ≡ true) rows → filter p rows ≡ rows
all_kept p [] all = refl
all_kept p (y ∷ ys) all = rw all.0 (ap (λ rest. y ∷ rest) (all_kept p ys all.1))

none_there : {Row : Type 0} (q : Row → Bool) (i : ℕ) (rows : List Row) → AllByRecursion (λ y. q y ≡ false) rows → position_from q i rows ≡ None
none_there q i [] all = refl
none_there q i (y ∷ ys) all = rw all.0 (none_there q (i + 1) ys all.1)

module _ {Row : Type 0} (R : Row → Row → Type 0) (p q b : Row → Bool) (laws : PartedBy R p q b) where
  pub places : PlacesBy R p q
  places = record {
    before = laws.low_apart;
    later = laws.later_apart;
    once = λ x y rises mine. laws.later_apart x y rises (laws.mine_not_low x mine);
  }

  none_low : (x : Row) → p x ≡ false → (rows : List Row) → AllByRecursion (R x) rows → filter p rows ≡ []
  none_low x high rows later = none_kept p rows (all_from_all (R x) (λ y. p y ≡ false) (λ y rises. laws.later_not_low x y rises high) rows later)

  all_behind : (x : Row) → p x ≡ false → (rows : List Row) → AllByRecursion (R x) rows → filter b rows ≡ rows
  all_behind x high rows later = all_kept b rows (all_from_all (R x) (λ y. b y ≡ true) (λ y rises. laws.later_behind x y rises high) rows later)

  -- a row whose key no row has goes behind those that stand before it
  pub inserted_is : (row : Row) (rows : List Row) → AllInOrder R rows → AllByRecursion (λ x. q x ≡ false) rows → insert rows (prefix_len p rows) row ≡ filter p rows ++ row ∷ filter b rows
  inserted_is row [] order absent = refl
  inserted_is row (x ∷ xs) order absent = elim (cases_Bool (p x)) [
    | inl low ↦
        let one : 1 + prefix_len p xs ≡ suc (prefix_len p xs) = omega arith in
        rw (low, laws.low_not_behind x low, one) (ap (λ rest. x ∷ rest) (inserted_is row xs order.1 absent.1))
    | inr high ↦
        rw (high, laws.neither x high absent.0, none_low x high xs order.0, all_behind x high xs order.0) refl
  ]

  replaced_from : (row : Row) (i n : ℕ) (rows : List Row) → AllInOrder R rows → position_from q i rows ≡ Some n
      → (j : ℕ) × (n ≡ i + j) × (set rows j row ≡ filter p rows ++ row ∷ filter b rows)
  replaced_from row i n [] order is = cc
  replaced_from row i n (x ∷ xs) order is = elim (cases_Bool (q x)) [
    | inl mine ↦
        let first : Some i ≡ Some n = rw mine at is in
        let same : i ≡ n = cc in
        let high = laws.mine_not_low x mine in
        (0, omega (arith, same), rw (high, laws.mine_not_behind x mine, none_low x high xs order.0, all_behind x high xs order.0) refl)
    | inr other ↦ elim (cases_Bool (p x)) [
      | inl low ↦
          let later : position_from q (i + 1) xs ≡ Some n = rw other at is in
          let rest = replaced_from row (i + 1) n xs order.1 later in
          (suc rest.0, omega (arith, rest.1), rw (low, laws.low_not_behind x low) (ap (λ more. x ∷ more) rest.2))
      | inr high ↦
          let later : position_from q (i + 1) xs ≡ Some n = rw other at is in
          let none = none_there q (i + 1) xs (all_from_all (R x) (λ y. q y ≡ false) (λ y rises. laws.later_apart x y rises high) xs order.0) in
          let wrong : None ≡ Some n = sym none ∙ later in
          cc
    ]
  ]

  -- a row whose key another one has stands in its place
  pub replaced_is : (row : Row) (n : ℕ) (rows : List Row) → AllInOrder R rows → position_from q 0 rows ≡ Some n → set rows n row ≡ filter p rows ++ row ∷ filter b rows
  replaced_is row n rows order is =
      let rest = replaced_from row 0 n rows order is in
      let same : n ≡ rest.0 = omega (arith, rest.1) in
      rw same rest.2

  -- the place of a key, from how many rows stand before it
  pub place_at : (n : ℕ) (rows : List Row) → AllInOrder R rows → n ≡ prefix_len p rows → position_from q 0 rows ≡ found q (slice_get rows n) n
  place_at n rows order is =
      let none : 0 + n ≡ n = omega arith in
      let at = position_at R p q places 0 rows order in
      let moved = rw (← is, none) at at in
      moved
