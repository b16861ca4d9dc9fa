-- A part of rows that stands between rows before a key and rows behind it: what is found, put and cut there.
use Rattle.std.proofs.Common.{◌≡◌, Bool, true, false, List, [], ◌∷◌, ◌++◌, None, refl, sym, ap, ◌∙◌, inl, inr, append_assoc}
use Rattle.std.specs.Prelude.{not}
use Rattle.std.specs.List.{AllByRecursion, filter, find, list_any}
use Rattle.std.proofs.lemmas.Bool.{cases_Bool}
use Rattle.std.proofs.lemmas.List.{append-nil}
use Rattle.std.proofs.lemmas.List.Elements.{filter-append}
use Rattle.rows_sorted.specs.Orders.{put}
use Rattle.rows_sorted.specs.Keys.{Key, is_key, key_before}
use Rattle.rows_sorted.proofs.OrderLemmas.{all_from_all}
use Rattle.rows_sorted.proofs.PartLemmas.{parted_by_key}

module _ {Row : Type 0} where
  pub none_kept : (p : Row → Bool) (rows : List Row) → AllByRecursion (λ y. p y ≡ false) rows → filter p rows ≡ []
  none_kept p [] all = refl
  none_kept p (y ∷ ys) all = rw all.0 (none_kept p ys all.1)

  pub all_kept : (p : Row → Bool) (rows : List Row) → AllByRecursion (λ y. p y ≡ true) rows → filter p rows ≡ rows
  all_kept p [] all = refl
  all_kept p (y ∷ ys) all = rw all.0 (ap (λ rest. y ∷ rest) (all_kept p ys all.1))

  -- where no row of the front passes, the first that passes stands behind it
  pub find_past : (q : Row → Bool) (xs ys : List Row) → AllByRecursion (λ x. q x ≡ false) xs → find q (xs ++ ys) ≡ find q ys
  find_past q [] ys all = refl
  find_past q (x ∷ xs) ys all = rw all.0 (find_past q xs ys all.1)

  pub find_none : (q : Row → Bool) (zs : List Row) → AllByRecursion (λ z. q z ≡ false) zs → find q zs ≡ None
  find_none q [] all = refl
  find_none q (z ∷ zs) all = rw all.0 (find_none q zs all.1)

  find_ahead : (q : Row → Bool) (ys zs : List Row) → AllByRecursion (λ z. q z ≡ false) zs → find q (ys ++ zs) ≡ find q ys
  find_ahead q [] zs all = find_none q zs all
  find_ahead q (y ∷ ys) zs all = elim (cases_Bool (q y)) [
    | inl mine ↦ rw mine refl
    | inr other ↦ rw other (find_ahead q ys zs all)
  ]

  any_past : (q : Row → Bool) (xs ys : List Row) → AllByRecursion (λ x. q x ≡ false) xs → list_any q (xs ++ ys) ≡ list_any q ys
  any_past q [] ys all = refl
  any_past q (x ∷ xs) ys all = rw all.0 (any_past q xs ys all.1)

  any_none : (q : Row → Bool) (zs : List Row) → AllByRecursion (λ z. q z ≡ false) zs → list_any q zs ≡ false
  any_none q [] all = refl
  any_none q (z ∷ zs) all = rw all.0 (any_none q zs all.1)

  any_ahead : (q : Row → Bool) (ys zs : List Row) → AllByRecursion (λ z. q z ≡ false) zs → list_any q (ys ++ zs) ≡ list_any q ys
  any_ahead q [] zs all = any_none q zs all
  any_ahead q (y ∷ ys) zs all = elim (cases_Bool (q y)) [
    | inl mine ↦ rw mine refl
    | inr other ↦ rw other (any_ahead q ys zs all)
  ]

  -- what is found between rows that don't pass is found in the part alone
  pub find_between : (q : Row → Bool) (xs ys zs : List Row) → AllByRecursion (λ x. q x ≡ false) xs → AllByRecursion (λ z. q z ≡ false) zs → find q (xs ++ (ys ++ zs)) ≡ find q ys
  find_between q xs ys zs low high = find_past q xs (ys ++ zs) low ∙ find_ahead q ys zs high

  pub any_between : (q : Row → Bool) (xs ys zs : List Row) → AllByRecursion (λ x. q x ≡ false) xs → AllByRecursion (λ z. q z ≡ false) zs → list_any q (xs ++ (ys ++ zs)) ≡ list_any q ys
  any_between q xs ys zs low high = any_past q xs (ys ++ zs) low ∙ any_ahead q ys zs high

  opposite : (q : Row → Bool) (rows : List Row) → AllByRecursion (λ x. q x ≡ false) rows → AllByRecursion (λ x. not (q x) ≡ true) rows
  opposite q rows all = all_from_all (λ x. q x ≡ false) (λ x. not (q x) ≡ true) (λ x fails. ap not fails) rows all

  pub cut_between : (q : Row → Bool) (xs ys zs : List Row) → AllByRecursion (λ x. q x ≡ false) xs → AllByRecursion (λ z. q z ≡ false) zs
      → filter (λ y. not (q y)) (xs ++ (ys ++ zs)) ≡ xs ++ (filter (λ y. not (q y)) ys ++ zs)
  cut_between q xs ys zs low high =
      let left = λ (y : Row). not (q y) in
      filter-append left xs (ys ++ zs) ∙ (rw (filter-append left ys zs, all_kept left xs (opposite q xs low), all_kept left zs (opposite q zs high)) refl)

module _ {Row : Type 0} (key : Row → Key) (k : Key) where
  abbrev pub Low : List Row → Type 0
  Low = AllByRecursion (λ x. key_before (key x) k ≡ true)

  abbrev pub High : List Row → Type 0
  High = AllByRecursion (λ z. key_before k (key z) ≡ true)

  one_apart : (z : Row) → key_before k (key z) ≡ true → is_key (key z) k ≡ false
  one_apart z high = elim (cases_Bool (is_key (key z) k)) [
    | inl mine ↦ let wrong = (parted_by_key key k).mine_not_behind z mine in cc
    | inr other ↦ other
  ]

  one_not_low : (z : Row) → key_before k (key z) ≡ true → key_before (key z) k ≡ false
  one_not_low z high = elim (cases_Bool (key_before (key z) k)) [
    | inl low ↦ let wrong = (parted_by_key key k).low_not_behind z low in cc
    | inr other ↦ other
  ]

  pub low_apart : (xs : List Row) → Low xs → AllByRecursion (λ x. is_key (key x) k ≡ false) xs
  low_apart xs low = all_from_all (λ x. key_before (key x) k ≡ true) (λ x. is_key (key x) k ≡ false) (parted_by_key key k).low_apart xs low

  pub high_apart : (zs : List Row) → High zs → AllByRecursion (λ z. is_key (key z) k ≡ false) zs
  high_apart zs high = all_from_all (λ z. key_before k (key z) ≡ true) (λ z. is_key (key z) k ≡ false) one_apart zs high

  pub low_not_behind : (xs : List Row) → Low xs → AllByRecursion (λ x. key_before k (key x) ≡ false) xs
  low_not_behind xs low = all_from_all (λ x. key_before (key x) k ≡ true) (λ x. key_before k (key x) ≡ false) (parted_by_key key k).low_not_behind xs low

  high_not_low : (zs : List Row) → High zs → AllByRecursion (λ z. key_before (key z) k ≡ false) zs
  high_not_low zs high = all_from_all (λ z. key_before k (key z) ≡ true) (λ z. key_before (key z) k ≡ false) one_not_low zs high

  lower_part : (xs ys zs : List Row) → Low xs → High zs → filter (λ x. key_before (key x) k) (xs ++ (ys ++ zs)) ≡ xs ++ filter (λ x. key_before (key x) k) ys
  lower_part xs ys zs low high =
      let p = λ (x : Row). key_before (key x) k in
      filter-append p xs (ys ++ zs) ∙ (rw (filter-append p ys zs, all_kept p xs low, none_kept p zs (high_not_low zs high), append-nil (filter p ys)) refl)

  higher_part : (xs ys zs : List Row) → Low xs → High zs → filter (λ x. key_before k (key x)) (xs ++ (ys ++ zs)) ≡ filter (λ x. key_before k (key x)) ys ++ zs
  higher_part xs ys zs low high =
      let b = λ (x : Row). key_before k (key x) in
      filter-append b xs (ys ++ zs) ∙ (rw (filter-append b ys zs, none_kept b xs (low_not_behind xs low), all_kept b zs high) refl)

  pub placed_between : (row : Row) (xs ys zs : List Row) → Low xs → High zs
      → filter (λ x. key_before (key x) k) (xs ++ (ys ++ zs)) ++ row ∷ filter (λ x. key_before k (key x)) (xs ++ (ys ++ zs))
      ≡ xs ++ ((filter (λ x. key_before (key x) k) ys ++ row ∷ filter (λ x. key_before k (key x)) ys) ++ zs)
  placed_between row xs ys zs low high =
      let p = filter (λ x. key_before (key x) k) ys in
      let b = filter (λ x. key_before k (key x)) ys in
      rw (lower_part xs ys zs low high, higher_part xs ys zs low high) (append_assoc xs p (row ∷ (b ++ zs)) ∙ ap (λ rest. xs ++ rest) (sym (append_assoc p (row ∷ b) zs)))

-- a row is put among all just as it is put into the part in which its key belongs
pub put_between : {Row : Type 0} (key : Row → Key) (row : Row) (xs ys zs : List Row) → Low key (key row) xs → High key (key row) zs
    → put (λ x y. key_before (key x) (key y)) row (xs ++ (ys ++ zs)) ≡ xs ++ (put (λ x y. key_before (key x) (key y)) row ys ++ zs)
put_between key row = placed_between key (key row) row
