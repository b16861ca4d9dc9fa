-- Rows that are found by a number, after one was put in or cut.
use Rattle.std.proofs.Common.{◌≡◌, ℕ, ◌==◌, Bool, true, false, List, [], ◌∷◌, Option, Some, None, map, refl, sym, ◌∙◌, arith, inl, inr}
use Rattle.std.specs.Prelude.{not, nat_lt, if◌then◌else◌}
use Rattle.std.specs.List.{filter, find}
use Rattle.std.specs.Option.{option_or}
use Rattle.std.proofs.lemmas.Bool.{cases_Bool}
use Rattle.std.proofs.lemmas.Bool.Decides.{nat_tests}
use Rattle.std.proofs.lemmas.List.Folds.{find-append}
use Rattle.rows_sorted.specs.Orders.{put}
use Rattle.rows_sorted.specs.Keys.{key_before, is_key, number_key}
use Rattle.entity_tree.proofs.ListLemmas.{and_true}

-- what is looked for passes the filter
find_kept : {X : Type 0} (q p : X → Bool) → ((x : X) → q x ≡ true → p x ≡ true) → (xs : List X) → find q (filter p xs) ≡ find q xs
find_kept q p keeps [] = refl
find_kept q p keeps (x ∷ xs) = elim (cases_Bool (q x)) [
  | inl mine ↦ rw (keeps x mine, mine) refl
  | inr other ↦ elim (cases_Bool (p x)) [
    | inl goes ↦ rw (goes, other) (find_kept q p keeps xs)
    | inr stays ↦ rw (stays, other) (find_kept q p keeps xs)
  ]
]

-- what is looked for doesn't pass the filter
find_lost : {X : Type 0} (q p : X → Bool) → ((x : X) → q x ≡ true → p x ≡ false) → (xs : List X) → find q (filter p xs) ≡ None
find_lost q p loses [] = refl
find_lost q p loses (x ∷ xs) = elim (cases_Bool (p x)) [
  | inl goes ↦ elim (cases_Bool (q x)) [
    | inl mine ↦ absurd (let wrong : true ≡ false = sym goes ∙ loses x mine in cc)
    | inr other ↦ rw (goes, other) (find_lost q p loses xs)
  ]
  | inr stays ↦ rw stays (find_lost q p loses xs)
]

or_none : {X : Type 0} (o : Option X) → option_or o None ≡ o
or_none None = refl
or_none (Some x) = refl

module _ {X : Type 0} (number : X → ℕ) where
  pub key_is_number : (e : ℕ) (x : X) → is_key (number_key (number x)) (number_key e) ≡ (number x == e)
  key_is_number e x = and_true (number x == e)

  key_is_before : (x y : X) → key_before (number_key (number x)) (number_key (number y)) ≡ nat_lt (number x) (number y)
  key_is_before x y = grind (arith, nat_tests)

  pub found_by_key : (e : ℕ) (xs : List X) → find (λ x. is_key (number_key (number x)) (number_key e)) xs ≡ find (λ x. number x == e) xs
  found_by_key e xs = λ i. find (λ x. key_is_number e x i) xs

  pub cut_by_key : (e : ℕ) (xs : List X) → filter (λ x. not (is_key (number_key (number x)) (number_key e))) xs ≡ filter (λ x. not (number x == e)) xs
  cut_by_key e xs = λ i. filter (λ x. not (key_is_number e x i)) xs

  pub put_by_key : (x : X) (xs : List X) → put (λ x y. key_before (number_key (number x)) (number_key (number y))) x xs ≡ put (λ x y. nat_lt (number x) (number y)) x xs
  put_by_key x xs = λ i. put (λ x y. key_is_before x y i) x xs

  pub set_by_key : (e : ℕ) (f : X → X) (xs : List X) → map (λ x. if is_key (number_key (number x)) (number_key e) then f x else x) xs ≡ map (λ x. if number x == e then f x else x) xs
  set_by_key e f xs = λ i. map (λ x. if key_is_number e x i then f x else x) xs

  -- the row that was put in is found by its number, and the others as before
  pub put_own : (x : X) (xs : List X) → find (λ y. number y == number x) (put (λ y z. nat_lt (number y) (number z)) x xs) ≡ Some x
  put_own x xs =
      let low = find_lost (λ y. number y == number x) (λ y. nat_lt (number y) (number x)) (λ y same. grind (arith, nat_tests, same)) xs in
      let mine : (number x == number x) ≡ true = grind (arith, nat_tests) in
      find-append (λ y. number y == number x) (filter (λ y. nat_lt (number y) (number x)) xs) (x ∷ filter (λ y. nat_lt (number x) (number y)) xs) ∙ (rw (low, mine) refl)

  pub put_other : (e : ℕ) (x : X) (xs : List X) → (number x == e) ≡ false → find (λ y. number y == e) (put (λ y z. nat_lt (number y) (number z)) x xs) ≡ find (λ y. number y == e) xs
  put_other e x xs apart =
      find-append (λ y. number y == e) (filter (λ y. nat_lt (number y) (number x)) xs) (x ∷ filter (λ y. nat_lt (number x) (number y)) xs)
      ∙ elim (cases_Bool (nat_lt e (number x))) [
        | inl below ↦
            let low = find_kept (λ y. number y == e) (λ y. nat_lt (number y) (number x)) (λ y same. grind (arith, nat_tests, same, below)) xs in
            let high = find_lost (λ y. number y == e) (λ y. nat_lt (number x) (number y)) (λ y same. grind (arith, nat_tests, same, below)) xs in
            rw (low, apart, high) (or_none (find (λ y. number y == e) xs))
        | inr above ↦
            let low = find_lost (λ y. number y == e) (λ y. nat_lt (number y) (number x)) (λ y same. grind (arith, nat_tests, same, above)) xs in
            let high = find_kept (λ y. number y == e) (λ y. nat_lt (number x) (number y)) (λ y same. grind (arith, nat_tests, same, above, apart)) xs in
            rw (low, apart, high) refl
      ]

  -- the row that was cut isn't found, and the others are as before
  pub cut_own : (e : ℕ) (xs : List X) → find (λ x. number x == e) (filter (λ x. not (number x == e)) xs) ≡ None
  cut_own e xs = find_lost (λ x. number x == e) (λ x. not (number x == e)) (λ x is. rw is refl) xs

  pub cut_other : (e n : ℕ) (xs : List X) → (n == e) ≡ false → find (λ x. number x == e) (filter (λ x. not (number x == n)) xs) ≡ find (λ x. number x == e) xs
  cut_other e n xs apart = find_kept (λ x. number x == e) (λ x. not (number x == n)) (λ x is. let other : (number x == n) ≡ false = grind (arith, nat_tests, is, apart) in rw other refl) xs
