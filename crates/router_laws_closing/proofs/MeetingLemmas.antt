-- Lists of numbers that rise: what two of them have in common is the same whichever of them is looked through.
use Rattle.std.proofs.Common.{◌≡◌, ℕ, ◌<◌, ◌==◌, ◌⊎◌, inl, inr, true, false, List, [], ◌∷◌, filter, refl, sym, ◌∙◌, ap, arith, nat_lt}
use Rattle.std.proofs.lemmas.Bool.{cases_Bool, and_parts}
use Rattle.std.proofs.lemmas.Bool.Decides.{nat_tests}
use Rattle.rows_sorted.specs.Orders.{rises_by}
use Rattle.router_laws_closing.specs.Loose.{is_member}

-- numbers that rise
abbrev Rises : List ℕ → Type 0
Rises xs = rises_by (λ (x y : ℕ). nat_lt x y) xs ≡ true

rest_rises : (x : ℕ) (xs : List ℕ) → Rises (x ∷ xs) → Rises xs
rest_rises x [] rises = refl
rest_rises x (y ∷ ys) rises = (and_parts (nat_lt x y) (rises_by (λ (x y : ℕ). nat_lt x y) (y ∷ ys)) rises).1

-- a number below the first one isn't in the list
not_there : (x y : ℕ) (ys : List ℕ) → Rises (y ∷ ys) → x < y → is_member (y ∷ ys) x ≡ false
not_there x y [] rises low = grind (arith, nat_tests, low)
not_there x y (z ∷ zs) rises low =
    let parts = and_parts (nat_lt y z) (rises_by (λ (x y : ℕ). nat_lt x y) (z ∷ zs)) rises in
    let next : y < z = grind (arith, nat_tests, parts.0) in
    let more = not_there x z zs parts.1 (omega (arith, low, next)) in
    let here : (y == x) ≡ false = grind (arith, nat_tests, low) in
    rw (here, more) refl

-- a number in front of a list that hasn't it adds nothing
skipped : (x : ℕ) (xs ys : List ℕ) → is_member ys x ≡ false → filter (is_member (x ∷ xs)) ys ≡ filter (is_member xs) ys
skipped x xs [] none = refl
skipped x xs (y ∷ ys) none = elim (cases_Bool (y == x)) [
  | inl own ↦ let wrong : true ≡ false = rw own at none in absurd (cc)
  | inr other ↦
      let turned : (x == y) ≡ false = grind (arith, nat_tests, other) in
      elim (cases_Bool (is_member xs y)) [
        | inl mine ↦ rw (turned, mine) (ap (λ more. y ∷ more) (skipped x xs ys (rw other at none)))
        | inr foreign ↦ rw (turned, foreign) (skipped x xs ys (rw other at none))
      ]
]

either : (x y : ℕ) → (x < y) ⊎ ((x == y) ≡ true) ⊎ (y < x)
either x y = elim (cases_Bool (nat_lt x y)) [
  | inl less ↦ inl (grind (arith, nat_tests, less))
  | inr not_less ↦ (elim (cases_Bool (x == y)) [
    | inl same ↦ inr (inl same)
    | inr other ↦ inr (inr (grind (arith, nat_tests, not_less, other)))
  ])
]

pub rising_meet : (xs ys : List ℕ) → Rises xs → Rises ys → filter (is_member ys) xs ≡ filter (is_member xs) ys
rising_meet [] ys one two = by ys
  where
    by : (zs : List ℕ) → [] ≡ filter (is_member []) zs
    by [] = refl
    by (z ∷ zs) = by zs
rising_meet (x ∷ xs) [] one two = rising_meet xs [] (rest_rises x xs one) refl
rising_meet (x ∷ xs) (y ∷ ys) one two = elim (either x y) [
  | inl low ↦
      let none = not_there x y ys two low in
      rw none (rising_meet xs (y ∷ ys) (rest_rises x xs one) two ∙ sym (skipped x xs (y ∷ ys) none))
  | inr more ↦ (elim more [
    | inl same ↦
        let is : x ≡ y = grind (arith, nat_tests, same) in
        both x y xs ys one two is (rising_meet xs ys (rest_rises x xs one) (rest_rises y ys two))
    | inr high ↦
        let none = not_there y x xs one high in
        rw none (skipped y ys (x ∷ xs) none ∙ rising_meet (x ∷ xs) ys one (rest_rises y ys two))
  ])
]
  where
    absent : (z : ℕ) (zs : List ℕ) → Rises (z ∷ zs) → is_member zs z ≡ false
    absent z [] rises = refl
    absent z (w ∷ ws) rises =
        let parts = and_parts (nat_lt z w) (rises_by (λ (x y : ℕ). nat_lt x y) (w ∷ ws)) rises in
        not_there z w ws parts.1 (grind (arith, nat_tests, parts.0))

    both : (x y : ℕ) (xs ys : List ℕ) → Rises (x ∷ xs) → Rises (y ∷ ys) → x ≡ y → filter (is_member ys) xs ≡ filter (is_member xs) ys
        → filter (is_member (y ∷ ys)) (x ∷ xs) ≡ filter (is_member (x ∷ xs)) (y ∷ ys)
    both x y xs ys one two is rest =
        let here : (y == x) ≡ true = grind (arith, nat_tests, is) in
        let there : (x == y) ≡ true = grind (arith, nat_tests, is) in
        let none_x : is_member xs y ≡ false = ap (is_member xs) (sym is) ∙ absent x xs one in
        let none_y : is_member ys x ≡ false = ap (is_member ys) is ∙ absent y ys two in
        let one_side : filter (is_member (y ∷ ys)) xs ≡ filter (is_member ys) xs = skipped y ys xs none_x in
        let other_side : filter (is_member (x ∷ xs)) ys ≡ filter (is_member xs) ys = skipped x xs ys none_y in
        rw (here, there) (rw (one_side, other_side, rest, is) refl)
