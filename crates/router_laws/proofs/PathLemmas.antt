-- The order of paths is strict and total.
use Rattle.std.proofs.Common.{◌≡◌, ℕ, ℤ, ◌<◌, ◌≤◌, ◌==◌, Bool, true, false, not, ◌&&◌, ◌||◌, List, [], ◌∷◌, map, refl, sym, ap, ◌∙◌, arith, inl, inr, ◌⊎◌, nat_lt}
use Rattle.std.specs.Prelude.{int_lt}
use Rattle.std.proofs.lemmas.Bool.{cases_Bool, and_parts, or_cases, or_parts, not-true, cases_lt, lt-ltb, le-ltb, eq-eqb}
use Rattle.std.proofs.lemmas.Bool.Decides.{nat_tests}
use Rattle.std.proofs.lemmas.Int.{ints}
use Rattle.router_state.specs.Paths.{step_before, step_same, path_before}

-- priorities

lt_lt : (a b c : ℤ) → int_lt a b ≡ true → int_lt b c ≡ true → int_lt a c ≡ true
lt_lt a b c h k = elim (cases_Bool (int_lt a c)) [
  | inl is ↦ is
  | inr isnt ↦ absurd (omega (arith, ints, h, k, isnt))
]

lt_le : (a b c : ℤ) → int_lt a b ≡ true → int_lt c b ≡ false → int_lt a c ≡ true
lt_le a b c h k = elim (cases_Bool (int_lt a c)) [
  | inl is ↦ is
  | inr isnt ↦ absurd (omega (arith, ints, h, k, isnt))
]

le_lt : (a b c : ℤ) → int_lt b a ≡ false → int_lt b c ≡ true → int_lt a c ≡ true
le_lt a b c h k = elim (cases_Bool (int_lt a c)) [
  | inl is ↦ is
  | inr isnt ↦ absurd (omega (arith, ints, h, k, isnt))
]

le_le : (a b c : ℤ) → int_lt b a ≡ false → int_lt c b ≡ false → int_lt c a ≡ false
le_le a b c h k = elim (cases_Bool (int_lt c a)) [
  | inl is ↦ absurd (omega (arith, ints, h, k, is))
  | inr isnt ↦ isnt
]

not_below_itself : (a : ℤ) → int_lt a a ≡ false
not_below_itself a = elim (cases_Bool (int_lt a a)) [
  | inl is ↦ absurd (omega (arith, ints, is))
  | inr isnt ↦ isnt
]

-- one step

-- a step of higher priority comes before, and so does one that isn't of lower priority and has the lower number
by_priority : (x y : ℤ × ℕ) → int_lt y.0 x.0 ≡ true → step_before x y ≡ true
by_priority x y higher = rw higher refl

by_lower : (x y : ℤ × ℕ) → int_lt x.0 y.0 ≡ false → nat_lt x.1 y.1 ≡ true → step_before x y ≡ true
by_lower x y as_high lower = elim (cases_Bool (int_lt y.0 x.0)) [
  | inl higher ↦ rw higher refl
  | inr isnt ↦ rw (isnt, as_high, lower) refl
]

-- what comes before
comes : (x y : ℤ × ℕ) → step_before x y ≡ true → (int_lt y.0 x.0 ≡ true) ⊎ ((int_lt x.0 y.0 ≡ false) × (nat_lt x.1 y.1 ≡ true))
comes x y before = elim (or_cases (int_lt y.0 x.0) (not (int_lt x.0 y.0) && nat_lt x.1 y.1) before) [
  | inl higher ↦ inl higher
  | inr lower ↦ (let parts = and_parts (not (int_lt x.0 y.0)) (nat_lt x.1 y.1) lower in inr (not-true (int_lt x.0 y.0) parts.0, parts.1))
]

-- what is the same
matches : (x y : ℤ × ℕ) → step_same x y ≡ true → (int_lt y.0 x.0 ≡ false) × (int_lt x.0 y.0 ≡ false) × ((x.1 == y.1) ≡ true)
matches x y same =
    let first = and_parts (not (int_lt y.0 x.0)) (not (int_lt x.0 y.0) && (x.1 == y.1)) same in
    let second = and_parts (not (int_lt x.0 y.0)) (x.1 == y.1) first.1 in
    (not-true (int_lt y.0 x.0) first.0, not-true (int_lt x.0 y.0) second.0, second.1)

lower_join : (a b c : ℕ) → nat_lt a b ≡ true → nat_lt b c ≡ true → nat_lt a c ≡ true
lower_join a b c h k = grind (arith, nat_tests)

lower_same : (a b c : ℕ) → nat_lt a b ≡ true → (b == c) ≡ true → nat_lt a c ≡ true
lower_same a b c h k = grind (arith, nat_tests)

same_lower : (a b c : ℕ) → (a == b) ≡ true → nat_lt b c ≡ true → nat_lt a c ≡ true
same_lower a b c h k = grind (arith, nat_tests)

same_same : (a b c : ℕ) → (a == b) ≡ true → (b == c) ≡ true → (a == c) ≡ true
same_same a b c h k = grind (arith, nat_tests)

step_joins : (x y z : ℤ × ℕ) → step_before x y ≡ true → step_before y z ≡ true → step_before x z ≡ true
step_joins x y z one two = elim (comes x y one) [
  | inl h ↦ (elim (comes y z two) [
    | inl k ↦ by_priority x z (lt_lt z.0 y.0 x.0 k h)
    | inr k ↦ by_priority x z (le_lt z.0 y.0 x.0 k.0 h)
  ])
  | inr h ↦ (elim (comes y z two) [
    | inl k ↦ by_priority x z (lt_le z.0 y.0 x.0 k h.0)
    | inr k ↦ by_lower x z (le_le z.0 y.0 x.0 k.0 h.0) (lower_join x.1 y.1 z.1 h.1 k.1)
  ])
]

before_then_same : (x y z : ℤ × ℕ) → step_before x y ≡ true → step_same y z ≡ true → step_before x z ≡ true
before_then_same x y z one two =
    let same = matches y z two in
    elim (comes x y one) [
      | inl h ↦ by_priority x z (le_lt z.0 y.0 x.0 same.1 h)
      | inr h ↦ by_lower x z (le_le z.0 y.0 x.0 same.1 h.0) (lower_same x.1 y.1 z.1 h.1 same.2)
    ]

same_then_before : (x y z : ℤ × ℕ) → step_same x y ≡ true → step_before y z ≡ true → step_before x z ≡ true
same_then_before x y z one two =
    let same = matches x y one in
    elim (comes y z two) [
      | inl k ↦ by_priority x z (lt_le z.0 y.0 x.0 k same.1)
      | inr k ↦ by_lower x z (le_le z.0 y.0 x.0 k.0 same.1) (same_lower x.1 y.1 z.1 same.2 k.1)
    ]

same_joins : (x y z : ℤ × ℕ) → step_same x y ≡ true → step_same y z ≡ true → step_same x z ≡ true
same_joins x y z one two =
    let h = matches x y one in
    let k = matches y z two in
    rw (le_le x.0 y.0 z.0 h.0 k.0, le_le z.0 y.0 x.0 k.1 h.1, same_same x.1 y.1 z.1 h.2 k.2) refl

-- whole paths

pub path_joins : (p q r : List (ℤ × ℕ)) → path_before p q ≡ true → path_before q r ≡ true → path_before p r ≡ true
path_joins p q [] one two = absurd (cc)
path_joins p [] (z ∷ r) one two = absurd (cc)
path_joins [] (y ∷ q) (z ∷ r) one two = refl
path_joins (x ∷ p) (y ∷ q) (z ∷ r) one two = elim (or_cases (step_before x y) (step_same x y && path_before p q) one) [
  | inl h ↦ (elim (or_cases (step_before y z) (step_same y z && path_before q r) two) [
    | inl k ↦ rw (step_joins x y z h k) refl
    | inr k ↦ rw (before_then_same x y z h (and_parts (step_same y z) (path_before q r) k).0) refl
  ])
  | inr h ↦ (let hs = and_parts (step_same x y) (path_before p q) h in elim (or_cases (step_before y z) (step_same y z && path_before q r) two) [
    | inl k ↦ rw (same_then_before x y z hs.0 k) refl
    | inr k ↦ (let ks = and_parts (step_same y z) (path_before q r) k in elim (cases_Bool (step_before x z)) [
      | inl is ↦ rw is refl
      | inr isnt ↦ rw (isnt, same_joins x y z hs.0 ks.0, path_joins p q r hs.1 ks.1) refl
    ])
  ])
]

pub path_strict : (p : List (ℤ × ℕ)) → path_before p p ≡ false
path_strict [] = refl
path_strict (x ∷ p) =
    let number : nat_lt x.1 x.1 ≡ false = le-ltb x.1 x.1 (omega arith) in
    elim (cases_Bool (step_same x x)) [
      | inl is ↦ rw (not_below_itself x.0, number, path_strict p) (cases x)
      | inr isnt ↦ rw (not_below_itself x.0, number, path_strict p) (cases x)
    ]
  where
    cases : (x : ℤ × ℕ) → (false || ((true && (true && (x.1 == x.1))) && false)) ≡ false
    cases x = elim (cases_Bool (x.1 == x.1)) [
      | inl is ↦ rw is refl
      | inr isnt ↦ rw isnt refl
    ]

-- two paths neither of which comes before the other have the same numbers
pub path_total : (p q : List (ℤ × ℕ)) → path_before p q ≡ false → path_before q p ≡ false → map (λ (x : ℤ × ℕ). x.1) p ≡ map (λ (x : ℤ × ℕ). x.1) q
path_total [] [] one two = refl
path_total [] (y ∷ q) one two = absurd (cc)
path_total (x ∷ p) [] one two = absurd (cc)
path_total (x ∷ p) (y ∷ q) one two =
    let h = or_parts (step_before x y) (step_same x y && path_before p q) one in
    let k = or_parts (step_before y x) (step_same y x && path_before q p) two in
    let hs = or_parts (int_lt y.0 x.0) (not (int_lt x.0 y.0) && nat_lt x.1 y.1) h.0 in
    let ks = or_parts (int_lt x.0 y.0) (not (int_lt y.0 x.0) && nat_lt y.1 x.1) k.0 in
    let less : nat_lt x.1 y.1 ≡ false = rw ks.0 at hs.1 in
    let more : nat_lt y.1 x.1 ≡ false = rw hs.0 at ks.1 in
    let same : x.1 ≡ y.1 = grind (arith, nat_tests, less, more) in
    let equal : (x.1 == y.1) ≡ true = eq-eqb x.1 y.1 same in
    let back : (y.1 == x.1) ≡ true = eq-eqb y.1 x.1 (sym same) in
    let ends : path_before p q ≡ false = rw (hs.0, ks.0, equal) at h.1 in
    let begins : path_before q p ≡ false = rw (hs.0, ks.0, back) at k.1 in
    rw same (ap (λ ns. y.1 ∷ ns) (path_total p q ends begins))
