-- The order of two paths shows where they part.
use Rattle.std.proofs.Common.{◌≡◌, ℕ, ℤ, ◌<◌, ◌==◌, Bool, true, false, not, ◌&&◌, ◌||◌, List, [], ◌∷◌, ◌++◌, length, refl, sym, ◌∙◌, arith, inl, inr, nat_lt}
use Rattle.std.specs.Prelude.{int_lt}
use Rattle.std.proofs.lemmas.Bool.{cases_Bool, le-ltb, eq-eqb}
use Rattle.std.proofs.lemmas.Bool.Decides.{nat_tests}
use Rattle.std.proofs.lemmas.Int.{ints}
use Rattle.router_state.specs.Paths.{step_before, step_same, path_before}
use Rattle.entity_tree.specs.Climbing.{BeginsWith}

not_below_itself : (a : ℤ) → int_lt a a ≡ false
not_below_itself a = elim (cases_Bool (int_lt a a)) [
  | inl is ↦ absurd (omega (arith, ints, is))
  | inr isnt ↦ isnt
]

not_both : (a b : ℤ) → int_lt a b ≡ true → int_lt b a ≡ false
not_both a b is = elim (cases_Bool (int_lt b a)) [
  | inl also ↦ absurd (omega (arith, ints, is, also))
  | inr isnt ↦ isnt
]

before_itself : (x : ℤ × ℕ) → step_before x x ≡ false
before_itself x =
    let number : nat_lt x.1 x.1 ≡ false = le-ltb x.1 x.1 (omega arith) in
    rw (not_below_itself x.0, number) refl

same_itself : (x : ℤ × ℕ) → step_same x x ≡ true
same_itself x =
    let number : (x.1 == x.1) ≡ true = eq-eqb x.1 x.1 refl in
    rw (not_below_itself x.0, number) refl

or_false : (b : Bool) → (b || false) ≡ b
or_false true = refl
or_false false = refl

both_false : (a b : Bool) → (a && (b && false)) ≡ false
both_false true true = refl
both_false true false = refl
both_false false b = refl

-- steps of two numbers aren't the same
apart_not_same : (x y : ℤ × ℕ) → (x.1 == y.1) ≡ false → step_same x y ≡ false
apart_not_same x y apart = rw apart (both_false (not (int_lt y.0 x.0)) (not (int_lt x.0 y.0)))

-- a path comes before those that go on from it
pub upper_first : (whole upper : List (ℤ × ℕ)) → BeginsWith whole upper → length upper < length whole → path_before upper whole ≡ true
upper_first [] [] begins short = absurd (omega (arith, short))
upper_first (x ∷ whole) [] begins short = refl
upper_first [] (y ∷ upper) begins short = absurd begins
upper_first (x ∷ whole) (y ∷ upper) begins short = rw (begins.0, before_itself y, same_itself y) (upper_first whole upper begins.1 (omega (arith, short)))

pub upper_not_after : (whole upper : List (ℤ × ℕ)) → BeginsWith whole upper → path_before whole upper ≡ false
upper_not_after whole [] begins = refl
upper_not_after [] (y ∷ upper) begins = absurd begins
upper_not_after (x ∷ whole) (y ∷ upper) begins = rw (begins.0, before_itself y, same_itself y) (upper_not_after whole upper begins.1)

-- two paths that part at a step come as the two steps do
pub parted : (shared : List (ℤ × ℕ)) (x y : ℤ × ℕ) (p q : List (ℤ × ℕ)) → BeginsWith p (shared ++ x ∷ []) → BeginsWith q (shared ++ y ∷ []) → (x.1 == y.1) ≡ false
    → path_before p q ≡ step_before x y
parted [] x y [] q p_begins q_begins apart = absurd p_begins
parted [] x y (a ∷ p) [] p_begins q_begins apart = absurd q_begins
parted [] x y (a ∷ p) (b ∷ q) p_begins q_begins apart = rw (p_begins.0, q_begins.0, apart_not_same x y apart) (or_false (step_before x y))
parted (s ∷ shared) x y [] q p_begins q_begins apart = absurd p_begins
parted (s ∷ shared) x y (a ∷ p) [] p_begins q_begins apart = absurd q_begins
parted (s ∷ shared) x y (a ∷ p) (b ∷ q) p_begins q_begins apart =
    rw (p_begins.0, q_begins.0, before_itself s, same_itself s) (parted shared x y p q p_begins.1 q_begins.1 apart)

before_not_same : (x y : ℤ × ℕ) → step_before x y ≡ true → step_same x y ≡ false
before_not_same x y is = elim (cases_Bool (int_lt y.0 x.0)) [
  | inl higher ↦ rw higher refl
  | inr level ↦ elim (cases_Bool (int_lt x.0 y.0)) [
    | inl lower ↦ let wrong : false ≡ true = rw (level, lower) at is in absurd (cc)
    | inr also ↦
        let number : nat_lt x.1 y.1 ≡ true = rw (level, also) at is in
        let apart : (x.1 == y.1) ≡ false = grind (arith, nat_tests, number) in
        rw (level, also, apart) refl
  ]
]

same_turned : (x y : ℤ × ℕ) → step_same y x ≡ step_same x y
same_turned x y =
    let number : (y.1 == x.1) ≡ (x.1 == y.1) = grind (arith, nat_tests) in
    rw number (turned (not (int_lt x.0 y.0)) (not (int_lt y.0 x.0)) (x.1 == y.1))
  where
    turned : (a b c : Bool) → (a && (b && c)) ≡ (b && (a && c))
    turned true true c = refl
    turned true false c = refl
    turned false true c = refl
    turned false false c = refl

-- where one step decides, what comes behind it doesn't matter
goes_on : (s t m b c b' c' : Bool) → (s ≡ true → m ≡ false) → (t ≡ true → m ≡ false) → ((b || c) ≡ true → (b' ≡ b) × (c' ≡ c)) → ((s || (m && b)) || (t || (m && c))) ≡ true
    → ((s || (m && b')) ≡ (s || (m && b))) × ((t || (m && c')) ≡ (t || (m && c)))
goes_on s t false b c b' c' one other more decided = (refl, refl)
goes_on true t true b c b' c' one other more decided = absurd (let wrong = one refl in cc)
goes_on false true true b c b' c' one other more decided = absurd (let wrong = other refl in cc)
goes_on false false true b c b' c' one other more decided = more decided

-- two paths of one length of which one comes first: what goes on from one of them comes as it does
pub longer : (p upper whole : List (ℤ × ℕ)) → length p ≡ length upper → BeginsWith whole upper → (path_before p upper || path_before upper p) ≡ true
    → (path_before p whole ≡ path_before p upper) × (path_before whole p ≡ path_before upper p)
longer [] [] whole level begins decided = absurd (cc)
longer [] (y ∷ upper) whole level begins decided = absurd (omega (arith, level))
longer (x ∷ p) [] whole level begins decided = absurd (omega (arith, level))
longer (x ∷ p) (y ∷ upper) [] level begins decided = absurd begins
longer (x ∷ p) (y ∷ upper) (z ∷ whole) level begins decided =
    let decides : ((step_before x y || (step_same x y && path_before p upper)) || (step_before y x || (step_same x y && path_before upper p))) ≡ true = rw (same_turned x y) at decided in
    let on = goes_on (step_before x y) (step_before y x) (step_same x y) (path_before p upper) (path_before upper p) (path_before p whole) (path_before whole p)
    (before_not_same x y) (λ is. sym (same_turned x y) ∙ before_not_same y x is) (longer p upper whole (omega (arith, level)) begins.1) decides in
    rw (begins.0, same_turned x y) on
