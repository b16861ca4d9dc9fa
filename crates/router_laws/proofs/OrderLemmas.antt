-- The orders of the lists go on from row to row.
use Rattle.std.proofs.Common.{◌≡◌, ℕ, ◌<◌, ◌≤◌, ◌==◌, Bool, true, false, ◌&&◌, ◌||◌, List, [], ◌∷◌, refl, sym, ◌∙◌, arith, inl, inr, ◌⊎◌, nat_lt}
use Rattle.std.proofs.lemmas.Bool.{cases_lt, lt-ltb, le-ltb, ne_eqb, eq-eqb, or_cases, and_parts, cases_Bool}
use Rattle.std.proofs.lemmas.Bool.Decides.{nat_tests}
use Rattle.slee_value.specs.Order.{is_below}
use Rattle.rows_sorted.specs.Orders.{pair_before, text_before, triple_before}

below_less : (p b : ℕ) (ps bs : List ℕ) → p < b → is_below (p ∷ ps) (b ∷ bs) ≡ true
below_less p b ps bs h = rw (lt-ltb p b h) refl

below_more : (p b : ℕ) (ps bs : List ℕ) → b < p → is_below (p ∷ ps) (b ∷ bs) ≡ false
below_more p b ps bs h = rw (le-ltb p b (omega arith), ne_eqb p b (λ e. omega arith)) refl

below_same : (p b : ℕ) (ps bs : List ℕ) → p ≤ b → b ≤ p → is_below (p ∷ ps) (b ∷ bs) ≡ is_below ps bs
below_same p b ps bs h k = rw (le-ltb p b (omega arith), eq-eqb p b (omega arith)) refl

-- the heads of two texts of which one is below the other: it is less, or they are the same and so are the ends below one another
below_heads : (p b : ℕ) (ps bs : List ℕ) → is_below (p ∷ ps) (b ∷ bs) ≡ true → (p < b) ⊎ ((p ≡ b) × (is_below ps bs ≡ true))
below_heads p b ps bs below = elim (cases_lt p b) [
  | inl less ↦ inl less
  | inr from ↦ (elim (cases_lt b p) [
    | inl more ↦ (let other = below_more p b ps bs more in absurd (cc))
    | inr upto ↦ inr (omega arith, sym (below_same p b ps bs upto from) ∙ below)
  ])
]

pub below_joins : (x y z : List ℕ) → is_below x y ≡ true → is_below y z ≡ true → is_below x z ≡ true
below_joins [] [] z one two = two
below_joins [] (b ∷ y) [] one two = two
below_joins [] (b ∷ y) (c ∷ z) one two = refl
below_joins (a ∷ x) [] z one two = absurd (cc)
below_joins (a ∷ x) (b ∷ y) [] one two = absurd (cc)
below_joins (a ∷ x) (b ∷ y) (c ∷ z) one two = elim (below_heads a b x y one) [
  | inl less ↦ (elim (below_heads b c y z two) [
    | inl more ↦ below_less a c x z (omega (arith, less, more))
    | inr same ↦ below_less a c x z (omega (arith, less, same.0))
  ])
  | inr same ↦ (elim (below_heads b c y z two) [
    | inl more ↦ below_less a c x z (omega (arith, same.0, more))
    | inr equal ↦ below_same a c x z (omega (arith, same.0, equal.0)) (omega (arith, same.0, equal.0)) ∙ below_joins x y z same.1 equal.1
  ])
]

pub pair_joins : (a b c d e f : ℕ) → pair_before a b c d ≡ true → pair_before c d e f ≡ true → pair_before a b e f ≡ true
pair_joins a b c d e f one two = grind (arith, nat_tests)

-- by a number, and where the numbers are the same by what stands behind them
by_number : (a c : ℕ) (t : Bool) → (nat_lt a c || ((a == c) && t)) ≡ true → (a < c) ⊎ ((a ≡ c) × (t ≡ true))
by_number a c t is = elim (cases_lt a c) [
  | inl less ↦ inl less
  | inr from ↦ (let parts : ((a == c) && t) ≡ true = rw (le-ltb a c from) at is in let both = and_parts _ _ parts in inr (grind (arith, nat_tests), both.1))
]

from_less : (a c : ℕ) (t : Bool) → a < c → (nat_lt a c || ((a == c) && t)) ≡ true
from_less a c t less = rw (lt-ltb a c less) refl

from_same : (a c : ℕ) (t : Bool) → a ≡ c → t ≡ true → (nat_lt a c || ((a == c) && t)) ≡ true
from_same a c t same is = rw (le-ltb a c (omega (arith, same)), eq-eqb a c (omega (arith, same)), is) refl

joined : (a b c : ℕ) (s t u : Bool) → (s ≡ true → t ≡ true → u ≡ true) → (nat_lt a b || ((a == b) && s)) ≡ true → (nat_lt b c || ((b == c) && t)) ≡ true
    → (nat_lt a c || ((a == c) && u)) ≡ true
joined a b c s t u join one two = elim (by_number a b s one) [
  | inl less ↦ (elim (by_number b c t two) [
    | inl more ↦ from_less a c u (omega (arith, less, more))
    | inr same ↦ from_less a c u (omega (arith, less, same.0))
  ])
  | inr same ↦ (elim (by_number b c t two) [
    | inl more ↦ from_less a c u (omega (arith, same.0, more))
    | inr equal ↦ from_same a c u (same.0 ∙ equal.0) (join same.1 equal.1)
  ])
]

pub text_joins : (a : ℕ) (x : List ℕ) (b : ℕ) (y : List ℕ) (c : ℕ) (z : List ℕ) → text_before a x b y ≡ true → text_before b y c z ≡ true → text_before a x c z ≡ true
text_joins a x b y c z one two = joined a b c (is_below x y) (is_below y z) (is_below x z) (below_joins x y z) one two

pub triple_joins : (a d : ℕ) (x : List ℕ) (b e : ℕ) (y : List ℕ) (c f : ℕ) (z : List ℕ) → triple_before a d x b e y ≡ true → triple_before b e y c f z ≡ true → triple_before a d x c f z ≡ true
triple_joins a d x b e y c f z one two = joined a b c (text_before d x e y) (text_before e y f z) (text_before d x f z) (text_joins d x e y f z) one two
