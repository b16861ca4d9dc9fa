-- Byte order, byte by byte.
use Rattle.std.proofs.Common.{◌≡◌, ℕ, ◌<◌, ◌≤◌, true, false, List, [], ◌∷◌, ◌++◌, refl, sym, ◌∙◌, arith, inl, inr}
use Rattle.std.proofs.lemmas.Bool.{cases_lt, lt-ltb, le-ltb, ne_eqb, eq-eqb}
use Rattle.slee_value.specs.Order.{is_below}

pub below_less : (p b : ℕ) (ps bs : List ℕ) → p < b → is_below (p ∷ ps) (b ∷ bs) ≡ true
below_less p b ps bs h = rw (lt-ltb p b h) refl

pub below_more : (p b : ℕ) (ps bs : List ℕ) → b < p → is_below (p ∷ ps) (b ∷ bs) ≡ false
below_more p b ps bs h = rw (le-ltb p b (omega arith), ne_eqb p b (λ e. omega arith)) refl

pub below_same : (p b : ℕ) (ps bs : List ℕ) → p ≤ b → b ≤ p → is_below (p ∷ ps) (b ∷ bs) ≡ is_below ps bs
below_same p b ps bs h k = rw (le-ltb p b (omega arith), eq-eqb p b (omega arith)) refl

-- which of two bytes is greater
pub data Which (p b : ℕ) : Type 0 where
  is_less : p < b → Which p b
  is_more : b < p → Which p b
  is_equal : p ≤ b → b ≤ p → Which p b

pub which : (p b : ℕ) → Which p b
which p b = elim (cases_lt p b) [
  | inl h ↦ is_less h
  | inr h ↦ (elim (cases_lt b p) [
    | inl k ↦ is_more k
    | inr k ↦ is_equal k h
  ])
]

-- a front comes before the whole
pub below_whole : (front : List ℕ) (x : ℕ) (more : List ℕ) → is_below front (front ++ x ∷ more) ≡ true
below_whole [] x more = refl
below_whole (p ∷ front) x more = below_same p p front (front ++ x ∷ more) (omega arith) (omega arith) ∙ below_whole front x more

-- and what comes after a name still does with more behind it
pub below_longer : (before name more : List ℕ) → is_below before name ≡ true → is_below before (name ++ more) ≡ true
below_longer [] [] more e = absurd cc
below_longer (p ∷ ps) [] more e = absurd cc
below_longer [] (b ∷ bs) more e = refl
below_longer (p ∷ ps) (b ∷ bs) more e = by (λ h. below_longer ps bs more h) (which p b)
  where
    contra : is_below (p ∷ ps) (b ∷ bs) ≡ false → is_below (p ∷ ps) (b ∷ (bs ++ more)) ≡ true
    contra f = absurd cc

    by : (is_below ps bs ≡ true → is_below ps (bs ++ more) ≡ true) → Which p b → is_below (p ∷ ps) (b ∷ (bs ++ more)) ≡ true
    by next (is_less h) = below_less p b ps (bs ++ more) h
    by next (is_more h) = contra (below_more p b ps bs h)
    by next (is_equal h k) = below_same p b ps (bs ++ more) h k ∙ next (sym (below_same p b ps bs h k) ∙ e)
