-- What is seen of rows that have numbers, one of which comes next.
use Rattle.std.proofs.Common.{◌≡◌, ℕ, zero, suc, ◌+◌, ◌-◌, ◌==◌, true, false, List, [], ◌∷◌, ◌++◌, refl, arith, inl, inr, ◌∙◌, ap}
use Rattle.std.specs.Prelude.{not, filter, find, map, nat_lt, option_map, if◌then◌else◌, Option, Some, None}
use Rattle.std.specs.Option.{option_or}
use Rattle.std.proofs.lemmas.Bool.{cases_Bool}
use Rattle.std.proofs.lemmas.Bool.Decides.{nat_tests}
use Rattle.std.proofs.lemmas.List.Folds.{find-append}
use Rattle.router_laws.proofs.ListLemmas.{find_kept, find_lost}
use Rattle.router_draft.specs.After.{ahead_of, is_turn, made_new, one_less}

-- one number more was drawn
pub ahead_more : (next e : ℕ) → ahead_of (next + 1) e ≡ one_less (ahead_of next e)
ahead_more next e = elim (cases_Bool (nat_lt e next)) [
  | inl low ↦ let lower : nat_lt e (next + 1) ≡ true = grind (arith, nat_tests, low) in rw (low, lower) refl
  | inr high ↦ elim (cases_Bool (e == next)) [
    | inl same ↦
        let lower : nat_lt e (next + 1) ≡ true = grind (arith, nat_tests, same) in
        let none : e - next ≡ zero = grind (arith, nat_tests, same) in
        rw (high, lower, none) refl
    | inr other ↦
        let higher : nat_lt e (next + 1) ≡ false = grind (arith, nat_tests, high, other) in
        let more : e - next ≡ suc (e - (next + 1)) = grind (arith, nat_tests, high, other) in
        rw (high, higher, more) refl
  ]
]

turn_own : (next e : ℕ) → (next == e) ≡ true → is_turn (ahead_of next e) ≡ true
turn_own next e same =
    let high : nat_lt e next ≡ false = grind (arith, nat_tests, same) in
    let none : e - next ≡ zero = grind (arith, nat_tests, same) in
    rw (high, none) refl

turn_other : (next e : ℕ) → (next == e) ≡ false → is_turn (ahead_of next e) ≡ false
turn_other next e other = elim (cases_Bool (nat_lt e next)) [
  | inl low ↦ rw low refl
  | inr high ↦ let some : ((e - next) == 0) ≡ false = grind (arith, nat_tests, high, other) in rw (high, some) refl
]

module _ {Row A : Type 0} (number : Row → ℕ) (see : Row → A) where
  -- what is seen of the row of this number
  abbrev pub at : List Row → ℕ → Option A
  at rows e = option_map see (find (λ row. number row == e) rows)

  -- a row more, which has the next number
  pub at_new : (next e : ℕ) (row : Row) (rows : List Row) → number row ≡ next → at (rows ++ row ∷ []) e ≡ (if is_turn (ahead_of next e) then option_or (at rows e) (Some (see row)) else at rows e)
  at_new next e row rows is = ap (option_map see) (find-append (λ row. number row == e) rows (row ∷ [])) ∙ by (find (λ row. number row == e) rows)
    where
      by : (o : Option Row) → option_map see (option_or o (find (λ row. number row == e) (row ∷ []))) ≡ (if is_turn (ahead_of next e) then option_or (option_map see o) (Some (see row)) else option_map see o)
      by (Some x) = elim (cases_Bool (is_turn (ahead_of next e))) [
        | inl now ↦ rw now refl
        | inr later ↦ rw later refl
      ]
      by None = elim (cases_Bool (next == e)) [
        | inl same ↦ rw (is, same, turn_own next e same) refl
        | inr other ↦ rw (is, other, turn_other next e other) refl
      ]

  -- the same with how many numbers are drawn before it
  pub new_seen : (next e : ℕ) (row : Row) (rows : List Row) → number row ≡ next → (ahead_of (next + 1) e, at (rows ++ row ∷ []) e) ≡ made_new (ahead_of next e, at rows e) (see row)
  new_seen next e row rows is = rw (ahead_more next e, at_new next e row rows is) refl

  -- a row less
  pub at_gone : (e e' : ℕ) (rows : List Row) → at (filter (λ row. not (number row == e')) rows) e ≡ (if e' == e then None else at rows e)
  at_gone e e' rows = elim (cases_Bool (e' == e)) [
    | inl same ↦ ap (option_map see) (find_lost (λ row. number row == e) (λ row. not (number row == e')) (λ row mine. lost (number row) same mine) rows) ∙ (rw same refl)
    | inr other ↦ ap (option_map see) (find_kept (λ row. number row == e) (λ row. not (number row == e')) (λ row mine. kept (number row) other mine) rows) ∙ (rw other refl)
  ]
    where
      lost : (n : ℕ) → (e' == e) ≡ true → (n == e) ≡ true → not (n == e') ≡ false
      lost n same mine = grind (arith, nat_tests)

      kept : (n : ℕ) → (e' == e) ≡ false → (n == e) ≡ true → not (n == e') ≡ true
      kept n other mine = grind (arith, nat_tests)

  -- rows that are seen as before
  pub at_same : (f : Row → Row) → ((x : Row) → number (f x) ≡ number x) → ((x : Row) → see (f x) ≡ see x) → (e : ℕ) (rows : List Row) → at (map f rows) e ≡ at rows e
  at_same f numbers sights e [] = refl
  at_same f numbers sights e (x ∷ xs) = elim (cases_Bool (number x == e)) [
    | inl mine ↦ rw (numbers x, mine) (ap Some (sights x))
    | inr other ↦ rw (numbers x, other) (at_same f numbers sights e xs)
  ]
