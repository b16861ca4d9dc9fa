-- Deliveries go by priority.
use Rattle.router_laws_histories.specs.Words.{IsFirstOf}
use Rattle.std.proofs.Common.{◌≡◌, ℕ, ℤ, ◌==◌, Bool, true, false, not, ◌&&◌, ◌||◌, List, [], ◌∷◌, refl, arith, inl, inr, nat_lt, Some, None}
use Rattle.std.specs.Prelude.{int_lt}
use Rattle.std.proofs.lemmas.Bool.{cases_Bool, and_parts, or_cases, or_parts, false_from_ne_true}
use Rattle.std.proofs.lemmas.Bool.Decides.{nat_tests}
use Rattle.std.proofs.lemmas.Int.{ints}
use Rattle.router_state.specs.Paths.{step_before, step_same, path_before, path_of, least_path}
use Rattle.router_state.specs.declared.rows.Entity.{Entity}
use Rattle.router_laws.proofs.PathLemmas.{path_strict, path_joins}

-- of three paths: what comes before the last and not before the middle one has the middle one before the last
step_between : (x y z : ℤ × ℕ) → step_before x y ≡ false → step_before x z ≡ true → step_before y z ≡ true
step_between x y z isnt is = by_numbers x.0 y.0 z.0 x.1 y.1 z.1 isnt is
  where
    by_numbers : (a b c : ℤ) (i j k : ℕ) → (int_lt b a || (not (int_lt a b) && nat_lt i j)) ≡ false → (int_lt c a || (not (int_lt a c) && nat_lt i k)) ≡ true
        → (int_lt c b || (not (int_lt b c) && nat_lt j k)) ≡ true
    by_numbers a b c i j k isnt is = grind (arith, ints, nat_tests)

step_sames : (x y z : ℤ × ℕ) → step_same x z ≡ true → step_before x y ≡ false → step_before y z ≡ false → (step_same x y ≡ true) × (step_same y z ≡ true)
step_sames x y z same one two = by_numbers x.0 y.0 z.0 x.1 y.1 z.1 same one two
  where
    by_numbers : (a b c : ℤ) (i j k : ℕ) → (not (int_lt c a) && (not (int_lt a c) && (i == k))) ≡ true → (int_lt b a || (not (int_lt a b) && nat_lt i j)) ≡ false
        → (int_lt c b || (not (int_lt b c) && nat_lt j k)) ≡ false
        → ((not (int_lt b a) && (not (int_lt a b) && (i == j))) ≡ true) × ((not (int_lt c b) && (not (int_lt b c) && (j == k))) ≡ true)
    by_numbers a b c i j k same one two = grind (arith, ints, nat_tests)

pub path_between : (p q r : List (ℤ × ℕ)) → path_before p q ≡ false → path_before p r ≡ true → path_before q r ≡ true
path_between p q [] isnt is = absurd (cc)
path_between p [] (z ∷ r) isnt is = refl
path_between [] (y ∷ q) (z ∷ r) isnt is = absurd (cc)
path_between (x ∷ p) (y ∷ q) (z ∷ r) isnt is =
    let no = or_parts (step_before x y) (step_same x y && path_before p q) isnt in
    elim (or_cases (step_before x z) (step_same x z && path_before p r) is) [
      | inl first ↦ rw (step_between x y z no.0 first) refl
      | inr later ↦ (let both = and_parts (step_same x z) (path_before p r) later in elim (cases_Bool (step_before y z)) [
        | inl done ↦ rw done refl
        | inr not_yet ↦ (let same = step_sames x y z both.0 no.0 not_yet in let behind : path_before p q ≡ false = rw same.0 at no.1 in rw (not_yet, same.1, path_between p q r behind both.1) refl)
      ])
    ]

pub least_is : (rows : List Entity) (best : Entity) (ys : List Entity) (r : Entity) → least_path rows (Some best) ys ≡ Some r
    → (path_before (path_of rows best) (path_of rows r) ≡ false) × IsFirstOf rows r ys
least_is rows best [] r is = (rw (some_same is) (path_strict (path_of rows r)), tt)
  where
    some_same : {X : Type 0} {x y : X} → Some x ≡ Some y → x ≡ y
    some_same same = cc
least_is rows best (y ∷ ys) r is = elim (cases_Bool (path_before (path_of rows y) (path_of rows best))) [
  | inl before ↦
      let more = least_is rows y ys r (rw before at is) in
      (false_from_ne_true _ (λ ahead. clash (path_before (path_of rows y) (path_of rows r)) more.0 (path_joins (path_of rows y) (path_of rows best) (path_of rows r) before ahead)), (more.0, more.1))
  | inr isnt ↦
      let more = least_is rows best ys r (rw isnt at is) in
      (more.0, (false_from_ne_true _ (λ ahead. clash (path_before (path_of rows best) (path_of rows r)) more.0 (path_between (path_of rows y) (path_of rows best) (path_of rows r) isnt ahead)), more.1))
]
  where
    clash : (b : Bool) → b ≡ false → b ≡ true → ⊥
    clash b one two = absurd (cc)

pub first_is : (rows ys : List Entity) (r : Entity) → least_path rows None ys ≡ Some r → IsFirstOf rows r ys
first_is rows [] r is = tt
first_is rows (y ∷ ys) r is = let found = least_is rows y ys r is in (found.0, found.1)
