-- Things are all different just where, once they are put in order, each differs from the next.
use Rattle.std.proofs.Common.{◌≡◌, ◌+◌, Bool, true, false, List, [], ◌∷◌, refl, sym, ap, ◌∙◌, arith, inl, inr, suc, Less, Equal, Greater}
use Rattle.std.specs.Prelude.{◌&&◌, not}
use Rattle.std.specs.Cmp.{IsTotalOrder, IsEquivalence}
use Rattle.std.specs.List.{AllByRecursion, filter, list_all}
use Rattle.std.specs.List.Sorted.{IsSorted, IsStable, ties}
use Rattle.std.specs.Ordering.{is_lt, is_eq, ordering_reverse, eq_by_cmp}
use Rattle.std.specs.declared.cmp.Ordering.{Ordering}
use Rattle.std.proofs.lemmas.Bool.{cases_Bool}
use Rattle.std.proofs.lemmas.Cmp.{eq_by_cmp_equiv}
use Rattle.rows_sorted.specs.Orders.{rises_by}
use Rattle.router_state.specs.WellEntities.{all_differ}
use Rattle.snapshot_check.specs.Keys.{are_apart}

both_ways : (s t : Bool) → (s ≡ true → t ≡ true) → (t ≡ true → s ≡ true) → s ≡ t
both_ways true t f g = sym (f refl)
both_ways false true f g = g refl
both_ways false false f g = refl

both_true : (a b : Bool) → (a && b) ≡ true → (a ≡ true) × (b ≡ true)
both_true true true passes = (refl, refl)
both_true true false passes = cc
both_true false b passes = cc

true_both : (a b : Bool) → a ≡ true → b ≡ true → (a && b) ≡ true
true_both true true passes also = refl
true_both true false passes also = cc
true_both false b passes also = cc

off : (b : Bool) → not b ≡ true → b ≡ false
off true is = cc
off false is = refl

-- at most one thing
abbrev is_short : {K : Type 0} → List K → Bool
is_short [] = true
is_short (x ∷ []) = true
is_short (x ∷ y ∷ rest) = false

none_behind : {K : Type 0} (x : K) (ys : List K) → is_short (x ∷ ys) ≡ true → ys ≡ []
none_behind x [] short = refl
none_behind x (y ∷ ys) short = cc

module _ {K : Type 0} (same : K → K → Bool) (e : IsEquivalence same) where
  none_like : (k x : K) (ys : List K) → same k x ≡ true → list_all (λ y. not (same x y)) ys ≡ true → filter (same k) ys ≡ []
  none_like k x [] is all = refl
  none_like k x (y ∷ ys) is all =
      let parts = both_true (not (same x y)) (list_all (λ y. not (same x y)) ys) all in
      let other : same k y ≡ false = e.congr k x y is ∙ off (same x y) parts.0 in
      rw other (none_like k x ys is parts.1)

  -- of things that are all different at most one is like any given one
  few : (xs : List K) → all_differ (λ x y. not (same x y)) xs ≡ true → (k : K) → is_short (filter (same k) xs) ≡ true
  few [] all k = refl
  few (x ∷ xs) all k =
      let parts = both_true (list_all (λ y. not (same x y)) xs) (all_differ (λ x y. not (same x y)) xs) all in
      elim (cases_Bool (same k x)) [
        | inl is ↦ let none = none_like k x xs is parts.0 in rw (is, none) refl
        | inr other ↦ rw other (few xs parts.1 k)
      ]

  all_others : (x : K) (ys : List K) → filter (same x) ys ≡ [] → list_all (λ y. not (same x y)) ys ≡ true
  all_others x [] none = refl
  all_others x (y ∷ ys) none = elim (cases_Bool (same x y)) [
    | inl is ↦ let found : y ∷ filter (same x) ys ≡ [] = rw is at none in cc
    | inr other ↦ true_both (not (same x y)) (list_all (λ y. not (same x y)) ys) (ap not other) (all_others x ys (rw other at none))
  ]

  fewer : (k x : K) (xs : List K) → is_short (filter (same k) (x ∷ xs)) ≡ true → is_short (filter (same k) xs) ≡ true
  fewer k x xs short = elim (cases_Bool (same k x)) [
    | inl is ↦ let alone : is_short (x ∷ filter (same k) xs) ≡ true = rw is at short in let none = none_behind x (filter (same k) xs) alone in rw none refl
    | inr other ↦ rw other at short
  ]

  itself_first : (x : K) (xs : List K) → filter (same x) (x ∷ xs) ≡ x ∷ filter (same x) xs
  itself_first x xs = let is = e.refl x in rw is refl

  different : (xs : List K) → ((k : K) → is_short (filter (same k) xs) ≡ true) → all_differ (λ x y. not (same x y)) xs ≡ true
  different [] short = refl
  different (x ∷ xs) short =
      let alone : is_short (x ∷ filter (same x) xs) ≡ true = sym (ap is_short (itself_first x xs)) ∙ short x in
      true_both (list_all (λ y. not (same x y)) xs) (all_differ (λ x y. not (same x y)) xs)
      (all_others x xs (none_behind x (filter (same x) xs) alone)) (different xs (λ k. fewer k x xs (short k)))

all_from_all : {X : Type 0} (P Q : X → Type 0) → ((x : X) → P x → Q x) → (xs : List X) → AllByRecursion P xs → AllByRecursion Q xs
all_from_all P Q follows [] all = tt
all_from_all P Q follows (x ∷ xs) all = (follows x all.0, all_from_all P Q follows xs all.1)

-- neither is less just where the two are equal
tie_by : (r s : Ordering) → s ≡ ordering_reverse r → (not (is_lt r) && not (is_lt s)) ≡ is_eq r
tie_by Less s turned = refl
tie_by Equal s turned = ap (λ z. not (is_lt z)) turned
tie_by Greater s turned = ap (λ z. not (is_lt z)) turned

-- what is neither equal nor higher is less
less_by : (r s : Ordering) → s ≡ ordering_reverse r → is_lt s ≡ false → is_eq r ≡ false → r ≡ Less
less_by Less s turned level apart = refl
less_by Equal s turned level apart = cc
less_by Greater s turned level apart = let low : is_lt s ≡ true = ap is_lt turned in cc

module _ {K : Type 0} (R : K → K → Ordering) (o : IsTotalOrder R) where
  twin_is : (k x : K) → ties (λ a b. is_lt (R a b)) k x ≡ eq_by_cmp R k x
  twin_is k x = tie_by (R k x) (R x k) (o.antisymm x k)

  abbrev Up : List K → Type 0
  Up [] = Unit {0}
  Up (x ∷ []) = Unit {0}
  Up (x ∷ y ∷ rows) = (is_lt (R y x) ≡ false) × Up (y ∷ rows)

  up_from : (ys : List K) → IsSorted R ys → Up ys
  up_from [] up = tt
  up_from (x ∷ []) up = tt
  up_from (x ∷ y ∷ rows) up =
      (up 0 x (omega arith) (omega arith), up_from (y ∷ rows) (λ k d low high. let next : suc k + 1 ≡ suc (k + 1) = omega arith in let pair = up (suc k) d (omega arith) (omega arith) in rw next at pair))

  all_less : (x : K) (ys : List K) → Up (x ∷ ys) → rises_by (are_apart R) (x ∷ ys) ≡ true → AllByRecursion (λ z. R x z ≡ Less) ys
  all_less x [] up apart = tt
  all_less x (y ∷ rows) up apart =
      let parts = both_true (not (is_eq (R x y))) (rises_by (are_apart R) (y ∷ rows)) apart in
      let low : R x y ≡ Less = less_by (R x y) (R y x) (o.antisymm y x) up.0 (off (is_eq (R x y)) parts.0) in
      (low, all_from_all (λ z. R y z ≡ Less) (λ z. R x z ≡ Less) (λ z is. o.trans x y z low is) rows (all_less y rows up.1 parts.1))

  apart_all : (x : K) (ys : List K) → AllByRecursion (λ z. R x z ≡ Less) ys → list_all (are_apart R x) ys ≡ true
  apart_all x [] all = refl
  apart_all x (y ∷ ys) all = true_both (not (is_eq (R x y))) (list_all (are_apart R x) ys) (ap (λ r. not (is_eq r)) all.0) (apart_all x ys all.1)

  up_behind : (x : K) (ys : List K) → Up (x ∷ ys) → Up ys
  up_behind x [] up = tt
  up_behind x (y ∷ ys) up = up.1

  apart_behind : (x : K) (ys : List K) → rises_by (are_apart R) (x ∷ ys) ≡ true → rises_by (are_apart R) ys ≡ true
  apart_behind x [] apart = refl
  apart_behind x (y ∷ ys) apart = (both_true (not (is_eq (R x y))) (rises_by (are_apart R) (y ∷ ys)) apart).1

  differ_from : (ys : List K) → Up ys → rises_by (are_apart R) ys ≡ true → all_differ (are_apart R) ys ≡ true
  differ_from [] up apart = refl
  differ_from (x ∷ ys) up apart =
      true_both (list_all (are_apart R x) ys) (all_differ (are_apart R) ys) (apart_all x ys (all_less x ys up apart)) (differ_from ys (up_behind x ys up) (apart_behind x ys apart))

  in_turn : (ys : List K) → all_differ (are_apart R) ys ≡ true → rises_by (are_apart R) ys ≡ true
  in_turn [] all = refl
  in_turn (x ∷ []) all = refl
  in_turn (x ∷ y ∷ rows) all =
      let parts = both_true (list_all (are_apart R x) (y ∷ rows)) (all_differ (are_apart R) (y ∷ rows)) all in
      let first = both_true (not (is_eq (R x y))) (list_all (are_apart R x) rows) parts.0 in
      true_both (not (is_eq (R x y))) (rises_by (are_apart R) (y ∷ rows)) first.0 (in_turn (y ∷ rows) parts.1)

  same_twins : (xs ys : List K) → IsStable R xs ys → (k : K) → filter (eq_by_cmp R k) ys ≡ filter (eq_by_cmp R k) xs
  same_twins xs ys stable k = sym (λ i. filter (λ x. twin_is k x i) ys) ∙ stable k ∙ (λ i. filter (λ x. twin_is k x i) xs)

  pub distinct_is : (xs ys : List K) → IsStable R xs ys → IsSorted R ys → rises_by (are_apart R) ys ≡ all_differ (are_apart R) xs
  distinct_is xs ys stable up =
      let e : IsEquivalence (eq_by_cmp R) = eq_by_cmp_equiv o in
      both_ways _ _
      (λ turns. different (eq_by_cmp R) e xs (λ k. sym (ap is_short (same_twins xs ys stable k)) ∙ few (eq_by_cmp R) e ys (differ_from ys (up_from ys up) turns) k))
      (λ all. in_turn ys (different (eq_by_cmp R) e ys (λ k. ap is_short (same_twins xs ys stable k) ∙ few (eq_by_cmp R) e xs all k)))
