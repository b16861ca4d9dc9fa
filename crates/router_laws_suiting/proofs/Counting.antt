-- Rows whose numbers rise, from 1 on and below a bound, are fewer than the bound: so many children and attachments of one entity there are at most.
use Rattle.std.proofs.Common.{◌≡◌, ℕ, suc, ◌+◌, ◌<◌, ◌≤◌, ◌==◌, true, List, [], ◌∷◌, length, refl, inl, inr, arith, nat_lt}
use Rattle.std.specs.List.{AllByRecursion}
use Rattle.std.proofs.lemmas.Bool.{ltb-true}
use Rattle.std.proofs.lemmas.Bool.Decides.{nat_tests}
use Rattle.router_laws.proofs.RisingLemmas.{InOrder}
use Rattle.router_laws.specs.Forest.{IsIn}
use Rattle.router_state.specs.Contexts.{link_before}
use Rattle.router_state.specs.declared.rows.Link.{Link}
use Rattle.rows_sorted.specs.Orders.{pair_before}

pub all_from_in : {X : Type 0} (P : X → Type 0) (xs : List X) → ((x : X) → IsIn x xs → P x) → AllByRecursion P xs
all_from_in P [] each = tt
all_from_in P (x ∷ xs) each = (each x (inl refl), all_from_in P xs (λ y there. each y (inr there)))

-- so many rows lie from one number on below another
pub fewer_than : {Row : Type 0} (number : Row → ℕ) (n m : ℕ) (rows : List Row) → n ≤ m → InOrder (λ x y. nat_lt (number x) (number y)) rows → AllByRecursion (λ row. n ≤ number row) rows → AllByRecursion (λ row. number row < m) rows → length rows + n ≤ m
fewer_than number n m [] le order from below = none n m le
  where
    none : (n m : ℕ) → n ≤ m → 0 + n ≤ m
    none n m le = omega (arith, le)
fewer_than {Row} number n m (x ∷ rows) le order from below =
    joined (length rows) n (number x) m (fewer_than number (number x + 1) m rows (next (number x) m below.0) order.1 (later rows order.0) below.1) from.0
  where
    next : (i m : ℕ) → i < m → i + 1 ≤ m
    next i m less = omega (arith, less)

    joined : (k n i m : ℕ) → k + (i + 1) ≤ m → n ≤ i → suc k + n ≤ m
    joined k n i m most from = omega (arith, most, from)

    later : (ys : List Row) → AllByRecursion (λ y. nat_lt (number x) (number y) ≡ true) ys → AllByRecursion (λ y. number x + 1 ≤ number y) ys
    later [] all = tt
    later (y ∷ ys) all = (above (number x) (number y) (ltb-true (number x) (number y) all.0), later ys all.1)
      where
        above : (i j : ℕ) → i < j → i + 1 ≤ j
        above i j less = omega (arith, less)

-- the attachments of one entity rise by their activities
pub rise_of_one : (e : ℕ) (links : List Link) → AllByRecursion (λ (l : Link). (l.entity.0 == e) ≡ true) links → InOrder link_before links → InOrder (λ (x y : Link). nat_lt x.activity.0 y.activity.0) links
rise_of_one e [] own order = tt
rise_of_one e (l ∷ links) own order = (later links own.1 order.0, rise_of_one e links own.1 order.1)
  where
    first : (a b c d : ℕ) → (b == e) ≡ true → (d == e) ≡ true → pair_before a b c d ≡ true → nat_lt a c ≡ true
    first a b c d one two before = grind (arith, nat_tests, one, two, before)

    later : (ys : List Link) → AllByRecursion (λ (y : Link). (y.entity.0 == e) ≡ true) ys → AllByRecursion (λ (y : Link). link_before l y ≡ true) ys → AllByRecursion (λ (y : Link). nat_lt l.activity.0 y.activity.0 ≡ true) ys
    later [] own all = tt
    later (y ∷ ys) mine all = (first l.activity.0 l.entity.0 y.activity.0 y.entity.0 own.0 mine.0 all.0, later ys mine.1 all.1)
