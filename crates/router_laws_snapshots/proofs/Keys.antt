-- Keys of rows: a number, or a pair of numbers.
use Rattle.std.proofs.Common.{◌≡◌, ℕ, ◌<◌, ◌≤◌, ◌==◌, Bool, true, ◌&&◌, ◌||◌, List, [], ◌∷◌, map, refl, arith, nat_lt}
use Rattle.std.specs.List.{AllByRecursion}
use Rattle.std.proofs.lemmas.Bool.{and_from, and_parts, eq-eqb, eqb-true}
use Rattle.std.proofs.lemmas.Bool.Decides.{nat_tests}
use Rattle.rows_sorted.specs.Orders.{pair_before, rises_by, same_pair}
use Rattle.router_laws_snapshots.proofs.Gathering.{InPairs, IsKeyed, IsUpTo, pairs_from_rises}

-- numbers as they stand
abbrev pub IsLess : ℕ → ℕ → Type 0
IsLess a b = a < b

-- the row has this number
abbrev pub has_number : {Row : Type 0} → (Row → ℕ) → ℕ → Row → Bool
has_number number k row = number row == k

pub numbered : {Row : Type 0} (number : Row → ℕ) → IsKeyed number (has_number number) IsLess
numbered number = record {
  found = λ k row is. eqb-true (number row) k is;
  own = λ row. eq-eqb (number row) (number row) refl;
  apart = λ k less. omega arith;
}

-- rows of which no later one has a lower number
pub numbers_up : {Row : Type 0} (number : Row → ℕ) (before : Row → Row → Bool) → ((x y : Row) → before x y ≡ true → number x ≤ number y) → (rows : List Row) → rises_by before rows ≡ true → InPairs (IsUpTo number IsLess) rows
numbers_up number before up rows rises =
    pairs_from_rises before (IsUpTo number IsLess) (λ x y is. upto (number x) (number y) (up x y is)) (λ x y z is later. on (number x) (number y) (number z) (up x y is) later) rows rises
  where
    upto : (a b : ℕ) → a ≤ b → b < a → ⊥
    upto a b le lt = omega arith

    on : (a b c : ℕ) → a ≤ b → (c < b → ⊥) → c < a → ⊥
    on a b c le never lt = never (omega arith)

-- a number and what breaks ties
pub tied_up : (a b : ℕ) (tie : Bool) → (nat_lt a b || ((a == b) && tie)) ≡ true → a ≤ b
tied_up a b tie is = grind (arith, nat_tests)

-- rows that rise by number, of which each later one has a greater one
pub rows_apart : {Row : Type 0} (number : Row → ℕ) (before : Row → Row → Bool) → ((x y : Row) → before x y ≡ true → number x < number y) → (rows : List Row) → rises_by before rows ≡ true → InPairs (λ (x y : Row). number x < number y) rows
rows_apart number before less rows rises =
    pairs_from_rises before (λ x y. number x < number y) less (λ x y z is later. on (number x) (number y) (number z) (less x y is) later) rows rises
  where
    on : (a b c : ℕ) → a < b → b < c → a < c
    on a b c ab bc = omega arith

all_mapped : {Row K : Type 0} (key : Row → K) (P : K → Type 0) (rows : List Row) → AllByRecursion (λ x. P (key x)) rows → AllByRecursion P (map key rows)
all_mapped key P [] all = tt
all_mapped key P (x ∷ xs) all = (all.0, all_mapped key P xs all.1)

-- so do their keys
pub keys_apart : {Row K : Type 0} (key : Row → K) (below : K → K → Type 0) (rows : List Row) → InPairs (λ (x y : Row). below (key x) (key y)) rows → InPairs below (map key rows)
keys_apart key below [] order = tt
keys_apart key below (row ∷ rows) order = (all_mapped key (below (key row)) rows order.0, keys_apart key below rows order.1)

-- ---- pairs

abbrev pub IsPairBelow : ℕ × ℕ → ℕ × ℕ → Type 0
IsPairBelow p q = pair_before p.0 p.1 q.0 q.1 ≡ true

pub paired : {Row : Type 0} (first second : Row → ℕ) → IsKeyed (λ (row : Row). (first row, second row)) (λ k row. same_pair (second row) (first row) k.1 k.0) IsPairBelow
paired first second = record {
  found = λ k row is. (let parts = and_parts (second row == k.1) (first row == k.0) is in both (first row) (second row) k (eqb-true (first row) k.0 parts.1) (eqb-true (second row) k.1 parts.0));
  own = λ row. and_from (second row == second row) (first row == first row) (eq-eqb (second row) (second row) refl) (eq-eqb (first row) (first row) refl);
  apart = λ k below. never k.0 k.1 below;
}
  where
    both : (a b : ℕ) (k : ℕ × ℕ) → a ≡ k.0 → b ≡ k.1 → (a, b) ≡ k
    both a b k one two = rw (one, two) refl

    never : (a b : ℕ) → pair_before a b a b ≡ true → ⊥
    never a b below = absurd (grind (arith, nat_tests))

-- pairs with what breaks ties
pub pairs_up : {Row : Type 0} (first second : Row → ℕ) (before : Row → Row → Bool) → ((x y : Row) → before x y ≡ true → pair_before (first y) (second y) (first x) (second x) ≡ true → ⊥) → ((x y z : Row) → before x y ≡ true → pair_before (first z) (second z) (first x) (second x) ≡ true → pair_before (first z) (second z) (first y) (second y) ≡ true)
    → (rows : List Row) → rises_by before rows ≡ true → InPairs (IsUpTo (λ (row : Row). (first row, second row)) IsPairBelow) rows
pairs_up first second before upto on rows rises =
    pairs_from_rises before (IsUpTo (λ row. (first row, second row)) IsPairBelow) upto (λ x y z is later below. later (on x y z is below)) rows rises

-- a triple is up to another, whatever breaks its tie
pub triple_up : (a b c d : ℕ) (tie : Bool) → (nat_lt a c || ((a == c) && (nat_lt b d || ((b == d) && tie)))) ≡ true → pair_before c d a b ≡ true → ⊥
triple_up a b c d tie is turned = absurd (grind (arith, nat_tests))

pub triple_on : (a b c d e f : ℕ) (tie : Bool) → (nat_lt a c || ((a == c) && (nat_lt b d || ((b == d) && tie)))) ≡ true → pair_before e f a b ≡ true → pair_before e f c d ≡ true
triple_on a b c d e f tie is below = grind (arith, nat_tests)

pub pair_on : (a b c d e f : ℕ) → pair_before a b c d ≡ true → pair_before c d e f ≡ true → pair_before a b e f ≡ true
pair_on a b c d e f one two = grind (arith, nat_tests)
