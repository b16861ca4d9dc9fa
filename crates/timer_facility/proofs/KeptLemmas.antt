-- Timers that are added behind the others or put back, and what stays below the next number.
use Rattle.std.proofs.Common.{◌≡◌, ℕ, ◌==◌, true, false, List, [], ◌∷◌, ◌++◌, None, refl, ap, ◌∙◌, arith, inl, inr}
use Rattle.std.specs.Prelude.{not, nat_lt, IsTrue}
use Rattle.std.specs.List.{AllByRecursion, filter, list_all}
use Rattle.std.proofs.lemmas.Bool.{cases_Bool, and_parts}
use Rattle.std.proofs.lemmas.Bool.Decides.{nat_tests}
use Rattle.rows_sorted.specs.Orders.{are_below, put}
use Rattle.router_state.specs.Timers.{timer_at, without_timer}
use Rattle.router_state.specs.declared.rows.Timer.{Timer}
use Rattle.timer_facility.specs.Views.{timer_before}
use Rattle.rows_index.proofs.RowLemmas.{filter_behind}

all_below : (n : ℕ) (rows : List Timer) → IsTrue (are_below (λ row. row.number.0) n rows) → AllByRecursion (λ row. nat_lt row.number.0 n ≡ true) rows
all_below n [] all = tt
all_below n (x ∷ xs) all = let parts = and_parts (nat_lt x.number.0 n) (list_all (λ (row : Timer). nat_lt row.number.0 n) xs) all in (parts.0, all_below n xs parts.1)

-- no timer has the next number
pub next_is_free : (n : ℕ) (rows : List Timer) → IsTrue (are_below (λ row. row.number.0) n rows) → timer_at rows n ≡ None
next_is_free n rows all = by rows (all_below n rows all)
  where
    by : (rows : List Timer) → AllByRecursion (λ row. nat_lt row.number.0 n ≡ true) rows → timer_at rows n ≡ None
    by [] all = refl
    by (x ∷ xs) all = let low = all.0 in let other : (x.number.0 == n) ≡ false = grind (arith, nat_tests, low) in rw other (by xs all.1)

-- a timer of the next number stands last
pub next_stands_last : (timer : Timer) (rows : List Timer) → IsTrue (are_below (λ row. row.number.0) timer.number.0 rows) → put timer_before timer rows ≡ rows ++ timer ∷ []
next_stands_last timer rows all = by rows (all_below timer.number.0 rows all)
  where
    low : (rows : List Timer) → AllByRecursion (λ row. nat_lt row.number.0 timer.number.0 ≡ true) rows → filter (λ other. timer_before other timer) rows ≡ rows
    low [] all = refl
    low (x ∷ xs) all = rw all.0 (ap (λ rest. x ∷ rest) (low xs all.1))

    high : (rows : List Timer) → AllByRecursion (λ row. nat_lt row.number.0 timer.number.0 ≡ true) rows → filter (λ other. timer_before timer other) rows ≡ []
    high [] all = refl
    high (x ∷ xs) all = let below = all.0 in let other : timer_before timer x ≡ false = grind (arith, nat_tests, below) in rw other (high xs all.1)

    by : (rows : List Timer) → AllByRecursion (λ row. nat_lt row.number.0 timer.number.0 ≡ true) rows → put timer_before timer rows ≡ rows ++ timer ∷ []
    by rows all = ap (λ front. front ++ timer ∷ filter (λ other. timer_before timer other) rows) (low rows all) ∙ ap (λ back. rows ++ timer ∷ back) (high rows all)

pub cut_is_free : (n : ℕ) (rows : List Timer) → timer_at (without_timer rows n) n ≡ None
cut_is_free n [] = refl
cut_is_free n (x ∷ xs) = elim (cases_Bool (x.number.0 == n)) [
  | inl mine ↦ rw mine (cut_is_free n xs)
  | inr other ↦ rw (other, other) (cut_is_free n xs)
]

-- the one that gives way may be cut before
pub put_over : (timer : Timer) (rows : List Timer) → put timer_before timer (without_timer rows timer.number.0) ≡ put timer_before timer rows
put_over timer rows =
    ap (λ front. front ++ timer ∷ filter (λ other. timer_before timer other) (without_timer rows timer.number.0)) (filter_behind (λ other. timer_before other timer) (λ row. not (row.number.0 == timer.number.0)) rows (each rows low))
    ∙ ap (λ back. filter (λ other. timer_before other timer) rows ++ timer ∷ back) (filter_behind (λ other. timer_before timer other) (λ row. not (row.number.0 == timer.number.0)) rows (each rows high))
  where
    each : {P : Timer → Type 0} (rows : List Timer) → ((x : Timer) → P x) → AllByRecursion P rows
    each [] any = tt
    each (x ∷ xs) any = (any x, each xs any)

    low : (x : Timer) → not (x.number.0 == timer.number.0) ≡ false → timer_before x timer ≡ false
    low x gone = grind (arith, nat_tests, gone)

    high : (x : Timer) → not (x.number.0 == timer.number.0) ≡ false → timer_before timer x ≡ false
    high x gone = grind (arith, nat_tests, gone)
