-- Timers found by their numbers, and what goes and stays.
use Rattle.std.proofs.Common.{◌≡◌, ℕ, ◌==◌, Bool, true, false, List, Option, Some, None, refl, ap, ◌∙◌, inl, inr}
use Rattle.std.specs.Prelude.{not}
use Rattle.std.specs.List.{AllByRecursion}
use Rattle.std.specs.Option.{option_map_or}
use Rattle.std.proofs.lemmas.Bool.{cases_Bool}
use Rattle.router_state.specs.Timers.{timer_at, without_timer, without_timers_on}
use Rattle.router_state.specs.declared.rows.Timer.{Timer}
use Rattle.router_state.specs.Keys.{timer_key}
use Rattle.rows_sorted.specs.Keys.{Rises}
use Rattle.rows_sorted.proofs.OrderLemmas.{all_from_all}
use Rattle.rows_index.proofs.FoundLemmas.{each_found, only_found}
use Rattle.rows_index.proofs.RowLemmas.{filter_behind}

-- each timer is found by its number
pub each_timer : (rows : List Timer) → Rises timer_key rows → AllByRecursion (λ row. timer_at rows row.number.0 ≡ Some row) rows
each_timer rows rises = each_found (λ (row : Timer). row.number.0) timer_key (λ x. refl) rows rises

pub only_timer : (n : ℕ) (found : Timer) (rows : List Timer) → Rises timer_key rows → timer_at rows n ≡ Some found → AllByRecursion (λ row. (row.number.0 == n) ≡ true → row ≡ found) rows
only_timer n found rows rises is = only_found (λ (row : Timer). row.number.0) timer_key (λ x. refl) n found rows rises is

-- the others on the activity stay to be cut
pub cut_on_later : (n a : ℕ) (found : Timer) (rows : List Timer) → Rises timer_key rows → timer_at rows n ≡ Some found → (found.activity.0 == a) ≡ true
    → without_timers_on (without_timer rows n) a ≡ without_timers_on rows a
cut_on_later n a found rows rises is on =
    filter_behind (λ row. not (row.activity.0 == a)) (λ row. not (row.number.0 == n)) rows
    (all_from_all (λ row. (row.number.0 == n) ≡ true → row ≡ found) (λ row. not (row.number.0 == n) ≡ false → not (row.activity.0 == a) ≡ false) one rows (only_timer n found rows rises is))
  where
    one : (row : Timer) → ((row.number.0 == n) ≡ true → row ≡ found) → not (row.number.0 == n) ≡ false → not (row.activity.0 == a) ≡ false
    one row only goes = elim (cases_Bool (row.number.0 == n)) [
      | inl mine ↦ ap (λ (t : Timer). not (t.activity.0 == a)) (only mine) ∙ ap not on
      | inr other ↦ let wrong : true ≡ false = rw other at goes in cc
    ]

-- what is found under the number, where it passes
pub found_there : (p : Timer → Bool) (rows : List Timer) (n : ℕ) → option_map_or p (timer_at rows n) false ≡ true → (found : Timer) × (timer_at rows n ≡ Some found) × (p found ≡ true)
found_there p rows n passes = by (timer_at rows n) refl passes
  where
    by : (at : Option Timer) → timer_at rows n ≡ at → option_map_or p at false ≡ true → (found : Timer) × (timer_at rows n ≡ Some found) × (p found ≡ true)
    by None is passes = cc
    by (Some found) is passes = (found, is, passes)
