-- Null activities that aren't in use.
use Rattle.std.proofs.Common.{◌≡◌, ℕ, ◌==◌, ◌⊎◌, Bool, true, false, not, List, [], ◌∷◌, ◌++◌, Option, Some, None, option_map, refl, sym, ◌∙◌, ap, inl, inr}
use Rattle.std.specs.Prelude.{◌&&◌}
use Rattle.std.specs.Option.{option_map_or}
use Rattle.std.proofs.lemmas.Bool.{cases_Bool, and_parts, eqb-true}
use Rattle.router_state.specs.State.{State}
use Rattle.router_state.specs.Closed.{is_in_use}
use Rattle.router_state.specs.Contexts.{activity_at, is_active, is_null}
use Rattle.router_state.specs.Timers.{timer_at}
use Rattle.router_state.specs.declared.rows.Activity.{Activity}
use Rattle.router_state.specs.declared.rows.Timer.{Timer}
use Rattle.router_steps.specs.Applying.{is_active_null}
use Rattle.router_steps.specs.Closing.{is_idle, is_idle_at}
use Rattle.router_laws_closing.specs.TouchedActivities.{this_one, timed_on}

-- the activity on which a timer is set
pub timed_is : (rows : List Timer) (t : ℕ) → this_one (option_map (λ (row : Timer). row.activity) (timer_at rows t)) ≡ timed_on rows t
timed_is rows t = by (timer_at rows t)
  where
    by : (o : Option Timer) → this_one (option_map (λ (row : Timer). row.activity) o) ≡ option_map_or (λ (row : Timer). row.activity.0 ∷ []) o []
    by (Some row) = refl
    by None = refl

pub pushed_two : (xs ys : List ℕ) (x : ℕ) → (xs ++ x ∷ []) ++ ys ≡ xs ++ x ∷ ys
pushed_two [] ys x = refl
pushed_two (y ∷ xs) ys x = ap (λ zs. y ∷ zs) (pushed_two xs ys x)

-- what is found has its number
number_of_found : (rows : List Activity) (a : ℕ) (row : Activity) → activity_at rows a ≡ Some row → row.number.0 ≡ a
number_of_found [] a row is = absurd (cc)
number_of_found (x ∷ xs) a row is = elim (cases_Bool (x.number.0 == a)) [
  | inl own ↦ let same : Some x ≡ Some row = rw own at is in ap (λ o. option_map_or (λ (r : Activity). r.number.0) o 0) (sym same) ∙ eqb-true x.number.0 a own
  | inr other ↦ number_of_found xs a row (rw other at is)
]

found_or_not : (o : Option Activity) → ((row : Activity) × (o ≡ Some row)) ⊎ (o ≡ None)
found_or_not (Some row) = inl (row, refl)
found_or_not None = inr refl

-- idle is Active null and not in use
idle_split : (s : State) (a : ℕ) → is_idle_at s a ≡ (is_active_null s a && not (is_in_use s.links s.names s.timers s.events a))
idle_split s a = elim (found_or_not (activity_at s.activities a)) [
  | inl found ↦
      let number = number_of_found s.activities a found.0 found.1 in
      ap (λ o. option_map_or (is_idle s) o false) found.1
      ∙ regroup (is_null found.0.kind) (not found.0.ending) (not (is_in_use s.links s.names s.timers s.events found.0.number.0))
      ∙ ap (λ n. (is_null found.0.kind && not found.0.ending) && not (is_in_use s.links s.names s.timers s.events n)) number
      ∙ ap (λ o. option_map_or (λ (row : Activity). is_null row.kind && not row.ending) o false && not (is_in_use s.links s.names s.timers s.events a)) (sym found.1)
  | inr none ↦ ap (λ o. option_map_or (is_idle s) o false) none ∙ ap (λ o. option_map_or (λ (row : Activity). is_null row.kind && not row.ending) o false && not (is_in_use s.links s.names s.timers s.events a)) (sym none)
]
  where
    regroup : (p q r : Bool) → (p && (q && r)) ≡ ((p && q) && r)
    regroup true q r = refl
    regroup false q r = refl

pub idle_is : (s : State) (a : ℕ) → is_active_null s a ≡ true → not (is_in_use s.links s.names s.timers s.events a) ≡ is_idle_at s a
idle_is s a null = sym (idle_split s a ∙ ap (λ b. b && not (is_in_use s.links s.names s.timers s.events a)) null)

pub idle_isnt : (s : State) (a : ℕ) → is_active_null s a ≡ false → is_idle_at s a ≡ false
idle_isnt s a other = idle_split s a ∙ ap (λ b. b && not (is_in_use s.links s.names s.timers s.events a)) other

-- an idle activity is Active
pub idle_active : (s : State) (a : ℕ) → is_idle_at s a ≡ true → is_active s.activities a ≡ true
idle_active s a idle = by (activity_at s.activities a) idle
  where
    by : (o : Option Activity) → option_map_or (is_idle s) o false ≡ true → option_map_or (λ (row : Activity). not row.ending) o false ≡ true
    by None idle = absurd (cc)
    by (Some row) idle =
        let parts = and_parts (is_null row.kind) (not row.ending && not (is_in_use s.links s.names s.timers s.events row.number.0)) idle in
        (and_parts (not row.ending) (not (is_in_use s.links s.names s.timers s.events row.number.0)) parts.1).0

-- an Active null activity, by what is read of it
abbrev is_so : Option (Bool × Bool) → Bool
is_so o = option_map_or (λ seen. seen.0 && not seen.1) o false

pub active_null : (s : State) (a : ℕ) → is_active_null s a ≡ option_map_or (λ (seen : Bool × Bool). seen.0 && not seen.1) (option_map (λ (row : Activity). (is_null row.kind, row.ending)) (activity_at s.activities a)) false
active_null s a = by (activity_at s.activities a)
  where
    by : (o : Option Activity) → option_map_or (λ (row : Activity). is_null row.kind && not row.ending) o false ≡ option_map_or (λ (seen : Bool × Bool). seen.0 && not seen.1) (option_map (λ (row : Activity). (is_null row.kind, row.ending)) o) false
    by (Some row) = refl
    by None = refl
