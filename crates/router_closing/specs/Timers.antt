-- The timers on an activity after changes.
use Rattle.std.specs.Prelude.{ℕ, ◌+◌, ◌==◌, if◌then◌else◌, List, [], ◌∷◌, ◌++◌, Option, Some, None}
use Rattle.router_state.specs.Timers.{advanced, behind, due_count, goes_on, without_timer}
use Rattle.router_state.specs.declared.change.Change.{Change}
use Rattle.router_state.specs.declared.change.Change.TheVariants as changes
use Rattle.router_state.specs.declared.rows.Timer.{Timer}

-- the timer behind the occurrences that are due at the moment, where it goes on
abbrev pub left_of : Timer → ℕ → Option Timer
left_of t to = if goes_on t (due_count t to) then Some (behind t (due_count t to)) else None

-- the next number, and the timers on the activity
abbrev pub timers_after : Change → ℕ → ℕ × List Timer → ℕ × List Timer
timers_after (changes.SetTimer spec) a seen = (
  seen.0 + 1,
  if spec.activity.0 == a
      then seen.1 ++ record { number = record { 0 = seen.0 }; activity = spec.activity; next = spec.start; period = spec.period; left = spec.times; keep = spec.keep } ∷ []
      else seen.1,
)
timers_after (changes.Cancel t) a seen = (seen.0, without_timer seen.1 t.0)
timers_after (changes.CancelAll a') a seen = (seen.0, if a'.0 == a then [] else seen.1)
timers_after (changes.Advance to) a seen = (seen.0, advanced seen.1 to)
timers_after _ a seen = seen
