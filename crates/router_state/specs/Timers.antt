-- Timers: what is read of them, and how they change (JSR 240, chapter 13). Moments stand at 4,000,000,000,000,000 at most.
use Rattle.std.specs.Prelude.{ℕ, ◌+◌, ◌*◌, ◌-◌, ◌/◌, ◌==◌, nat_lt, nat_le, Bool, ◌&&◌, ◌||◌, not, if◌then◌else◌, min, List, [], ◌∷◌, ◌++◌, map, filter, find, Option}
use Rattle.router_state.specs.declared.rows.Timer.{Timer}
use Rattle.router_state.specs.declared.rows.TimerSpec.{TimerSpec}

-- the last moment there is
abbrev pub last_moment : ℕ
last_moment = 4000000000000000

-- the timer of this number
abbrev pub timer_at : List Timer → ℕ → Option Timer
timer_at rows t = find (λ row. row.number.0 == t) rows

-- A new timer has the greatest number, and so stands last.
abbrev pub with_timer : List Timer → ℕ → TimerSpec → List Timer
with_timer timers t spec =
    timers ++ record { number = record { 0 = t }; activity = spec.activity; next = spec.start; period = spec.period; left = spec.times; keep = spec.keep } ∷ []

-- no timer of this number
abbrev pub without_timer : List Timer → ℕ → List Timer
without_timer timers t = filter (λ row. not (row.number.0 == t)) timers

-- no timers on the activity
abbrev pub without_timers_on : List Timer → ℕ → List Timer
without_timers_on timers a = filter (λ row. not (row.activity.0 == a)) timers

-- how many occurrences are due at or before a moment, where the timer has a period and is due
abbrev pub repeated : Timer → ℕ → ℕ
repeated t to = (to - t.next) / t.period + 1

-- how many of its occurrences are due at or before the moment; 0 left means that there is no end
abbrev pub due_count : Timer → ℕ → ℕ
due_count t to =
    if nat_lt to t.next then 0
    else (if t.period == 0 then 1 else (if t.left == 0 then repeated t to else min (repeated t to) t.left))

-- how many occurrences are left behind those that are used up, and 0 where there is no end
abbrev pub left_behind : Timer → ℕ → ℕ
left_behind t used = if t.left == 0 then 0 else t.left - used

-- the timer behind so many of its occurrences
abbrev pub behind : Timer → ℕ → Timer
behind t used = record t { next = t.next + used * t.period; left = left_behind t used }

-- behind so many occurrences there is another one
abbrev pub goes_on : Timer → ℕ → Bool
goes_on t used = (used == 0) || ((t.left == 0 || nat_lt used t.left) && nat_le (t.next + used * t.period) last_moment)

-- the timers after a moment: the due occurrences are used up, and a timer without an occurrence left is gone
abbrev pub advanced : List Timer → ℕ → List Timer
advanced timers to = map (λ t. behind t (due_count t to)) (filter (λ t. goes_on t (due_count t to)) timers)
