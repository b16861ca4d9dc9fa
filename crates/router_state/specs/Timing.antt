-- What a clock line fires: occurrences of timers that are due, and suspensions that end (JSR 240, chapter 13, has timers and their options).
use Rattle.std.specs.Prelude.{ℕ, zero, suc, ◌+◌, ◌-◌, ◌*◌, min, Bool, false, ◌==◌, nat_le, if◌then◌else◌, List, map, filter, sum}
use Rattle.std.specs.List.{flat_map, range_with_len}
use Rattle.slee_value.specs.declared.keep.Keep.{Keep}
use Rattle.slee_value.specs.declared.keep.Keep.TheVariants as keeps
use Rattle.rows_sorted.specs.Orders.{pair_before, sorted}
use Rattle.router_state.specs.Timers.{due_count}
use Rattle.router_state.specs.declared.rows.Suspension.{Suspension}
use Rattle.router_state.specs.declared.rows.Timer.{Timer}

-- the moment of a timer's occurrence, counted from 0 among those that are left
abbrev pub moment_of : Timer → ℕ → ℕ
moment_of t k = t.next + k * t.period

-- the last of so many occurrences is at the moment
abbrev pub is_last_at : ℕ → Timer → ℕ → Bool
is_last_at to t zero = false
is_last_at to t (suc k) = moment_of t k == to

-- of so many due occurrences, how many are fired: all, the latest, or that at the very moment
abbrev pub kept_count : Keep → ℕ → Timer → ℕ → ℕ
kept_count keeps.All to t n = n
kept_count keeps.Last to t n = min 1 n
kept_count keeps.NoneMissed to t n = if is_last_at to t n then 1 else 0

-- how many occurrences of a timer a clock line fires
abbrev pub fired_count : ℕ → Timer → ℕ
fired_count to t = kept_count t.keep to t (due_count t to)

-- how many occurrences a clock line fires
abbrev pub fired_in_all : ℕ → List Timer → ℕ
fired_in_all to timers = sum (map (fired_count to) timers)

-- how many occurrences one clock line may fire
abbrev pub occurrence_limit : ℕ
occurrence_limit = 10000

-- an occurrence that is fired: its moment, its timer, and that timer's activity
pub record Occurrence : Type 0 where
  pub moment : ℕ
  pub timer : ℕ
  pub activity : ℕ

-- a timer's occurrence of this place
abbrev pub occurrence_of : Timer → ℕ → Occurrence
occurrence_of t k = record { moment = moment_of t k; timer = t.number.0; activity = t.activity.0 }

-- the occurrences of a timer that are fired: the last of the due ones
abbrev pub fired_of : ℕ → Timer → List Occurrence
fired_of to t = map (occurrence_of t) (range_with_len (due_count t to - fired_count to t) (fired_count to t))

-- by moment, then by timer
abbrev pub occurrence_before : Occurrence → Occurrence → Bool
occurrence_before x y = pair_before x.moment x.timer y.moment y.timer

-- the occurrences that a clock line fires, in order
abbrev pub fired : ℕ → List Timer → List Occurrence
fired to timers = sorted occurrence_before (flat_map (fired_of to) timers)

-- by moment, then by activity
abbrev pub ends_before : Suspension → Suspension → Bool
ends_before x y = pair_before x.until x.activity.0 y.until y.activity.0

-- the suspensions that end at a moment, in order
abbrev pub ending_suspensions : ℕ → List Suspension → List Suspension
ending_suspensions to rows = sorted ends_before (filter (λ row. nat_le row.until to) rows)
