-- How timers are kept with their indices.
use Rattle.std.specs.Prelude.{ℕ, ◌≡◌, ◌==◌, ◌&&◌, ◌||◌, IsTrue, min, List, [], ◌∷◌, Option, Some, None, Bool, true, false, if◌then◌else◌, filter, map, nat_le, not}
use Rattle.std.specs.List.{list_any}
use Rattle.std.specs.Option.{option_map_or}
use Rattle.router_state.specs.Timers.{timer_at, behind, due_count, goes_on}
use Rattle.router_state.specs.declared.rows.Timer.{Timer}
use Rattle.router_state.specs.Timing.{Occurrence, fired_count, fired_of}
use Rattle.router_state.specs.Keys.{timer_key}
use Rattle.rows_sorted.specs.Keys.{Rises}
use Rattle.rows_index.specs.Index.{entry_before, IsIndex}
use Rattle.rows_index.specs.declared.entry.Entry.{Entry}
use Rattle.timer_facility.specs.Views.{TimerRowsView}
use Rattle.timer_facility.specs.declared.timer_rows.TimerRows.TheInside.{Inside}

-- a timer under its next moment
abbrev pub moment_entry : Timer → Entry
moment_entry t = record { key = t.next; number = t.number.0 }

-- a timer under its activity
abbrev pub activity_entry : Timer → Entry
activity_entry t = record { key = t.activity.0; number = t.number.0 }

-- the timers, with the room beside each list
abbrev pub rows_seen : Inside → TimerRowsView
rows_seen t = record {
  timers = t.rows.rows;
  room = min t.rows.room (min t.by_moment.room t.by_activity.room);
}

-- the timers rise, and each index has them all
pub record AreIndexed (t : Inside) : Type 0 where
  pub rises : Rises timer_key t.rows.rows
  pub moments : IsIndex moment_entry t.rows.rows t.by_moment.rows
  pub activities : IsIndex activity_entry t.rows.rows t.by_activity.rows

-- the timer has an occurrence that is due
abbrev pub is_due : ℕ → Timer → Bool
is_due to t = nat_le t.next to

-- how many occurrences of the timer of this number are fired
abbrev pub fired_count_at : List Timer → ℕ → Entry → ℕ
fired_count_at rows to e = option_map_or (fired_count to) (timer_at rows e.number) 0

-- which occurrences of the timer of this number are fired
abbrev pub fired_at : List Timer → ℕ → Entry → List Occurrence
fired_at rows to e = option_map_or (fired_of to) (timer_at rows e.number) []

-- the timer of the entry's number, where there is one
abbrev pub timers_at : List Timer → Entry → List Timer
timers_at rows e = option_map_or (λ t. t ∷ []) (timer_at rows e.number) []

-- the timer of this number behind its due occurrences, and each other one as it is
abbrev pub moved_on : ℕ → ℕ → Timer → Timer
moved_on n to t = if t.number.0 == n then behind t (due_count t to) else t

-- the timer isn't the one of this number, or it goes on behind its due occurrences
abbrev pub stays_on : ℕ → ℕ → Timer → Bool
stays_on n to t = not (t.number.0 == n) || goes_on t (due_count t to)

-- the timers where the due occurrences of the one of this number are used up, and it is gone if none is left
abbrev pub used_up : ℕ → ℕ → List Timer → List Timer
used_up n to timers = map (moved_on n to) (filter (stays_on n to) timers)

-- the entry stands behind the given one; without one each entry does
abbrev pub is_behind : Option Entry → Entry → Bool
is_behind None e = true
is_behind (Some last) e = entry_before last e

-- the timer is due, and its entry stands behind the given one
abbrev pub is_left : Option Entry → ℕ → Timer → Bool
is_left last to t = is_due to t && is_behind last (moment_entry t)

-- the entry is that of a due timer, and the first one behind the given one
pub record IsNext (last : Option Entry) (to : ℕ) (timers : List Timer) (e : Entry) : Type 0 where
  pub due : IsTrue (nat_le e.key to)
  pub behind : IsTrue (is_behind last e)
  pub own : IsTrue (option_map_or (λ t. t.next == e.key) (timer_at timers e.number) false)
  pub first : list_any (λ t. is_behind last (moment_entry t) && entry_before (moment_entry t) e) timers ≡ false
