-- Null activities that may be idle when a step is closed.
use Rattle.std.specs.Prelude.{◌≡◌, ℕ, ◌==◌, Bool, true, false, not, ◌&&◌, ◌||◌, List, [], ◌∷◌}
use Rattle.std.specs.List.{list_any}
use Rattle.std.specs.Str.{bytes_eq}
use Rattle.router_state.specs.State.{State}
use Rattle.router_state.specs.Timers.{goes_on, due_count}
use Rattle.router_state.specs.Changes.{after_change}
use Rattle.router_state.specs.declared.change.Change.{Change}
use Rattle.router_state.specs.declared.change.Change.TheVariants as changes
use Rattle.router_steps.specs.Closing.{is_idle_at}

-- the activity is made by the change, or something goes by which it was in use
abbrev pub releases : Change → State → ℕ → Bool
releases (changes.Start kind) s a = s.next_activity == a
releases (changes.DropContext a') s a = a'.0 == a
releases (changes.Detach e a') s a = a'.0 == a
releases (changes.Bind name a') s a = list_any (λ row. bytes_eq row.name name && (row.activity.0 == a)) s.names
releases (changes.Unbind name) s a = list_any (λ row. bytes_eq row.name name && (row.activity.0 == a)) s.names
releases (changes.Pop a') s a = a'.0 == a
releases (changes.Cancel t) s a = list_any (λ row. (row.number.0 == t.0) && (row.activity.0 == a)) s.timers
releases (changes.CancelAll a') s a = a'.0 == a
releases (changes.Advance to) s a = list_any (λ row. not (goes_on row (due_count row to)) && (row.activity.0 == a)) s.timers
releases _ s a = false

-- one of the changes does so at its turn
abbrev pub released_by : List Change → State → ℕ → Bool
released_by [] s a = false
released_by (c ∷ cs) s a = releases c s a || released_by cs (after_change c s) a

-- the activities that are idle are among these
abbrev pub AreIdleAmong : (ℕ → Bool) → State → Type 0
AreIdleAmong among s = (a : ℕ) → is_idle_at s a ≡ true → among a ≡ true
