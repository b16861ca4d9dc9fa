-- The null activities that a step may have left idle, by its changes and the state with which it began.
use Rattle.std.specs.Prelude.{ℕ, nat_le, List, [], ◌∷◌, ◌++◌, filter, flat_map, map, Option}
use Rattle.std.specs.Option.{option_map_or}
use Rattle.slee_value.specs.declared.ids.ActivityId.{ActivityId}
use Rattle.router_state.specs.State.{State}
use Rattle.router_state.specs.Contexts.{named_at}
use Rattle.router_state.specs.Timers.{timer_at}
use Rattle.router_state.specs.Changes.{after_changes}
use Rattle.router_state.specs.declared.change.Change.{Change}
use Rattle.router_state.specs.declared.change.Change.TheVariants as changes
use Rattle.router_state.specs.declared.rows.Timer.{Timer}
use Rattle.router_laws_closing.specs.TouchedRoots.{numbers_between}

-- an activity, where there is one
abbrev pub this_one : Option ActivityId → List ℕ
this_one a = option_map_or (λ activity. activity.0 ∷ []) a []

-- the activity on which the timer was set
abbrev pub timed_on : List Timer → ℕ → List ℕ
timed_on rows t = option_map_or (λ row. row.activity.0 ∷ []) (timer_at rows t) []

-- the activities on which a timer is due at the moment
abbrev pub due_on : List Timer → ℕ → List ℕ
due_on rows to = map (λ row. row.activity.0) (filter (λ row. nat_le row.next to) rows)

-- the activities from which the change takes an attachment, a name, a timer or an event, or may give one that a later change takes
abbrev pub let_go_by : State → Change → List ℕ
let_go_by s (changes.DropContext a) = a.0 ∷ []
let_go_by s (changes.Detach e a) = a.0 ∷ []
let_go_by s (changes.Bind name a) = a.0 ∷ this_one (named_at s.names name)
let_go_by s (changes.Unbind name) = this_one (named_at s.names name)
let_go_by s (changes.Pop a) = a.0 ∷ []
let_go_by s (changes.SetTimer spec) = spec.activity.0 ∷ []
let_go_by s (changes.Cancel t) = timed_on s.timers t.0
let_go_by s (changes.CancelAll a) = a.0 ∷ []
let_go_by s (changes.Advance to) = due_on s.timers to
let_go_by s _ = []

-- the activities that the changes start, and these
abbrev pub touched_activities : State → List Change → List ℕ
touched_activities s cs = numbers_between s.next_activity (after_changes cs s).next_activity ++ flat_map (let_go_by s) cs
