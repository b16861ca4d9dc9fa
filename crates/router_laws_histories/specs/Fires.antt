-- Which events the parts of a step put on queues, in order: each with the activity on which it waits.
use Rattle.std.specs.Prelude.{ℕ, ◌==◌, List, [], ◌∷◌, ◌++◌, filter, map, codes, if◌then◌else◌, Option, Some, None, Result, Ok, Err}
use Rattle.built_in_events.specs.declared.built_in.BuiltInEvent.TheVariants as built_in_events
use Rattle.built_in_events.specs.BuiltIn.{name_of as built_in_name}
use Rattle.slee_value.specs.declared.value.Value.{Value}
use Rattle.slee_value.specs.declared.value.Value.TheVariants as values
use Rattle.slee_effect.specs.declared.effect.Effect.{Effect}
use Rattle.slee_effect.specs.declared.effect.Effect.TheVariants as effects
use Rattle.router_state.specs.State.{State}
use Rattle.router_state.specs.Changes.{after_change}
use Rattle.router_state.specs.Contexts.{is_active}
use Rattle.router_state.specs.Initial.{table_activity}
use Rattle.router_state.specs.Queues.{activity_end}
use Rattle.router_state.specs.declared.change.Change.TheVariants as changes
use Rattle.router_state.specs.declared.rows.Event.{Event}
use Rattle.router_steps.specs.Actions.{Action, StartActivity, EndActivity, FireEvent, SetClock, ActivateService, StopService, ChangeRow, change_of_row, event_of_row}
use Rattle.router_steps.specs.Closing.{activity_numbers, close_null, is_idle_at, without_loose, without_stopped}
use Rattle.router_steps.specs.Effects.{after_effect, number_in, plain_field, service_for}
use Rattle.router_steps.specs.Taking.{occurred, all_resumed}
use Rattle.router_state.specs.Timing.{Occurrence}
use Rattle.router_steps.specs.declared.refusal.Refusal.{Refusal}

-- an activity, and an event that was put on it
abbrev pub Firing : Type 0
Firing = ℕ × Event

-- those on an activity
abbrev pub fired_on : ℕ → List Firing → List Event
fired_on a fires = map (λ x. x.1) (filter (λ x. x.0 == a) fires)

-- an event with the next number
abbrev pub fires_of_queued : State → ℕ → List ℕ → List (List ℕ × Value) → Option ℕ → List Firing
fires_of_queued s a event fields target = (a, record { id = record { 0 = s.next_event }; name = event; fields = fields; target = target }) ∷ []

-- the end of an activity
abbrev pub fires_of_ended : State → ℕ → List Firing
fires_of_ended s a = fires_of_queued s a activity_end [] None

-- what an effect fires
abbrev pub fires_of_effect : Effect → State → List Firing
fires_of_effect (effects.SetField entity name value) s = []
fires_of_effect (effects.SetAttr activity key value) s = []
fires_of_effect (effects.Create parent relation priority) s = []
fires_of_effect (effects.Remove entity) s = []
fires_of_effect (effects.SetPriority entity priority) s = []
fires_of_effect (effects.Attach entity activity) s = []
fires_of_effect (effects.Detach entity activity) s = []
fires_of_effect (effects.SetMask entity activity event on) s = []
fires_of_effect (effects.Fire activity event service fields) s = fires_of_queued s (number_in activity) event (map plain_field fields) (service_for s service)
fires_of_effect effects.NewNull s = []
fires_of_effect (effects.EndNull activity) s = fires_of_ended s (number_in activity)
fires_of_effect (effects.SetTimer activity start period times keep) s = []
fires_of_effect (effects.CancelTimer timer) s = []
fires_of_effect (effects.Bind name activity) s = []
fires_of_effect (effects.Unbind name) s = []
fires_of_effect (effects.Emit entity text) s = []
fires_of_effect (effects.Usage entity name amount) s = []
fires_of_effect (effects.Suspend activity until) s = []
fires_of_effect (effects.Resume activity) s = []

-- the same of effects, one after another
abbrev pub fires_of_effects : List Effect → State → List Firing
fires_of_effects [] s = []
fires_of_effects (x ∷ xs) s = fires_of_effect x s ++ fires_of_effects xs (after_effect x s)

-- the end of a null activity that isn't in use
abbrev pub fires_of_null : ℕ → State → List Firing
fires_of_null a s = if is_idle_at s a then fires_of_ended s a else []

-- the same of several, one after another
abbrev pub fires_of_nulls : List ℕ → State → List Firing
fires_of_nulls [] s = []
fires_of_nulls (a ∷ rest) s = fires_of_null a s ++ fires_of_nulls rest (close_null a s)

-- what closing fires: the ends of null activities
abbrev pub fires_of_closing : State → List Firing
fires_of_closing s = let t = without_stopped (without_loose s) in fires_of_nulls (activity_numbers t) t

-- an occurrence of a timer
abbrev pub fires_of_occurrence : Occurrence → State → List Firing
fires_of_occurrence x s = fires_of_queued s x.activity (built_in_name built_in_events.Timer) ((codes "which", values.Timer (record { 0 = x.timer })) ∷ []) None

-- the same of several, one after another
abbrev pub fires_of_occurrences : List Occurrence → State → List Firing
fires_of_occurrences [] s = []
fires_of_occurrences (x ∷ xs) s = fires_of_occurrence x s ++ fires_of_occurrences xs (occurred x s)

-- the end of an activity where it is Active
abbrev pub fires_of_ended_if : ℕ → State → List Firing
fires_of_ended_if a s = if is_active s.activities a then fires_of_ended s a else []

-- what a line fires
abbrev pub fires_of_action : Action → State → List Firing
fires_of_action (StartActivity name) s = []
fires_of_action (EndActivity a) s = fires_of_ended s a
fires_of_action (FireEvent a event fields target) s = fires_of_queued s a event fields target
fires_of_action (SetClock to suspensions occurrences) s =
    fires_of_occurrences occurrences (after_change (changes.Advance to) (all_resumed suspensions (after_change (changes.Clock to) s)))
fires_of_action (ActivateService n) s = fires_of_queued s s.next_activity (built_in_name built_in_events.ServiceStarted) [] (Some n)
fires_of_action (StopService n a) s = fires_of_ended_if a s
fires_of_action (ChangeRow table row change) s =
    fires_of_queued (after_change (change_of_row table row change) s) (table_activity table) (event_of_row change) ((codes "row", values.Text row) ∷ []) None

-- the same, and nothing where the line is refused
abbrev pub fires_of_taken : Result Action Refusal → State → List Firing
fires_of_taken (Ok x) s = fires_of_action x s
fires_of_taken (Err why) s = []
