-- What effects do: the state after each, and the lines that it gives in the state where it is done. They are resolved: what is new has its number.
use Rattle.std.specs.Prelude.{ℕ, List, [], ◌∷◌, ◌++◌, map, codes, Option, option_and_then}
use Rattle.std.specs.Option.{option_map_or}
use Rattle.slee_value.specs.declared.value.Value.{Value}
use Rattle.slee_value.specs.declared.value.Value.TheVariants as values
use Rattle.script_types.specs.declared.codes.RelationCode.{RelationCode}
use Rattle.slee_effect.specs.Resolving.{resolved_effect}
use Rattle.slee_effect.specs.declared.effect.Effect.{Effect}
use Rattle.slee_effect.specs.declared.effect.Effect.TheVariants as effects
use Rattle.slee_effect.specs.declared.next.Next.{Next}
use Rattle.slee_effect.specs.declared.reference.Ref.{Ref}
use Rattle.slee_effect.specs.declared.reference.Ref.TheVariants as references
use Rattle.slee_effect.specs.declared.value.Val.{Val}
use Rattle.slee_effect.specs.declared.value.Val.TheVariants as vals
use Rattle.script_meaning.specs.Removal.{said}
use Rattle.deploy_model.specs.Deployed.{relation_of, service_named}
use Rattle.router_state.specs.State.{State}
use Rattle.router_state.specs.Changes.{after_change}
use Rattle.router_state.specs.Queues.{head_event}
use Rattle.router_state.specs.Trees.{entity_at}
use Rattle.router_state.specs.declared.change.Change.TheVariants as changes
use Rattle.router_state.specs.declared.rows.AcKind.TheVariants as kinds
use Rattle.router_state.specs.declared.rows.Entity.{Entity}
use Rattle.router_steps.specs.Creating.{with_child}
use Rattle.router_steps.specs.Going.{tree_removed, lines_of_tree_removed}
use Rattle.router_steps.specs.Lines.{created_line, started_line, timer_line, usage_line, suspended_line}
use Rattle.router_steps.specs.Moves.{queued, lines_of_queued, ended, lines_of_ended, attached, lines_of_attached, detached, lines_of_detached, resumed, lines_of_resumed}

-- the number of a resolved reference; 0 stands for one that isn't
abbrev pub number_in : Ref → ℕ
number_in (references.Known n) = n
number_in (references.Fresh place) = 0

-- the value of a resolved effect
abbrev pub plain : Val → Value
plain (vals.Plain value) = value
plain (vals.NewActivity place) = values.Activity (record { 0 = 0 })
plain (vals.NewTimer place) = values.Timer (record { 0 = 0 })

-- a field of a resolved event
abbrev pub plain_field : List ℕ × Val → List ℕ × Value
plain_field field = (field.0, plain field.1)

-- the relation of an entity's block
abbrev pub relation_at : State → ℕ → List ℕ → Option RelationCode
relation_at s e relation = option_and_then (λ (row : Entity). relation_of s.deployment row.block relation) (entity_at s.entities e)

-- the number of the service that an event is for, where it is for one alone
abbrev pub service_for : State → Option (List ℕ) → Option ℕ
service_for s service = option_and_then (service_named s.deployment) service

-- the state after an effect
abbrev pub after_effect : Effect → State → State
after_effect (effects.SetField entity name value) s = after_change (changes.SetField (record { 0 = number_in entity }) name (plain value)) s
after_effect (effects.SetAttr activity key value) s = after_change (changes.SetAttr (record { 0 = number_in activity }) key (plain value)) s
after_effect (effects.Create parent relation priority) s =
    option_map_or (λ (r : RelationCode). with_child s (number_in parent) relation r.block priority) (relation_at s (number_in parent) relation) s
after_effect (effects.Remove entity) s = tree_removed s (number_in entity)
after_effect (effects.SetPriority entity priority) s = after_change (changes.SetPriority (record { 0 = number_in entity }) priority) s
after_effect (effects.Attach entity activity) s = attached s (number_in entity) (number_in activity)
after_effect (effects.Detach entity activity) s = detached s (number_in entity) (number_in activity)
after_effect (effects.SetMask entity activity event on) s =
    after_change (changes.SetMask (record { 0 = number_in entity }) (record { 0 = number_in activity }) event on) s
after_effect (effects.Fire activity event service fields) s = queued s (number_in activity) event (map plain_field fields) (service_for s service)
after_effect effects.NewNull s = after_change (changes.Start kinds.Null) s
after_effect (effects.EndNull activity) s = ended s (number_in activity)
after_effect (effects.SetTimer activity start period times keep) s =
    after_change (changes.SetTimer (record { activity = record { 0 = number_in activity }; start = start; period = period; times = times; keep = keep })) s
after_effect (effects.CancelTimer timer) s = after_change (changes.Cancel (record { 0 = number_in timer })) s
after_effect (effects.Bind name activity) s = after_change (changes.Bind name (record { 0 = number_in activity })) s
after_effect (effects.Unbind name) s = after_change (changes.Unbind name) s
after_effect (effects.Emit entity text) s = s
after_effect (effects.Usage entity name amount) s = s
after_effect (effects.Suspend activity until) s = after_change (changes.Hold (record { 0 = number_in activity }) until) s
after_effect (effects.Resume activity) s = resumed s (number_in activity)

-- the line of a suspension, which names the head event
abbrev pub lines_of_suspended : State → ℕ → ℕ → List (List ℕ)
lines_of_suspended s a until = option_map_or (λ v. suspended_line v.id.0 a until ∷ []) (head_event s.events a) []

-- the lines of an effect, in the state where it is done
abbrev pub lines_of_effect : Effect → State → List (List ℕ)
lines_of_effect (effects.SetField entity name value) s = []
lines_of_effect (effects.SetAttr activity key value) s = []
lines_of_effect (effects.Create parent relation priority) s = created_line s.next_entity (number_in parent) relation ∷ []
lines_of_effect (effects.Remove entity) s = lines_of_tree_removed s (number_in entity)
lines_of_effect (effects.SetPriority entity priority) s = []
lines_of_effect (effects.Attach entity activity) s = lines_of_attached s (number_in entity) (number_in activity)
lines_of_effect (effects.Detach entity activity) s = lines_of_detached s (number_in entity) (number_in activity)
lines_of_effect (effects.SetMask entity activity event on) s = []
lines_of_effect (effects.Fire activity event service fields) s = lines_of_queued s (number_in activity) event
lines_of_effect effects.NewNull s = started_line s.next_activity (codes "null") ∷ []
lines_of_effect (effects.EndNull activity) s = lines_of_ended s (number_in activity)
lines_of_effect (effects.SetTimer activity start period times keep) s = timer_line s.next_timer (number_in activity) ∷ []
lines_of_effect (effects.CancelTimer timer) s = []
lines_of_effect (effects.Bind name activity) s = []
lines_of_effect (effects.Unbind name) s = []
lines_of_effect (effects.Emit entity text) s = said (record { 0 = number_in entity }) text ∷ []
lines_of_effect (effects.Usage entity name amount) s = usage_line (number_in entity) name amount ∷ []
lines_of_effect (effects.Suspend activity until) s = lines_of_suspended s (number_in activity) until
lines_of_effect (effects.Resume activity) s = lines_of_resumed s (number_in activity)

-- the state after effects, the first of them first
abbrev pub after_effects : List Effect → State → State
after_effects [] s = s
after_effects (x ∷ xs) s = after_effects xs (after_effect x s)

-- their lines, each in the state where it is done
abbrev pub lines_of_effects : List Effect → State → List (List ℕ)
lines_of_effects [] s = []
lines_of_effects (x ∷ xs) s = lines_of_effect x s ++ lines_of_effects xs (after_effect x s)

-- the next numbers of a state
abbrev pub next_in : State → Next
next_in s = record { entity = s.next_entity; activity = s.next_activity; timer = s.next_timer }

-- a run's effects in a state, what is new with the numbers that come next there
abbrev pub resolved_in : State → List Effect → List Effect
resolved_in s xs = map (resolved_effect (next_in s)) xs
