-- What a state holds of what a run refers to, and what a run is told of it.
use Rattle.std.specs.Prelude.{◌≡◌, ℕ, ℤ, pos, List, map, bytes_eq, Bool, Option, Some, option_and_then, option_map}
use Rattle.std.specs.List.{list_any}
use Rattle.std.specs.Option.{option_map_or}
use Rattle.slee_value.specs.declared.kind.Kind.{Kind}
use Rattle.slee_value.specs.declared.value.Value.{Value}
use Rattle.slee_effect.specs.Resolving.{resolved_ref}
use Rattle.slee_effect.specs.declared.effect.Effect.{Effect}
use Rattle.slee_effect.specs.declared.effect.Effect.TheVariants as effects
use Rattle.slee_effect.specs.declared.next.Next.{Next}
use Rattle.slee_effect.specs.declared.reference.Ref.{Ref}
use Rattle.slee_effect.specs.declared.reference.Ref.TheVariants.{Known}
use Rattle.slee_effect.specs.declared.value.Val.{Val}
use Rattle.script_meaning.specs.Answers as answer
use Rattle.script_meaning.specs.Answers.{held_in}
use Rattle.script_meaning.specs.Observing as read
use Rattle.script_meaning.specs.declared.key.Key.{Key}
use Rattle.script_meaning.specs.declared.key.Key.TheVariants as keys
use Rattle.script_meaning.specs.declared.seen.Seen.{Seen}
use Rattle.script_meaning.specs.declared.seen.Seen.TheVariants as seen
use Rattle.deploy_model.specs.Deployed.{Deployed, masked_on_attach}
use Rattle.router_laws_effects.specs.Runs.{IsOld}
use Rattle.router_state.specs.Contexts.{activities_of, attribute_at}
use Rattle.router_state.specs.Fields.{field_at}
use Rattle.router_state.specs.Look.{masks_seen}
use Rattle.router_state.specs.State.{State}
use Rattle.router_state.specs.Timers.{timer_at}
use Rattle.router_state.specs.Trees.{entity_at}
use Rattle.router_state.specs.declared.rows.Entity.{Entity}
use Rattle.router_state.specs.declared.rows.Timer.{Timer}
use Rattle.router_steps.specs.Effects.{number_in}
use Rattle.router_steps.specs.Scripts.{answers_in}

-- what is held, as a run is told of it: where nothing was set, the first value of its kind
abbrev pub held : Kind → Option Value → Val
held kind o = held_in kind (Some (seen.Held o))

-- what an attribute of an activity holds
abbrev pub attribute_held : Next → Kind → State → Ref → List ℕ → Val
attribute_held next kind s a key = held kind (attribute_at s.attributes (number_in (resolved_ref next.activity a)) key)

-- what a field of an entity holds
abbrev pub field_held : Next → Kind → State → Ref → List ℕ → Val
field_held next kind s e name = held kind (field_at s.fields (number_in (resolved_ref next.entity e)) name)

-- the priority of an entity, and 0 where it isn't there
abbrev pub priority_held : Next → State → Ref → ℤ
priority_held next s e = option_map_or (λ (row : Entity). row.priority) (entity_at s.entities (number_in (resolved_ref next.entity e))) (pos 0)

-- the events that an entity masks on an activity to which it is attached
abbrev pub masks_held : Next → State → Ref → Ref → Option (List (List ℕ))
masks_held next s e a = masks_seen s (number_in (resolved_ref next.entity e)) (number_in (resolved_ref next.activity a))

-- the number of the activity on which a timer stands
abbrev pub timer_held : Next → State → Ref → Option ℕ
timer_held next s t = option_map (λ (row : Timer). row.activity.0) (timer_at s.timers (number_in (resolved_ref next.timer t)))

-- the numbers of the activities to which an entity is attached
abbrev pub activities_held : Next → State → Ref → List ℕ
activities_held next s e = activities_of s.links (number_in (resolved_ref next.entity e))

-- the numbers of the activities that a run refers to
abbrev pub activity_numbers : Next → List Ref → List ℕ
activity_numbers next refs = map (λ r. number_in (resolved_ref next.activity r)) refs

-- what a state tells a run at a key; what is new has no key, and of it nothing is told
abbrev pub told : State → Option Key → Option Seen
told s key = option_and_then (answers_in s) key

-- of a field, with the first value of its kind where nothing was set
abbrev pub field_told : State → Kind → Ref → List ℕ → Val
field_told s kind e name = held_in kind (told s (read.key_of (λ n. keys.Field (record { 0 = n }) name) e))

-- of a priority
abbrev pub priority_told : State → Ref → ℤ
priority_told s e = answer.number_in (told s (read.key_of (λ n. keys.Priority (record { 0 = n })) e))

-- of the events that an entity masks on an activity
abbrev pub masks_told : State → Ref → Ref → Option (List (List ℕ))
masks_told s e a = answer.masks_in (told s (read.key_of_two (λ m n. keys.Mask (record { 0 = m }) (record { 0 = n })) e a))

-- of the activity on which a timer stands
abbrev pub timer_told : State → Ref → Option Ref
timer_told s t = answer.refers_in (told s (read.key_of (λ n. keys.Timer (record { 0 = n })) t))

-- of the activities to which an entity is attached
abbrev pub activities_told : State → Ref → List Ref
activities_told s e = map Known (answer.ids_in (told s (read.key_of (λ n. keys.Activities (record { 0 = n })) e)))

-- Whether an event is among masks: all that a script can ask of them, whose order it doesn't see. None where the entity isn't attached.
abbrev pub has_mask : List ℕ → Option (List (List ℕ)) → Option Bool
has_mask event names = option_map (list_any (bytes_eq event)) names

-- attaching an entity of the block masks an event just where these names have it
abbrev pub BeginsWith : Deployed → List ℕ → List (List ℕ) → ℕ → Type 0
BeginsWith d event first block = list_any (bytes_eq event) (masked_on_attach d block) ≡ list_any (bytes_eq event) first

-- an activity whose attribute is set was drawn before the run, or is made by it
abbrev pub SetsOld : ℕ → Effect → Type 0
SetsOld next (effects.SetAttr activity key value) = IsOld next activity
SetsOld next _ = Unit {0}

-- a timer that is cancelled was drawn before the run, or is made by it
abbrev pub CancelsOld : ℕ → Effect → Type 0
CancelsOld next (effects.CancelTimer timer) = IsOld next timer
CancelsOld next _ = Unit {0}
