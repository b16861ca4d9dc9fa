-- When resolved effects apply: what each refers to is there at its turn, and is as it was declared.
use Rattle.std.specs.Prelude.{ℕ, nat_lt, nat_le, ◌==◌, Bool, true, false, ◌&&◌, ◌||◌, not, if◌then◌else◌, is_some, is_none, IsTrue, List, [], ◌∷◌, Option, map, length}
use Rattle.std.specs.List.{list_any, list_all}
use Rattle.std.specs.Option.{option_map_or}
use Rattle.std.specs.Str.{bytes_eq}
use Rattle.slee_value.specs.declared.kind.Kind.{Kind}
use Rattle.slee_value.specs.declared.value.Value.{Value}
use Rattle.script_types.specs.Codes.{named}
use Rattle.script_types.specs.declared.codes.EventCode.{EventCode}
use Rattle.script_types.specs.declared.codes.FieldCode.{FieldCode}
use Rattle.slee_effect.specs.declared.effect.Effect.{Effect}
use Rattle.slee_effect.specs.declared.effect.Effect.TheVariants as effects
use Rattle.slee_effect.specs.declared.value.Val.{Val}
use Rattle.deploy_model.specs.Deployed.{block_fields, attribute_kind, is_event}
use Rattle.router_state.specs.State.{State}
use Rattle.router_state.specs.Contexts.{activity_at, is_active, is_null, is_linked, named_at}
use Rattle.router_state.specs.Fits.{is_priority, is_text, is_value, is_of_kind, are_declared, none_or}
use Rattle.router_state.specs.Fitting.{has_entity, has_activity, is_spec}
use Rattle.router_state.specs.Queues.{is_undelivered}
use Rattle.router_state.specs.Timers.{last_moment}
use Rattle.router_state.specs.Trees.{entity_at, tree_of}
use Rattle.router_state.specs.declared.rows.Entity.{Entity}
use Rattle.router_steps.specs.Effects.{number_in, plain, plain_field, relation_at, service_for, resolved_in, after_effect, after_effects, lines_of_effects}

-- a value fits, and is of this kind
abbrev pub suits : State → Val → Kind → Bool
suits s value kind = is_of_kind kind (plain value) && is_value s.next_activity s.next_timer (plain value)

-- the entity's block declares the field
abbrev pub declares : State → ℕ → List ℕ → Val → Bool
declares s e name value =
    option_map_or (λ (row : Entity). option_map_or (λ (f : FieldCode). suits s value f.kind) (named (λ (f : FieldCode). f.name) name (block_fields s.deployment row.block)) false) (entity_at s.entities e) false

-- the fields are those of the declared event, and their values fit
abbrev pub suits_event : State → List ℕ → List (List ℕ × Val) → Bool
suits_event s event fields =
    option_map_or (λ (declared : EventCode). are_declared declared.fields (map plain_field fields)) (named (λ (e : EventCode). e.name) event s.deployment.events) false
    && list_all (λ field. is_value s.next_activity s.next_timer (plain field.1)) fields

-- an Active null activity
abbrev pub is_active_null : State → ℕ → Bool
is_active_null s a = option_map_or (λ row. is_null row.kind && not row.ending) (activity_at s.activities a) false

-- the entity isn't in the tree of the other
abbrev pub stays_behind : State → ℕ → ℕ → Bool
stays_behind s me e = not (list_any (λ other. other == me) (tree_of s.entities e))

-- the effect applies; the entity whose handler gave it stays
abbrev pub applies : ℕ → Effect → State → Bool
applies me (effects.SetField entity name value) s = declares s (number_in entity) name value
applies me (effects.SetAttr activity key value) s =
    has_activity s.activities (number_in activity) && option_map_or (suits s value) (attribute_kind s.deployment key) false
applies me (effects.Create parent relation priority) s = is_some (relation_at s (number_in parent) relation) && is_priority priority
applies me (effects.Remove entity) s = has_entity s.entities (number_in entity) && stays_behind s me (number_in entity)
applies me (effects.SetPriority entity priority) s = has_entity s.entities (number_in entity) && is_priority priority
applies me (effects.Attach entity activity) s = has_entity s.entities (number_in entity) && has_activity s.activities (number_in activity)
applies me (effects.Detach entity activity) s = has_activity s.activities (number_in activity)
applies me (effects.SetMask entity activity event on) s =
    is_linked s.links (number_in entity) (number_in activity) && is_event s.deployment event
applies me (effects.Fire activity event service fields) s =
    is_active s.activities (number_in activity)
    && (none_or (λ key. is_some (service_for s (Option.Some key))) service && suits_event s event fields)
applies me effects.NewNull s = true
applies me (effects.EndNull activity) s = is_active_null s (number_in activity)
applies me (effects.SetTimer activity start period times keep) s =
    is_active s.activities (number_in activity)
    && is_spec (record { activity = record { 0 = number_in activity }; start = start; period = period; times = times; keep = keep })
applies me (effects.CancelTimer timer) s = true
applies me (effects.Bind name activity) s =
    is_active s.activities (number_in activity) && (is_none (named_at s.names name) && (nat_lt 0 (length name) && is_text name))
applies me (effects.Unbind name) s = is_some (named_at s.names name)
applies me (effects.Emit entity text) s = has_entity s.entities (number_in entity)
applies me (effects.Usage entity name amount) s = has_entity s.entities (number_in entity)
applies me (effects.Suspend activity until) s =
    not (is_undelivered s.delivered (number_in activity)) && (nat_lt s.clock until && nat_le until last_moment)
applies me (effects.Resume activity) s = has_activity s.activities (number_in activity)

-- each effect applies at its turn
abbrev pub all_apply : ℕ → List Effect → State → Bool
all_apply me [] s = true
all_apply me (x ∷ xs) s = applies me x s && all_apply me xs (after_effect x s)

-- the same as a statement
abbrev pub Apply : ℕ → List Effect → State → Type 0
Apply me xs s = IsTrue (all_apply me xs s)

-- Those of these effects that apply, each at its turn; one that doesn't apply does nothing. That all effects of a delivery apply is a law of legal histories.
abbrev pub applying : ℕ → List Effect → State → List Effect
applying me [] s = []
applying me (x ∷ xs) s = if applies me x s then x ∷ applying me xs (after_effect x s) else applying me xs s

-- the effects of an entity's run that apply in a state, what is new with the numbers that come next there
abbrev pub applied_in : ℕ → State → List Effect → List Effect
applied_in me s xs = applying me (resolved_in s xs) s

-- the state after them
abbrev pub done_effects : ℕ → List Effect → State → State
done_effects me xs s = after_effects (applied_in me s xs) s

-- their lines
abbrev pub lines_of_done_effects : ℕ → List Effect → State → List (List ℕ)
lines_of_done_effects me xs s = lines_of_effects (applied_in me s xs) s
