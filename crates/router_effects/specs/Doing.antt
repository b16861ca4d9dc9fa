-- What the effects of an entity's handler do, each at its turn: one that doesn't apply does nothing.
use Rattle.std.specs.Prelude.{ℕ, List, [], Option, Some, None, is_some, option_and_then, if◌then◌else◌}
use Rattle.script_types.specs.Codes.{named}
use Rattle.script_types.specs.declared.codes.EventCode.{EventCode}
use Rattle.script_types.specs.declared.codes.FieldCode.{FieldCode}
use Rattle.slee_effect.specs.declared.effect.Effect.{Effect}
use Rattle.slee_effect.specs.declared.value.Val.{Val}
use Rattle.deploy_model.specs.Deployed.{block_fields}
use Rattle.router_state.specs.State.{State}
use Rattle.router_state.specs.Fits.{none_or}
use Rattle.router_state.specs.Trees.{entity_at}
use Rattle.router_state.specs.declared.rows.Entity.{Entity}
use Rattle.router_steps.specs.Applying.{applies, suits_event}
use Rattle.router_steps.specs.Effects.{after_effect, lines_of_effect, service_for}

-- the state after an effect, where it applies
abbrev pub done : ℕ → Effect → State → State
done me x s = if applies me x s then after_effect x s else s

-- its lines
abbrev pub lines_of_done : ℕ → Effect → State → List (List ℕ)
lines_of_done me x s = if applies me x s then lines_of_effect x s else []

-- the field of this name that an entity's block declares
abbrev pub declared_field : State → ℕ → List ℕ → Option FieldCode
declared_field s e name = option_and_then (λ (row : Entity). named (λ (f : FieldCode). f.name) name (block_fields s.deployment row.block)) (entity_at s.entities e)

-- whom a fired event is for: nothing where no service has the key
abbrev pub target_in : State → Option (List ℕ) → Option (Option ℕ)
target_in s key = if none_or (λ k. is_some (service_for s (Some k))) key then Some (service_for s key) else None

-- the declared event type that is fired, where the fields suit it
abbrev pub suited_event : State → List ℕ → List (List ℕ × Val) → Option EventCode
suited_event s event fields = if suits_event s event fields then named (λ (e : EventCode). e.name) event s.deployment.events else None
