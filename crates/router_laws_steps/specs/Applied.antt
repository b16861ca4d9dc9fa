-- When each effect of each delivery of a history applies.
use Rattle.std.specs.Prelude.{List, [], ◌∷◌, Some, ◌≡◌}
use Rattle.router_laws_sound.specs.Rooms.{HasRoom}
use Rattle.router_laws_suiting.specs.Known.{IsSmall}
use Rattle.router_state.specs.State.{State}
use Rattle.router_steps.specs.Applying.{Apply}
use Rattle.router_steps.specs.Effects.{after_effects, resolved_in}
use Rattle.router_steps.specs.Steps.{Receipt, after, delivery_at, marked_entity}
use Rattle.trace_history.specs.declared.choice.Choice.{Choice}
use Rattle.trace_history.specs.declared.choice.Choice.TheVariants as choices
use Rattle.trace_history.specs.declared.entry.Entry.{Entry}

-- the effects of a delivery apply, where the next numbers of entities and activities are at most 2^62, and the numbers that come next behind it have 64 bits
abbrev pub ApplyAt : State → Choice → Type 0
ApplyAt s (choices.Deliver a) =
    (x : Receipt) → delivery_at s a.0 ≡ Some x → IsSmall s → HasRoom (after_effects (resolved_in s x.delivered.effects) (marked_entity x s)) → Apply x.entity.number.0 (resolved_in s x.delivered.effects) (marked_entity x s)
ApplyAt s _ = Unit {0}

-- so it is with each delivery of a history
abbrev pub AllApply : State → List Entry → Type 0
AllApply s [] = Unit {0}
AllApply s (e ∷ es) = ApplyAt s e.choice × AllApply (after s e.choice) es
