-- Each effect of each delivery of a history applies at its turn.
use Rattle.std.specs.Prelude.{List, [], ◌∷◌, Some, ◌≡◌}
use Rattle.router_state.specs.State.{State}
use Rattle.router_steps.specs.Applying.{Apply}
use Rattle.router_steps.specs.Effects.{resolved_in}
use Rattle.router_steps.specs.Steps.{Receipt, after, delivery_at, marked_entity}
use Rattle.trace_history.specs.declared.choice.Choice.{Choice}
use Rattle.trace_history.specs.declared.choice.Choice.TheVariants as choices
use Rattle.trace_history.specs.declared.entry.Entry.{Entry}

-- the effects of a delivery apply
abbrev pub AppliesAt : State → Choice → Type 0
AppliesAt s (choices.Deliver a) = (x : Receipt) → delivery_at s a.0 ≡ Some x → Apply x.entity.number.0 (resolved_in s x.delivered.effects) (marked_entity x s)
AppliesAt s _ = Unit {0}

-- so it is with each delivery of a history
abbrev pub EachApplies : State → List Entry → Type 0
EachApplies s [] = Unit {0}
EachApplies s (e ∷ es) = AppliesAt s e.choice × EachApplies (after s e.choice) es
