-- What the deliveries of a history read of their own effects.
use Rattle.std.specs.Prelude.{◌≡◌, List, [], ◌∷◌, ◌++◌, Some}
use Rattle.slee_effect.specs.declared.effect.Effect.{Effect}
use Rattle.router_laws_own.specs.Own.{SeesOwn}
use Rattle.router_laws_written.specs.Made.{after_made}
use Rattle.router_state.specs.State.{State}
use Rattle.router_steps.specs.Steps.{Receipt, after, delivery_at}
use Rattle.trace_history.specs.declared.choice.Choice.{Choice}
use Rattle.trace_history.specs.declared.choice.Choice.TheVariants as choices
use Rattle.trace_history.specs.declared.entry.Entry.{Entry}

-- after each part of its effects that comes first, a delivery reads what is there
abbrev pub SeesAt : State → Choice → Type 0
SeesAt s (choices.Deliver a) = (x : Receipt) → delivery_at s a.0 ≡ Some x → (es rest : List Effect) → x.delivered.effects ≡ es ++ rest → SeesOwn s x es (after_made s x es)
SeesAt s _ = Unit {0}

-- so it is with each delivery of a history
abbrev pub EachSees : State → List Entry → Type 0
EachSees s [] = Unit {0}
EachSees s (e ∷ es) = SeesAt s e.choice × EachSees (after s e.choice) es
