-- Histories one behind another.
use Rattle.std.proofs.Common.{◌≡◌, ℕ, zero, suc, ◌≤◌, List, [], ◌∷◌, ◌++◌, length, refl, ◌∙◌, ap, sym, arith, Option, Some, None}
use Rattle.router_state.specs.State.{State}
use Rattle.router_steps.specs.Histories.{replay, Legal}
use Rattle.router_steps.specs.Payloads.{payload, payloads}
use Rattle.router_steps.specs.Steps.{after}
use Rattle.trace_history.specs.declared.choice.Choice.{Choice}
use Rattle.trace_history.specs.declared.entry.Entry.{Entry}

pub replay_append : (s : State) (h k : List Entry) → replay s (h ++ k) ≡ replay (replay s h) k
replay_append s [] k = refl
replay_append s (e ∷ es) k = replay_append (after s e.choice) es k

pub legal_append : (s : State) (h k : List Entry) → Legal s h → Legal (replay s h) k → Legal s (h ++ k)
legal_append s [] k a b = b
legal_append s (e ∷ es) k a b = (a.0, a.1, a.2, legal_append (after s e.choice) es k a.3 b)
