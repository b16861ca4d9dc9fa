-- Effects that a delivery makes, and the state after them.
use Rattle.std.specs.Prelude.{◌≡◌, true, [], List, Some}
use Rattle.std.specs.List.{AllByRecursion}
use Rattle.slee_effect.specs.declared.effect.Effect.{Effect}
use Rattle.router_laws_applying.specs.Suited.{AllSuit}
use Rattle.router_laws_effects.specs.Guards.{Guarded}
use Rattle.router_laws_sound.specs.Rooms.{HasRoom, IsDeployed}
use Rattle.router_laws_written.specs.Held.{CancelsOld}
use Rattle.router_state.specs.Queues.{is_waiting}
use Rattle.router_state.specs.State.{State}
use Rattle.router_state.specs.Trees.{entity_at}
use Rattle.router_state.specs.Well.{IsSound}
use Rattle.router_steps.specs.Effects.{after_effects, resolved_in}
use Rattle.router_steps.specs.Scripts.{answers_in}
use Rattle.router_steps.specs.Steps.{Receipt, marked_entity}

-- the state after these effects of a delivery
abbrev pub after_made : State → Receipt → List Effect → State
after_made s x es = after_effects (resolved_in s es) (marked_entity x s)

-- These are effects, the first of them first, that a delivery makes in a sound state: the event waits and the entity is there, each
-- effect suits the delivery and was made where the run had seen that it may be, a timer that is cancelled was drawn before, and the
-- numbers that come next after them have 64 bits.
pub record AreMade (s : State) (x : Receipt) (es : List Effect) : Type 0 where
  pub sound : IsSound s
  pub deployed : IsDeployed s.deployment
  pub waits : is_waiting s.events x.activity ≡ true
  pub received : entity_at s.entities x.entity.number.0 ≡ Some x.entity
  pub suit : AllSuit s x.entity.number.0 x.entity.block x.activity [] es
  pub guarded : Guarded (answers_in s) [] es
  pub cancels : AllByRecursion (CancelsOld s.next_timer) es
  pub room : HasRoom (after_made s x es)
