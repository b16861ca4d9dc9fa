use Rattle.std.proofs.Common.{sym, subst}
use Rattle.router_durable.specs.Core.{state_held}
use Rattle.slee_container.specs.Container.{IsSteady}
use Rattle.slee_container.proofs.Turned.{run_halted}
use Rattle.slee_container.proofs.container.Container.halt_memory.Goals as goal

pub invariant_of-self : goal.invariant_of-self
invariant_of-self g c = (
  subst (λ h. IsSteady c.self.inside.lines.now c.self.inside.skipped h.history c.self.inside.taken (state_held h) c.self.inside.claims.items) (sym c.halt.ensures) c.self.invariant.0,
  c.self.invariant.1,
  run_halted c.self.inside.core c.halt.new.self c.self.inside.lines.now c.self.inside.skipped c.self.inside.taken c.self.inside.steps c.halt.ensures c.self.invariant.2,
)
