use Rattle.slee_container.proofs.Turned.{run_flushed, steady_flushed}
use Rattle.slee_container.proofs.container.Container.flush.Goals as goal

pub invariant_of-self : goal.invariant_of-self
invariant_of-self g c = (
  steady_flushed c.self.inside.core c.flush.new.self c.flush.result c.self.inside.lines.now c.self.inside.skipped c.self.inside.taken c.self.inside.claims.items c.flush.ensures.flush c.self.invariant.0,
  c.self.invariant.1,
  run_flushed c.self.inside.core c.flush.new.self c.flush.result c.self.inside.lines.now c.self.inside.skipped c.self.inside.taken c.self.inside.steps c.flush.ensures.flush c.self.invariant.2,
)
