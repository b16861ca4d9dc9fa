use Rattle.std.proofs.Common.{rules}
use Rattle.router_durable.proofs.Steps.{halted_sound}
use Rattle.router_durable.proofs.stepping.Core.halt.Goals as goal

pub invariant_of-self : goal.invariant_of-self
invariant_of-self g c = halted_sound c.self.inside.journal _ _ _ _ c.self.inside.stop _ _ (search rules) c.self.invariant
