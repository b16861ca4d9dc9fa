use Rattle.router_durable.proofs.Steps.{is_held}
use Rattle.router_durable.proofs.stepping.Core.held.Goals as goal

pub returns : goal.returns
returns g c = rw (← c.self.view_is) (is_held c.self.inside.journal _ _ _ _ _ c.self.invariant.sound)
