use Rattle.router_core.proofs.HandlerLemmas.{handler_there}
use Rattle.router_core.proofs.attempting.handlers_are_there.Goals as goal

pub returns : goal.returns
returns c = handler_there c.args.deployment.now c.codes-codes.result.now c.codes-codes.ensures.same c.codes-codes.ensures.parts c.requires
