-- the service is set at its place
use Rattle.router_stores.proofs.ServiceLemmas.{service_set}
use Rattle.router_stores.proofs.services.set_service.Goals as goal

pub returns : goal.returns
returns c = service_set c.args.services.now c.args.number c.args.state c.args.activity.0
