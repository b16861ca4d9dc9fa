use Rattle.router_laws_deployed.proofs.WholeDeployments.{read_is_deployed}
use Rattle.router_laws_deployed.proofs.asked.deployments_are_as_asked.Goals as goal

pub returns : goal.returns
returns c = read_is_deployed
