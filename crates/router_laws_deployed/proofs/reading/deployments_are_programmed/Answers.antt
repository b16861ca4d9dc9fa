use Rattle.router_laws_deployed.proofs.Programmed.{programmed}
use Rattle.router_laws_deployed.proofs.reading.deployments_are_programmed.Goals as goal

pub returns : goal.returns
returns c = programmed
