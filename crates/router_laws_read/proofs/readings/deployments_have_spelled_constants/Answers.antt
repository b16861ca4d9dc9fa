use Rattle.router_laws_read.proofs.WholeReadings.{constants_spelled}
use Rattle.router_laws_read.proofs.readings.deployments_have_spelled_constants.Goals as goal

pub returns : goal.returns
returns c = constants_spelled
