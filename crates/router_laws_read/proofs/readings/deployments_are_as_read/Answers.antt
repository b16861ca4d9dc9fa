use Rattle.router_laws_read.proofs.WholeReadings.{reading_as_read}
use Rattle.router_laws_read.proofs.readings.deployments_are_as_read.Goals as goal

pub returns : goal.returns
returns c = reading_as_read
