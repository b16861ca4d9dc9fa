use Rattle.router_laws_deployed.proofs.Readings.{reading_handlers, reading_parts, reading_program}
use Rattle.router_laws_deployed.proofs.reading.deployments_have_their_program.Goals as goal

pub returns-clause-parts : goal.returns-clause-parts
returns-clause-parts c = reading_parts

pub returns-clause-program : goal.returns-clause-program
returns-clause-program c = reading_program

pub returns-clause-handlers : goal.returns-clause-handlers
returns-clause-handlers c = reading_handlers
