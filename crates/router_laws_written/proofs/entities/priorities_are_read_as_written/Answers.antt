use Rattle.router_laws_written.proofs.Beginnings.{priorities_read}
use Rattle.router_laws_written.proofs.entities.priorities_are_read_as_written.Goals as goal

pub returns : goal.returns
returns c = priorities_read
