use Rattle.router_laws_written.proofs.Beginnings.{fields_read}
use Rattle.router_laws_written.proofs.entities.fields_are_read_as_written.Goals as goal

pub returns : goal.returns
returns c = fields_read
