use Rattle.router_laws_written.proofs.Attributes.{attributes_read}
use Rattle.router_laws_written.proofs.activities.attributes_are_read_as_written.Goals as goal

pub returns : goal.returns
returns c = attributes_read
