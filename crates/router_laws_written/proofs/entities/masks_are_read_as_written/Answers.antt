use Rattle.router_laws_written.proofs.Beginnings.{masks_read}
use Rattle.router_laws_written.proofs.entities.masks_are_read_as_written.Goals as goal

pub returns : goal.returns
returns c = masks_read
