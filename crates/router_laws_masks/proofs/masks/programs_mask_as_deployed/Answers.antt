use Rattle.router_laws_masks.proofs.ReadMasks.{read_masks}
use Rattle.router_laws_masks.proofs.masks.programs_mask_as_deployed.Goals as goal

pub returns : goal.returns
returns c = read_masks
