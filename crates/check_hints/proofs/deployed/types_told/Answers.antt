use Rattle.check_hints.proofs.InParts.{in_parts}
use Rattle.check_hints.proofs.deployed.types_told.Goals as goal

pub returns : goal.returns
returns c = in_parts c.args.bytes.now c.args.pointer.now c.in-Ok.parts c.in_ok-deployment.deployment.parts c.in_ok-deployment.deployment.codes.programs c.codes.result.now c.args.place c.told_by.result c.in-Ok.ensures.read c.in_ok-deployment.ensures.same c.in_ok-deployment.ensures.unchecked c.codes.ensures.parts c.told_by.ensures
