-- the codes have the attributes of blocks as they were deployed
use Rattle.std.proofs.Common.{◌∙◌}
use Rattle.snapshot_check_rows.proofs.DeclaredLemmas.{kind_is}
use Rattle.snapshot_check_rows.proofs.declared.attribute_kind.Goals as goal

pub returns : goal.returns
returns c = c.attribute_in.ensures ∙ kind_is c.args.deployment.now.parts c.args.deployment.now.codes.programs c.codes.result.now c.args.key.now c.codes.ensures.parts
