-- the codes have the fields of the block as it was deployed
use Rattle.std.proofs.Common.{◌∙◌}
use Rattle.snapshot_check_rows.proofs.DeclaredLemmas.{fields_are}
use Rattle.snapshot_check_rows.proofs.declared.block_fields.Goals as goal

pub returns : goal.returns
returns c = c.fields_in.ensures ∙ fields_are c.args.deployment.now.parts c.args.deployment.now.codes.programs c.codes.result.now c.args.block c.codes.ensures.parts
