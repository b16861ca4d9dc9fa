-- the codes have the attributes of the table as it was deployed
use Rattle.std.proofs.Common.{◌∙◌}
use Rattle.snapshot_check_rows.proofs.DeclaredLemmas.{attributes_are}
use Rattle.snapshot_check_rows.proofs.declared.table_attributes.Goals as goal

pub returns : goal.returns
returns c = c.attributes_in.ensures ∙ attributes_are c.args.deployment.now.parts c.args.deployment.now.codes.programs c.codes.result.now c.args.table c.codes.ensures.parts
