-- the codes have the relations of the block as it was deployed
use Rattle.std.proofs.Common.{◌∙◌}
use Rattle.snapshot_check_rows.proofs.DeclaredLemmas.{relation_is}
use Rattle.snapshot_check_rows.proofs.declared.relation_of.Goals as goal

pub returns : goal.returns
returns c = c.relation_in.ensures ∙ relation_is c.args.deployment.now.parts c.args.deployment.now.codes.programs c.codes.result.now c.args.block c.args.name.now c.codes.ensures.parts
