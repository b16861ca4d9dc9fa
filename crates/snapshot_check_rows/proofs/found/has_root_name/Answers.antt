-- a name is found where one stands
use Rattle.std.proofs.Common.{◌∙◌}
use Rattle.snapshot_check_rows.proofs.FoundLemmas.{name_found}
use Rattle.snapshot_check_rows.proofs.found.has_root_name.Goals as goal

pub returns : goal.returns
returns c = c.has_row_of.ensures ∙ name_found c.args.names.now c.args.entity
