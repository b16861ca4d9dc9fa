-- no mark stands there
use Rattle.std.proofs.Common.{not, ap, ◌∙◌}
use Rattle.snapshot_check_rows.proofs.FoundLemmas.{none_marked}
use Rattle.snapshot_check_rows.proofs.found.is_undelivered.Goals as goal

pub returns : goal.returns
returns c = ap not c.has_row_of.ensures ∙ none_marked c.args.delivered.now c.args.activity
