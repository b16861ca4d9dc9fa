-- the names are all different just where external activities differ in name
use Rattle.std.proofs.Common.{◌∙◌}
use Rattle.std.proofs.lemmas.Result.{IfOk-weaker}
use Rattle.snapshot_check.proofs.DifferLemmas.{names_differ}
use Rattle.snapshot_check.proofs.differing.have_own_names.Goals as goal

pub returns : goal.returns
returns c = IfOk-weaker c.are_distinct.result _ _ (λ differ h. h ∙ names_differ _ c.args.activities.now c.in_ok-names.ensures) c.are_distinct.ensures
