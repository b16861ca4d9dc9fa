-- the keys are all different just where the rows differ
use Rattle.std.proofs.Common.{◌∙◌}
use Rattle.std.proofs.lemmas.Result.{IfOk-weaker}
use Rattle.snapshot_check.proofs.DifferLemmas.{column_differs}
use Rattle.snapshot_check.proofs.differing.differ_in.Goals as goal

pub returns : goal.returns
returns c = IfOk-weaker c.are_distinct.result _ _ (λ differ h. h ∙ column_differs _ c.args.rows.now c.args.name.now c.in_ok-keys.ensures) c.are_distinct.ensures
