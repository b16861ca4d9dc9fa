-- the rows of the table are those found, and its unique attributes those looked up
use Rattle.std.proofs.Common.{◌∙◌}
use Rattle.std.proofs.lemmas.Result.{IfOk-weaker}
use Rattle.snapshot_check.specs.Tables.{differ_in_names}
use Rattle.snapshot_check.proofs.differing.are_unique_in.Goals as goal

pub returns : goal.returns
returns c =
    IfOk-weaker c.differ_in_all.result _ _ (λ unique h. h ∙ (λ i. differ_in_names (c.rows_of-own.ensures i) (c.table_unique-names.ensures i))) c.differ_in_all.ensures
