-- the numbers are all different just where the events differ in number
use Rattle.std.proofs.Common.{◌∙◌}
use Rattle.std.proofs.lemmas.Result.{IfOk-weaker}
use Rattle.snapshot_check.proofs.DifferLemmas.{numbers_differ}
use Rattle.snapshot_check.proofs.differing.have_own_numbers.Goals as goal

pub returns : goal.returns
returns c = IfOk-weaker c.are_distinct.result _ _ (λ differ h. h ∙ numbers_differ _ c.args.events.now c.in_ok-numbers.ensures) c.are_distinct.ensures
