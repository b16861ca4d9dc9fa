use Rattle.std.proofs.Common.{subst}
use Rattle.script_check_steps.proofs.Grown.{AllGrow, statements_grow}
use Rattle.script_check_steps.proofs.laws.variables_before_statements_stay.Goals as goal

pub returns : goal.returns
returns c = λ s scope at ys made h. subst (AllGrow scope) h (statements_grow s scope at ys)
