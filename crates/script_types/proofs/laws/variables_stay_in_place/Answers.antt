use Rattle.std.proofs.Common.{subst}
use Rattle.script_types.proofs.ScopeLaws.{Grows, statements_grow}
use Rattle.script_types.proofs.laws.variables_stay_in_place.Goals as goal

pub returns : goal.returns
returns c = λ s scope next at ys h. subst (Grows scope) h (statements_grow s scope at ys)
