use Rattle.router_laws_values.proofs.SpelledTerms.{value_spelled}
use Rattle.router_laws_values.proofs.values.values_of_expressions_have_a_spelling.Goals as goal

pub returns : goal.returns
returns c = value_spelled
