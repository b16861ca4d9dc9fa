use Rattle.std.proofs.Common.{◌++◌, [], sym, subst}
use Rattle.std.specs.List.{AllByRecursion}
use Rattle.router_laws_values.proofs.SpelledSteps.{run_begins}
use Rattle.router_laws_values.proofs.values.values_of_effects_have_a_spelling.Goals as goal

pub returns : goal.returns
returns c = run_begins
