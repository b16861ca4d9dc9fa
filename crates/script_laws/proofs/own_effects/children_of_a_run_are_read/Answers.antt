use Rattle.script_laws.proofs.OwnEffects.{child_made, child_gone}
use Rattle.script_laws.proofs.own_effects.children_of_a_run_are_read.Goals as goal

pub returns-clause-made : goal.returns-clause-made
returns-clause-made c = child_made

pub returns-clause-gone : goal.returns-clause-gone
returns-clause-gone c = child_gone
