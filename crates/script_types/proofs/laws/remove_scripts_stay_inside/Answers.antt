use Rattle.script_types.proofs.RemoveLaws.{remove_scripts}
use Rattle.script_types.proofs.laws.remove_scripts_stay_inside.Goals as goal

pub returns : goal.returns
returns c = λ all n block script w e f. remove_scripts all n block script w e f
