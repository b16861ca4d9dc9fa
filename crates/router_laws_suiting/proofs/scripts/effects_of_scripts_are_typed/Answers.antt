use Rattle.router_laws_suiting.proofs.TypedPrograms.{script_typed}
use Rattle.router_laws_suiting.proofs.scripts.effects_of_scripts_are_typed.Goals as goal

pub returns : goal.returns
returns c = script_typed
