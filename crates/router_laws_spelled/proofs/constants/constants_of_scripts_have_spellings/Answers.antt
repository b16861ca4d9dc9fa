use Rattle.router_laws_spelled.proofs.Texts.{script_written}
use Rattle.router_laws_spelled.proofs.constants.constants_of_scripts_have_spellings.Goals as goal

pub returns : goal.returns
returns c = script_written
