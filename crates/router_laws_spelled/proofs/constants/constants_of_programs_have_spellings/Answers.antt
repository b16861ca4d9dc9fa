use Rattle.router_laws_spelled.proofs.Programs.{program_spelled}
use Rattle.router_laws_spelled.proofs.constants.constants_of_programs_have_spellings.Goals as goal

pub returns : goal.returns
returns c = program_spelled
