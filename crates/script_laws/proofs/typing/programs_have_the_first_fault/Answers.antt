use Rattle.script_laws.proofs.TypedCodes.{codes_found}
use Rattle.script_laws.proofs.typing.programs_have_the_first_fault.Goals as goal

pub returns : goal.returns
returns c = λ all. codes_found all
