use Rattle.script_laws.proofs.TypedCodes.{program_typed}
use Rattle.script_laws.proofs.typing.programs_are_for_well_typed_codes.Goals as goal

pub returns : goal.returns
returns c = λ all program h. program_typed all program h
