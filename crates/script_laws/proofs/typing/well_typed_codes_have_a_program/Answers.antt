use Rattle.script_laws.proofs.TypedCodes.{typed_program}
use Rattle.script_laws.proofs.typing.well_typed_codes_have_a_program.Goals as goal

pub returns : goal.returns
returns c = λ all h. typed_program all h
