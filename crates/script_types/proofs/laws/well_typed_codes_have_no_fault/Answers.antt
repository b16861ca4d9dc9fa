use Rattle.script_types.proofs.TypingLaws.{well_typed-check_codes}
use Rattle.script_types.proofs.laws.well_typed_codes_have_no_fault.Goals as goal

pub returns : goal.returns
returns c = λ all w. well_typed-check_codes all w
