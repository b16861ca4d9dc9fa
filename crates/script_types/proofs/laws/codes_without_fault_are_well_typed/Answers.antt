use Rattle.script_types.proofs.TypingLaws.{check_codes-well_typed}
use Rattle.script_types.proofs.laws.codes_without_fault_are_well_typed.Goals as goal

pub returns : goal.returns
returns c = λ all h. check_codes-well_typed all h
