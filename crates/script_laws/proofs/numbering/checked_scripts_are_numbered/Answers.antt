use Rattle.script_laws.proofs.NumberedPrograms.{program_numbered}
use Rattle.script_laws.proofs.numbering.checked_scripts_are_numbered.Goals as goal

pub returns : goal.returns
returns c = λ all program h. program_numbered all program h
