use Rattle.script_laws.proofs.SafeCalls.{meaning_is_sound}
use Rattle.script_laws.proofs.safety.checked_scripts_have_a_meaning.Goals as goal

pub returns : goal.returns
returns c = λ all program answers number block which steps e arguments before made there is few. meaning_is_sound all program made answers number block which steps e arguments before there is few
