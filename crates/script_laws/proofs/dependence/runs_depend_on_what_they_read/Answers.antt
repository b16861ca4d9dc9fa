use Rattle.script_laws.proofs.LikeMeaning.{meaning_depends}
use Rattle.script_laws.proofs.dependence.runs_depend_on_what_they_read.Goals as goal

pub returns : goal.returns
returns c = λ answers other program block steps e arguments before report done agree. meaning_depends answers other program block steps e arguments before report done agree
