use Rattle.script_laws.proofs.LikeMeaning.{meaning_stays}
use Rattle.script_laws.proofs.dependence.runs_stay_over_more_answers.Goals as goal

pub returns : goal.returns
returns c = λ answers other program block steps e arguments before report more done. meaning_stays answers other program block steps e arguments before report more done
