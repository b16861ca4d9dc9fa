use Rattle.script_laws.proofs.LikeMeaning.{meaning_reads}
use Rattle.script_laws.proofs.dependence.lacked_keys_are_read_over_more_answers.Goals as goal

pub returns : goal.returns
returns c = λ answers other program block steps e arguments before key report more lacks done. meaning_reads answers other program block steps e arguments before key report more lacks done
