use Rattle.script_laws.proofs.KnownMore.{kept_extends}
use Rattle.script_laws.proofs.dependence.more_answers_are_kept.Goals as goal

pub returns : goal.returns
returns c = λ known more. kept_extends known more
