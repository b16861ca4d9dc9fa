use Rattle.slee_effect.proofs.StopLemmas.{stops_first}
use Rattle.slee_effect.proofs.laws.names_stop_at_the_first_byte.Goals as goal

pub returns : goal.returns
returns c = λ before bytes fault. stops_first before bytes fault
