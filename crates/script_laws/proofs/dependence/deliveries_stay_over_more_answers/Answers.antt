use Rattle.script_laws.proofs.LikeDeliveries.{delivery_stays}
use Rattle.script_laws.proofs.dependence.deliveries_stay_over_more_answers.Goals as goal

pub returns : goal.returns
returns c = λ answers other program number e a event fields delivery more done. delivery_stays answers other program number e a event fields delivery more done
