use Rattle.script_laws.proofs.AskedKeys.{few_asked}
use Rattle.script_laws.proofs.dependence.deliveries_ask_for_few_keys.Goals as goal

pub returns : goal.returns
returns c = λ all program number e a event fields known learned key made asked lacks. few_asked all program number e a event fields known learned key made asked lacks
