use Rattle.script_laws.proofs.AskedKeys.{unknown_asked}
use Rattle.script_laws.proofs.dependence.deliveries_ask_for_unknown_keys.Goals as goal

pub returns : goal.returns
returns c = λ all program number e a event fields answers key made lacks. unknown_asked all program number e a event fields answers key made lacks
