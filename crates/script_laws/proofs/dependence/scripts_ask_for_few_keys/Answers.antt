use Rattle.script_laws.proofs.AskedKeys.{few_asked_in}
use Rattle.script_laws.proofs.dependence.scripts_ask_for_few_keys.Goals as goal

pub returns : goal.returns
returns c = λ all program number block which steps e arguments known learned key made there is asked lacks. few_asked_in all program number block which steps e arguments known learned key made there is asked lacks
