use Rattle.slee_value.proofs.ReadLemmas.{one_spelling}
use Rattle.slee_effect.specs.Bytes.{spelling_of_effects}
use Rattle.slee_effect.specs.Fitting.{FitEffects, AreLooseEffects}
use Rattle.slee_effect.specs.Reading.{effects_at}
use Rattle.slee_effect.proofs.ListLemmas.{reads_effects}
use Rattle.slee_effect.proofs.laws.lists_have_one_spelling.Goals as goal

pub returns : goal.returns
returns c = λ v w r q f g e. one_spelling spelling_of_effects FitEffects AreLooseEffects effects_at reads_effects v w r q f g e
