use Rattle.slee_value.proofs.ReadLemmas.{one_spelling}
use Rattle.slee_effect.specs.Bytes.{spelled_effect}
use Rattle.slee_effect.specs.Fitting.{FitsEffect, IsLooseEffect}
use Rattle.slee_effect.specs.Reading.{effect_at}
use Rattle.slee_effect.proofs.EffectLemmas.{reads_effect}
use Rattle.slee_effect.proofs.laws.effects_have_one_spelling.Goals as goal

pub returns : goal.returns
returns c = λ v w r q f g e. one_spelling spelled_effect FitsEffect IsLooseEffect effect_at reads_effect v w r q f g e
