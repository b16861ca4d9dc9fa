use Rattle.slee_value.specs.Bytes.{spelling_of_value, Fits}
use Rattle.slee_value.specs.Reading.{value_at}
use Rattle.slee_value.proofs.ReadLemmas.{one_spelling}
use Rattle.slee_value.proofs.ValueLemmas.{reads_value}
use Rattle.slee_value.proofs.laws.values_have_one_spelling.Goals as goal

pub returns : goal.returns
returns c = λ v w r q f g e. one_spelling spelling_of_value Fits Fits value_at reads_value v w r q f g e
