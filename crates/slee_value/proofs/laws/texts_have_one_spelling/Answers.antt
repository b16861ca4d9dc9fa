use Rattle.slee_value.specs.Bytes.{spelled_text, FitsText}
use Rattle.slee_value.specs.Reading.{text_at}
use Rattle.slee_value.proofs.ReadLemmas.{one_spelling}
use Rattle.slee_value.proofs.TextPartLemmas.{reads_text}
use Rattle.slee_value.proofs.laws.texts_have_one_spelling.Goals as goal

pub returns : goal.returns
returns c = λ v w r q f g e. one_spelling spelled_text FitsText FitsText text_at reads_text v w r q f g e
