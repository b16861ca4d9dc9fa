use Rattle.slee_value.specs.Bytes.{spelled_bytes, FitsBytes}
use Rattle.slee_value.specs.Reading.{bytes_at}
use Rattle.slee_value.proofs.ReadLemmas.{one_spelling}
use Rattle.slee_value.proofs.BytesLemmas.{reads_bytes}
use Rattle.slee_value.proofs.laws.bytes_have_one_spelling.Goals as goal

pub returns : goal.returns
returns c = λ v w r q f g e. one_spelling spelled_bytes FitsBytes FitsBytes bytes_at reads_bytes v w r q f g e
