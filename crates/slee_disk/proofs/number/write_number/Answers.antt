use Rattle.std.proofs.Common.{◌∙◌}
use Rattle.slee_disk.proofs.WritesLemmas.{writes_as}
use Rattle.slee_disk.proofs.number.write_number.Goals as goal

pub returns : goal.returns
returns g c = writes_as _ _ _ _ _ _ _ (c.as_bytes.ensures.value ∙ c.format.ensures.text) c.write_whole.ensures
