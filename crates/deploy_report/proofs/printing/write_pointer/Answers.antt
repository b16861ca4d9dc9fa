use Rattle.std.proofs.Common.{◌∙◌, ap, true}
use Rattle.slee_disk.proofs.WritesLemmas.{writes_as}
use Rattle.slee_value.specs.Escape.{escaped}
use Rattle.deploy_report.proofs.printing.write_pointer.Goals as goal

pub returns : goal.returns
returns g c = writes_as _ _ _ _ _ _ _ (ap (escaped true) (c.as_bytes.ensures.value ∙ c.printed.ensures)) c.write_word.ensures
