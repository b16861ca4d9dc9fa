use Rattle.std.proofs.Common.{arith}
use Rattle.std.proofs.lemmas.Grind.{text_groups}
use Rattle.slee_descriptor.proofs.by_event.ByEvent.note.Goals as goal

pub returns : goal.returns
returns c = grind (arith, text_groups)
