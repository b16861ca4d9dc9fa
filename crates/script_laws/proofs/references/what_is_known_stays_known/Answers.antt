use Rattle.std.proofs.Common.{◌++◌, refl}
use Rattle.script_laws.proofs.KnownSets.{known_longer}
use Rattle.script_laws.specs.References.{Among}
use Rattle.script_laws.proofs.references.what_is_known_stays_known.Goals as goal

pub returns : goal.returns
returns c = λ known es more r h. known_longer (Among known) es (es ++ more) r (more, refl) h
