use Rattle.std.proofs.Common.{subst}
use Rattle.deploy_json.specs.declared.parts_fault.PartsFault.{PartsFault}
use Rattle.deploy_json.specs.Sources.{first_misread, Tells}
use Rattle.deploy_json.proofs.reading.script_fault.Goals as goal

pub returns-in-NoMemory : goal.returns-in-NoMemory
returns-in-NoMemory c = λ d s m. tt

pub returns-in-Misread : goal.returns-in-Misread
returns-in-Misread c = λ d s t.
    let P : PartsFault → Type 0 = λ f. Tells (first_misread d) f in
    c.misread.ensures d s (subst P c.in-Misread.is t)
