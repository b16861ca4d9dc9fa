use Rattle.script_laws.proofs.KnownCheckedScripts.{script_refers}
use Rattle.script_laws.specs.References.{Among}
use Rattle.script_laws.proofs.references.scripts_refer_to_what_is_known.Goals as goal

pub returns : goal.returns
returns c = λ known all program answers number block which steps e arguments before report made there is given earlier done answered. script_refers (Among known) all program answers number block which steps e arguments before report made there is given earlier done answered
