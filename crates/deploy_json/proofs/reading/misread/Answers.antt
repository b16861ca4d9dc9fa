use Rattle.std.proofs.Common.{◌≡◌, Some, subst}
use Rattle.script_tree.specs.declared.fault.SyntaxFault.{SyntaxFault}
use Rattle.deploy_json.specs.Sources.{first_misread}
use Rattle.deploy_json.proofs.Answering.{of_script}
use Rattle.deploy_json.proofs.reading.misread.Goals as goal

pub returns-in-NoMemory : goal.returns-in-NoMemory
returns-in-NoMemory c = λ d s m. tt

pub returns-in-At : goal.returns-in-At
returns-in-At c = λ d s m.
    let P : SyntaxFault → Type 0 = λ f. first_misread d ≡ Some (record { path = c.args.pointer; fault = f }) in
    of_script d _ s (subst P c.in-At.is m)
