use Rattle.std.proofs.Common.{subst}
use Rattle.deploy_model.specs.declared.fault.DeployFault.{DeployFault}
use Rattle.deploy_model.specs.Faults.{Tells}
use Rattle.deploy_schema.specs.Tables.{shape_fault}
use Rattle.deploy_json.proofs.Answering.{of_shape}
use Rattle.deploy_json.proofs.reading.shape_of.Goals as goal

pub returns-in-NoMemory : goal.returns-in-NoMemory
returns-in-NoMemory c = λ d m. tt

pub returns-in-At : goal.returns-in-At
returns-in-At c = λ d m.
    let P : DeployFault → Type 0 = λ f. Tells (shape_fault d) f in
    of_shape d _ (subst P c.in-At.is m)
