-- Steps of a walk.
use Rattle.std.proofs.Common.{◌≡◌, Option}
use Rattle.deploy_model.specs.declared.fault.DeployFault.{DeployFault}
use Rattle.deploy_model.specs.declared.fault.DeployFault.TheVariants as answers
use Rattle.deploy_model.specs.Faults.{Fault, Tells, and_then}

-- the fault of the first of two is that of both
pub first_told : (m later : Option Fault) (e : DeployFault) → Tells m e → Tells (and_then m later) e
first_told m later answers.NoMemory h = tt
first_told m later (answers.At path kind) h = rw h

-- the same of an answer, where the first has a fault
pub told_by : (m n : Option Fault) (e : DeployFault) → m ≡ n → Tells n e → Tells m e
told_by m n e h t = rw h t
