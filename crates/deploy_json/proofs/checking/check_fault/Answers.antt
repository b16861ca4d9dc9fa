use Rattle.std.proofs.Common.{subst}
use Rattle.handler_check.specs.declared.fault.CheckFault.{CheckFault}
use Rattle.handler_check.specs.Told.{Tells, checked}
use Rattle.deploy_json.proofs.Places.{reading_told}
use Rattle.deploy_json.proofs.checking.check_fault.Goals as goal

pub returns-in-NoMemory : goal.returns-in-NoMemory
returns-in-NoMemory c = λ p all e h. tt

pub returns-in-At : goal.returns-in-At
returns-in-At c = λ p all e h.
    let P : CheckFault → Type 0 = λ f. Tells (checked all) f in
    reading_told p all (record { path = c.in-At.path; line = c.in-At.line; column = c.in-At.column; kind = c.in-At.kind }) e (subst P c.in-At.is h)
