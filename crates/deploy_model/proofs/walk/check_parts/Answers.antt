use Rattle.std.proofs.Common.{subst}
use Rattle.deploy_model.specs.Faults.{Says}
use Rattle.deploy_model.specs.Tables.{Known, fault_by}
use Rattle.deploy_model.proofs.walk.check_parts.Goals as goal

pub returns : goal.returns
returns c =
    let P : Known → Type 0 = λ all. Says (fault_by all c.args.parts.now) c.check_lists.result in
    subst P c.in_ok-all.ensures c.check_lists.ensures
