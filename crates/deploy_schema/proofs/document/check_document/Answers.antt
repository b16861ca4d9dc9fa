use Rattle.std.proofs.Common.{subst}
use Rattle.serde_json.specs.View.{view}
use Rattle.deploy_model.specs.Faults.{Says}
use Rattle.deploy_schema.specs.Names.{Names}
use Rattle.deploy_schema.specs.Tables.{fault_by}
use Rattle.deploy_schema.proofs.document.check_document.Goals as goal

pub returns : goal.returns
returns c =
    let P : Names → Type 0 = λ all. Says (fault_by all (view c.args.document.now)) c.check_by.result in
    subst P c.in_ok-all.ensures c.check_by.ensures
