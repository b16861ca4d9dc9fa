use Rattle.std.specs.Prelude.{codes}
use Rattle.serde_json.specs.View.{view}
use Rattle.deploy_json.specs.Sources.{member_misread}
use Rattle.deploy_json.proofs.handler.method_at.Goals as goal

pub returns-in-Err-clause-fault : goal.returns-in-Err-clause-fault
returns-in-Err-clause-fault c = c.under_name.ensures (member_misread (codes "do") (view c.args.value.now)) c.in-Err.ensures.fault
