use Rattle.serde_json.specs.View.{view}
use Rattle.deploy_json.specs.Sources.{script_misread}
use Rattle.deploy_json.proofs.script.read_member.Goals as goal

pub returns-in-Err-clause-fault : goal.returns-in-Err-clause-fault
returns-in-Err-clause-fault c = c.under.ensures (script_misread (view c.args.member.now)) c.in-Err.ensures.fault
