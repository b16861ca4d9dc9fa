use Rattle.deploy_json.proofs.Misreading.{none_misread, told}
use Rattle.deploy_json.proofs.script.read_text.Goals as goal

pub returns-in-Ok : goal.returns-in-Ok
returns-in-Ok c = record { text = c.in-Ok.ensures.kept; fault = none_misread c.args.text.now _ c.in-Ok.ensures.read }

pub returns-in-Err : goal.returns-in-Err
returns-in-Err c = record { text = tt; fault = told c.args.text.now _ c.misread.result c.misread.ensures c.in-Err.ensures.read }
