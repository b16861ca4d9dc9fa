use Rattle.serde_json.specs.View.{view}
use Rattle.deploy_json.proofs.reading.read_document.Goals as goal

pub read_scripts-requires : goal.read_scripts-requires
read_scripts-requires c = c.in-Ok.ensures

pub returns-in-Ok : goal.returns-in-Ok
returns-in-Ok c = record { sound = c.read_scripts.ensures.sound; read = c.read_scripts.ensures.read }

pub returns-in-Err : goal.returns-in-Err
returns-in-Err c = record { sound = tt; read = c.shape_of.ensures (view c.args.document.now) c.in-Err.ensures }
