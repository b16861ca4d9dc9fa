use Rattle.deploy_json.proofs.Places.{reading_done, typed}
use Rattle.deploy_json.proofs.checking.check_scripts.Goals as goal

pub returns-in-Ok : goal.returns-in-Ok
returns-in-Ok c = record {
  typed = typed c.args.deployment.codes c.in-Ok.checked.codes c.in-Ok.ensures.codes c.in-Ok.ensures.program;
  read = reading_done c.args.deployment c.in-Ok.checked c.requires c.in-Ok.ensures.parts c.in-Ok.ensures.program;
}

pub returns-in-Err : goal.returns-in-Err
returns-in-Err c = record { typed = tt; read = c.check_fault.ensures c.args.deployment.parts c.args.deployment.codes c.requires c.in-Err.ensures.program }
