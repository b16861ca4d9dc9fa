use Rattle.serde_json.specs.View.{view}
use Rattle.deploy_json.proofs.Answering.{of_parts}
use Rattle.deploy_json.proofs.NoFault.{sound}
use Rattle.deploy_json.proofs.reading.read_scripts.Goals as goal

pub build_parts-requires : goal.build_parts-requires
build_parts-requires c = record { shape = c.requires }

pub returns-in-Ok : goal.returns-in-Ok
returns-in-Ok c = record {
  sound = sound (view c.args.document.now) c.in-Ok.parts c.requires c.in-Ok.ensures.built;
  read = of_parts (view c.args.document.now) c.in-Ok.parts c.requires c.in-Ok.ensures.fault c.in-Ok.ensures.built;
}

pub returns-in-Err : goal.returns-in-Err
returns-in-Err c = record { sound = tt; read = c.script_fault.ensures (view c.args.document.now) c.requires c.in-Err.ensures.fault }
