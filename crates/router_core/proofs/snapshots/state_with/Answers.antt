-- a sound state can be stored
use Rattle.deploy_model.specs.Resolving.{deployed_of}
use Rattle.script_types.specs.ProgramOf.{kept_program}
use Rattle.snapshot_rows.specs.Rows.{state_of}
use Rattle.router_core.proofs.snapshots.state_with.Goals as goal

pub restore-requires : goal.restore-requires
restore-requires c = c.sound_states_can_be_stored.ensures (state_of (deployed_of c.args.deployment.now.parts) (kept_program c.args.deployment.now.codes) c.args.rows) c.requires.well.sound
