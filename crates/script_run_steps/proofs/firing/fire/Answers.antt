use Rattle.std.proofs.Common.{map}
use Rattle.script_types.specs.ProgramOf.{field_term_of}
use Rattle.script_run_machine.specs.Machines.{state_of}
use Rattle.script_run_machine.specs.Settings.{setting_of}
use Rattle.script_run_steps.proofs.FieldLemmas.{fields_rise}
use Rattle.script_run_steps.proofs.firing.fire.Goals as goal

pub from_vec-fields-requires : goal.from_vec-fields-requires
from_vec-fields-requires c = fields_rise (setting_of c.args.scene.now) (map field_term_of c.args.fields.now) (state_of c.eval_activity.new.machine) c.in_ok-eval_fields.field-0.items (state_of c.eval_fields.new.machine) c.requires.apart c.in_ok-eval_fields.ensures.agrees
