use Rattle.std.proofs.Common.{◌≡◌, ◌≤◌, [], drop, map}
use Rattle.script_types.specs.ProgramOf.{field_term_of}
use Rattle.script_meaning.specs.Doing.{fields_of}
use Rattle.script_run_machine.specs.Machines.{state_of}
use Rattle.script_run_machine.specs.Settings.{setting_of}
use Rattle.script_run_steps.proofs.firing.eval_fields.Given as goal

-- the fields so far are in their places
abbrev pub invariant-fields : goal.invariant-fields
invariant-fields l = (fields_of (setting_of l.scene) (map field_term_of (drop l.field-index l.fields)) l.done.items (state_of l.machine) ≡ fields_of (setting_of l.scene) (map field_term_of l.fields) [] (state_of l.initial.machine)) × (l.machine.left ≤ l.initial.machine.left) × (l.machine.names ≡ l.initial.machine.names)
