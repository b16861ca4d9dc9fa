use Rattle.std.proofs.Common.{◌≡◌, ◌≤◌, drop, map}
use Rattle.script_types.specs.ProgramOf.{term_of}
use Rattle.script_meaning.specs.Steps.{arguments_of}
use Rattle.script_run_machine.specs.Machines.{state_of}
use Rattle.script_run_machine.specs.Settings.{setting_of}
use Rattle.script_run_blocks.specs.Loops.{holding, behind_others}
use Rattle.script_run_blocks.proofs.calls.eval_arguments.Given as goal

-- the arguments so far stand in front of the rest
abbrev pub invariant-terms : goal.invariant-terms
invariant-terms l = (behind_others l.arguments.items (arguments_of (setting_of l.scene) (map term_of (drop l.term-index l.terms))) (state_of l.machine) ≡ holding (arguments_of (setting_of l.scene) (map term_of l.terms)) (state_of l.initial.machine)) × (l.machine.left ≤ l.initial.machine.left) × (l.machine.names ≡ l.initial.machine.names)
