use Rattle.std.proofs.Common.{◌≡◌, ◌+◌, ◌-◌, ◌*◌, ◌≤◌, drop, map}
use Rattle.script_types.specs.ProgramOf.{term_of, steps_of}
use Rattle.script_meaning.specs.Running.{scoped}
use Rattle.script_meaning.specs.Terms.{eval}
use Rattle.script_meaning.specs.Steps.{turns, walk}
use Rattle.script_run_machine.specs.Machines.{state_of}
use Rattle.script_run_blocks.specs.Loops.{variable_in}
use Rattle.script_run_blocks.specs.Stages.{given, all_in}
use Rattle.script_run_blocks.proofs.steps.+steps.Given as goal

abbrev pub decreases-do_step : goal.decreases-do_step
decreases-do_step l = 8 * l.machine.now.left

abbrev pub decreases-do_all : goal.decreases-do_all
decreases-do_all l = 8 * l.machine.now.left + 1

abbrev pub decreases-do_block : goal.decreases-do_block
decreases-do_block l = 8 * l.machine.now.left + 2

abbrev pub decreases-do_turn : goal.decreases-do_turn
decreases-do_turn l = 8 * l.machine.now.left + 2

abbrev pub decreases-enter : goal.decreases-enter
decreases-enter l = 8 * l.machine.now.left + 2

abbrev pub decreases-do_if : goal.decreases-do_if
decreases-do_if l = 8 * l.machine.now.left + 3

abbrev pub decreases-repeat : goal.decreases-repeat
decreases-repeat l = 8 * l.machine.now.left + 3

abbrev pub decreases-do_walk : goal.decreases-do_walk
decreases-do_walk l = 8 * l.machine.now.left + 3

abbrev pub decreases-do_call : goal.decreases-do_call
decreases-do_call l = 8 * l.machine.now.left + 3

abbrev pub decreases-do_for : goal.decreases-do_for
decreases-do_for l = 8 * l.machine.now.left + 4

abbrev pub decreases-act : goal.decreases-act
decreases-act l = 8 * l.machine.now.left + 5

-- the steps so far are done
abbrev pub invariant-do_all-steps : goal.invariant-do_all-steps
invariant-do_all-steps l = (all_in l.stage l.depth (steps_of (drop l.step-index l.body)) (state_of l.machine) ≡ all_in l.stage l.depth (steps_of l.body) (state_of l.initial.machine)) × (l.machine.left ≤ l.initial.machine.left) × (l.machine.names ≡ l.initial.machine.names)

-- the items so far had their turns
abbrev pub invariant-do_walk-items : goal.invariant-do_walk-items
invariant-do_walk-items l = (walk (map (variable_in l.range) (drop l.item-index l.items)) (all_in l.stage l.depth (steps_of l.body)) (state_of l.machine) ≡ walk (map (variable_in l.range) l.items) (all_in l.stage l.depth (steps_of l.body)) (state_of l.initial.machine)) × (l.machine.left ≤ l.initial.machine.left) × (l.machine.names ≡ l.initial.machine.names)

-- the turns so far are done
abbrev pub invariant-repeat-turns : goal.invariant-repeat-turns
invariant-repeat-turns l = (turns (l.most - l.turn) (eval (given l.stage) (term_of l.test)) (scoped (all_in l.stage l.depth (steps_of l.body))) (state_of l.machine) ≡ turns l.most (eval (given l.stage) (term_of l.test)) (scoped (all_in l.stage l.depth (steps_of l.body))) (state_of l.initial.machine)) × (l.machine.left ≤ l.initial.machine.left) × (l.machine.names ≡ l.initial.machine.names)
