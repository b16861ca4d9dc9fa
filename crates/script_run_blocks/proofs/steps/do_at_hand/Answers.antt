use Rattle.std.proofs.Common.{ap}
use Rattle.script_types.specs.ProgramOf.{assigning_of, step_of}
use Rattle.script_run_blocks.proofs.StepLemmas.{at_hand_step}
use Rattle.script_run_blocks.proofs.steps.do_at_hand.Goals as goal

pub returns-in-Assign-clause-done : goal.returns-in-Assign-clause-done
returns-in-Assign-clause-done c is =
    at_hand_step c.args.stage.now c.args.depth (step_of c.args.step.now) (assigning_of c.in-Assign.x) c.args.machine.now c.assign_at_hand.new.machine (ap step_of c.in-Assign.is) (c.assign_at_hand.ensures.done is)
