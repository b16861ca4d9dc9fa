use Rattle.router_laws_steps.proofs.WholeSteps.{well_after}
use Rattle.router_laws_steps.proofs.states.steps_leave_well_formed_states.Goals as goal

pub returns : goal.returns
returns c = well_after
