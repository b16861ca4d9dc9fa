use Rattle.router_laws_steps.proofs.First.{replayed_first}
use Rattle.router_laws_steps.proofs.WholeSteps.{well_replayed}
use Rattle.router_laws_steps.proofs.states.histories_leave_well_formed_states.Goals as goal

pub returns-clause-base : goal.returns-clause-base
returns-clause-base c = well_replayed

pub returns-clause-first : goal.returns-clause-first
returns-clause-first c = replayed_first
