use Rattle.router_laws_steps.proofs.AppliedSteps.{history_applies}
use Rattle.router_laws_steps.proofs.turns.effects_of_histories_apply.Goals as goal

pub returns : goal.returns
returns c = history_applies
