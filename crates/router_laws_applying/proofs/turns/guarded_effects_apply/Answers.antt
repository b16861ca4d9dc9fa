use Rattle.router_laws_applying.proofs.Beginning.{delivery_applies}
use Rattle.router_laws_applying.proofs.turns.guarded_effects_apply.Goals as goal

pub returns : goal.returns
returns c = delivery_applies
