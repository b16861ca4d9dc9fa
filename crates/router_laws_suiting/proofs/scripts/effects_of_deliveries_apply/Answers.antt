use Rattle.router_laws_suiting.proofs.Applied.{receipt_applies}
use Rattle.router_laws_suiting.proofs.scripts.effects_of_deliveries_apply.Goals as goal

pub returns : goal.returns
returns c = receipt_applies
