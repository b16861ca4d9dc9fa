use Rattle.router_laws_applying.proofs.Beginning.{delivery_behind}
use Rattle.router_laws_applying.proofs.turns.effects_are_seen_as_done.Goals as goal

pub returns : goal.returns
returns c = delivery_behind
