-- one attachment more was gone through
use Rattle.router_order.proofs.NextLemmas.{next_considered}
use Rattle.router_order.proofs.next.least.Goals as goal

pub links-preserved : goal.links-preserved
links-preserved g c = next_considered c.args.tree.now.rows _ _ _ _ c.links.link-iterator _ c.in-Some.link.now c.in-Some.ensures.steps c.consider-best.ensures c.links.invariant
