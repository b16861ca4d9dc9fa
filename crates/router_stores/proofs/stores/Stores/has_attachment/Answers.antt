-- the order has the attachments of the state
use Rattle.router_stores.proofs.stores.Stores.has_attachment.Goals as goal

pub returns : goal.returns
returns c = rw (← c.self.view_is) (c.has.ensures c.self.inside.tree.rows c.self.inside.contexts.links c.ordered.ensures.links c.self.invariant.ordered)
