-- the order has the attachments of the state
use Rattle.router_stores.proofs.stores.Stores.order.Goals as goal

pub returns : goal.returns
returns c = rw (← c.self.view_is) c.self.invariant.ordered
