-- the list rises, and has the activities that are ready
use Rattle.router_stores.proofs.ReadyLemmas.{ready_rise}
use Rattle.router_stores.proofs.stores.Stores.ready.Goals as goal

pub returns : goal.returns
returns c = rw (← c.self.view_is, c.iter.ensures) (record { rises = ready_rise c.self.inside.ready.rows c.rises.ensures; listed = c.self.invariant.ready })
