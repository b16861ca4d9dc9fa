-- the attachment is taken from both
use Rattle.router_stores.proofs.stores.Stores.detach.Goals as goal

pub invariant_of-self : goal.invariant_of-self
invariant_of-self c = record {
  ordered = rw c.detach-2.ensures.detached (c.detach.ensures.agrees _ c.self.invariant.ordered);
  tables = c.self.invariant.tables;
  ready = c.self.invariant.ready;
}
