-- the attachment comes to both
use Rattle.router_stores.proofs.stores.Stores.attach.Goals as goal

pub invariant_of-self : goal.invariant_of-self
invariant_of-self c = record {
  ordered = rw c.attach-2.ensures.attached (c.attach.ensures.agrees _ c.self.invariant.ordered);
  tables = c.self.invariant.tables;
  ready = c.self.invariant.ready;
}
