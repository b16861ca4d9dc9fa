-- the order follows the priority
use Rattle.router_stores.proofs.stores.Stores.set_priority.Goals as goal

pub invariant_of-self : goal.invariant_of-self
invariant_of-self c = record {
  ordered = c.set_priority.ensures.agrees _ c.self.invariant.ordered;
  tables = c.self.invariant.tables;
  ready = c.self.invariant.ready;
}
