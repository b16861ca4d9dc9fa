-- the attachments to it are taken from both
use Rattle.router_stores.proofs.stores.Stores.drop_context.Goals as goal

pub invariant_of-self : goal.invariant_of-self
invariant_of-self c = record {
  ordered = rw c.drop_context.ensures.links (c.forget_activity.ensures.agrees _ _ c.self.invariant.ordered);
  tables = c.self.invariant.tables;
  ready = c.self.invariant.ready;
}
