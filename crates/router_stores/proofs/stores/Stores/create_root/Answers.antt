-- the new entity has the next number, and what was listed stays so
use Rattle.std.proofs.Common.{refl}
use Rattle.router_order.proofs.GrowthLemmas.{created_agrees}
use Rattle.router_stores.proofs.stores.Stores.create_root.Goals as goal

pub invariant_of-self : goal.invariant_of-self
invariant_of-self c = record {
  ordered = created_agrees _ _ _ _ _ _ c.ordered.ensures.kept c.create_root.ensures.rows refl c.ordered.ensures.kept.from_one c.self.invariant.ordered;
  tables = c.self.invariant.tables;
  ready = c.self.invariant.ready;
}
