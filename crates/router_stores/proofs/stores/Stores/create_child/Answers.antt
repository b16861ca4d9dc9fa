-- the new entity has the next number, and what was listed stays so
use Rattle.std.proofs.Common.{refl}
use Rattle.std.proofs.lemmas.Bool.{and_parts}
use Rattle.entity_tree.proofs.KeptLemmas.{there_is_drawn}
use Rattle.router_order.proofs.GrowthLemmas.{created_agrees}
use Rattle.router_stores.proofs.stores.Stores.create_child.Goals as goal

pub invariant_of-self : goal.invariant_of-self
invariant_of-self c =
    let can = rw (← c.self.view_is) at c.requires.can in
    let there = and_parts _ _ can in
    let lower = there_is_drawn _ _ _ c.ordered.ensures.kept there.0 in record {
      ordered = created_agrees _ _ _ _ _ _ c.ordered.ensures.kept c.create_child.ensures.rows refl lower c.self.invariant.ordered;
      tables = c.self.invariant.tables;
      ready = c.self.invariant.ready;
    }
