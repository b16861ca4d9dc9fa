-- the entity has no child and no attachment
use Rattle.std.proofs.lemmas.Bool.{and_parts}
use Rattle.router_state.specs.Fitting.{is_childless, is_detached}
use Rattle.router_order.proofs.GrowthLemmas.{is_bare, removed_agrees}
use Rattle.router_stores.proofs.stores.Stores.remove.Goals as goal

pub remove-requires : goal.remove-requires
remove-requires c =
    let can = rw (← c.self.view_is) at c.requires.can in
    let parts = and_parts (is_childless c.self.inside.tree.rows c.args.entity.0) (is_detached c.self.inside.contexts.links c.args.entity.0) can in
    is_bare c.self.inside.tree.rows c.args.entity.0 parts.0

pub invariant_of-self : goal.invariant_of-self
invariant_of-self c =
    let can = rw (← c.self.view_is) at c.requires.can in
    let parts = and_parts (is_childless c.self.inside.tree.rows c.args.entity.0) (is_detached c.self.inside.contexts.links c.args.entity.0) can in record {
      ordered = removed_agrees _ _ _ _ _ _ c.ordered.ensures.kept c.remove.ensures.rows parts.0 parts.1 c.self.invariant.ordered;
      tables = c.self.invariant.tables;
      ready = c.self.invariant.ready;
    }
