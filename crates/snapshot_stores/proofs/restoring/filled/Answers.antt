-- the rows are those of a state that can be stored, and the stores hold them
use Rattle.std.proofs.Common.{◌≡◌, true, List, sym, subst}
use Rattle.std.specs.List.{AllByRecursion}
use Rattle.router_state.specs.declared.rows.Entity.{Entity}
use Rattle.router_state.specs.declared.rows.Link.{Link}
use Rattle.entity_tree.specs.Kept.{is_entity}
use Rattle.snapshot_stores.proofs.FilledLemmas.{agrees_so, ready_so}
use Rattle.snapshot_stores.proofs.restoring.filled.Goals as goal

pub flat_stores-requires : goal.flat_stores-requires
flat_stores-requires c = record {
  fields = c.requires.ordered.fields;
  masks = c.requires.ordered.masks;
  root_names = c.requires.ordered.root_names;
  timers = c.requires.ordered.timers;
  timers_below = c.requires.ordered.timers_below;
  rows = c.requires.ordered.rows;
}

pub order_of-requires-clause-there : goal.order_of-requires-clause-there
order_of-requires-clause-there c =
    rw c.as_slice.ensures.value (subst (λ (es : List Entity). AllByRecursion (λ (l : Link). is_entity es l.entity.0 ≡ true) c.args.rows.links.items) (sym c.in_ok-tree.ensures.rows) c.requires.attached)

pub returns-clause-filled : goal.returns-clause-filled
returns-clause-filled c = record {
  ordered = agrees_so _ c.args.rows.links.items _ _ c.in_ok-contexts.ensures.links (rw c.as_slice.ensures.value at c.in_ok-order.ensures);
  tables = c.in_ok-flat.ensures.tables;
  ready = ready_so c.args.rows.events.items _ _ c.args.rows.activities.items _ c.in_ok-queues.ensures.events (rw c.deref.ensures.value at c.in_ok-ready.ensures) c.requires.waiting;
}
