-- the stores keep their rows in order
use Rattle.std.proofs.Common.{sym, ◌∙◌}
use Rattle.router_state.proofs.AgreeLemmas.{entity_order, root_name_order}
use Rattle.router_order.proofs.GrowthLemmas.{below_is}
use Rattle.router_stores.proofs.stores.Stores.ordered.Goals as goal

pub returns : goal.returns
returns c = rw (← c.self.view_is) (record {
  entities = sym (entity_order c.self.inside.tree.rows) ∙ c.ordered.ensures.rises;
  entities_below = below_is c.self.inside.tree.next c.self.inside.tree.rows c.ordered.ensures.kept.below;
  root_names = sym (root_name_order c.self.inside.root_names.rows) ∙ c.rises.ensures;
  fields = c.len-fields.ensures.order;
  activities = c.ordered-2.ensures.activities;
  activities_below = c.ordered-2.ensures.below;
  attributes = c.ordered-2.ensures.attributes;
  links = c.ordered-2.ensures.links;
  masks = c.len-masks.ensures.order;
  names = c.ordered-2.ensures.names;
  events = c.len-events.ensures.events;
  services_done = c.len-events.ensures.services_done;
  delivered = c.len-events.ensures.delivered;
  suspensions = c.len-events.ensures.suspensions;
  timers = c.len-timers.ensures.rises;
  timers_below = c.len-timers.ensures.below;
  rows = c.len-rows.ensures.order;
})
