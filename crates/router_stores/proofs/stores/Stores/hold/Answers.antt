-- the activity is listed anew
use Rattle.std.proofs.Common.{ap}
use Rattle.event_queue.specs.Views.{QueuesView}
use Rattle.router_stores.proofs.ReadyLemmas.{held_on}
use Rattle.router_stores.proofs.stores.Stores.hold.Goals as goal

pub invariant_of-self : goal.invariant_of-self
invariant_of-self c = record {
  ordered = c.self.invariant.ordered;
  tables = c.self.invariant.tables;
  ready = held_on c.args.activity.0 c.self.inside.ready.rows _ c.self.inside.queues c.hold.new.self c.self.invariant.ready c.list_ready.ensures.own c.list_ready.ensures.others c.args.until (ap (λ (q : QueuesView). q.suspensions) c.hold.ensures.rows) (ap (λ (q : QueuesView). q.events) c.hold.ensures.rows);
}
