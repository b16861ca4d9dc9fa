-- one row more comes to the end
use Rattle.std.proofs.Common.{length, arith, ap}
use Rattle.router_state.specs.Queues.{service_mark_before}
use Rattle.event_queue.specs.Views.{QueuesView}
use Rattle.router_state.specs.Keys.{service_mark_key}
use Rattle.snapshot_stores.proofs.FillLemmas.{turn}
use Rattle.snapshot_stores.proofs.KeptLemmas.{more_services}
use Rattle.snapshot_stores.proofs.OrderedLemmas as orders
use Rattle.snapshot_stores.proofs.queues.add_services.Goals as goal

pub rows-preserved : goal.rows-preserved
rows-preserved c =
    let cut = c.in-Some.ensures.steps.0 in
    let count = ap length cut in
    record {
      can_next = tt;
      is_finite = tt;
      rows = turn service_mark_key service_mark_before orders.services_done _ _ _ _ _ _ c.requires.rises cut (ap (λ (x : QueuesView). x.services_done) c.mark_service.ensures.rows) c.rows.invariant.rows;
      kept = more_services c.args.queues.now _ _ _ c.rows.invariant.kept c.mark_service.ensures.rows;
      room = omega (arith, count, c.rows.invariant.room, c.mark_service.ensures.room);
    }
