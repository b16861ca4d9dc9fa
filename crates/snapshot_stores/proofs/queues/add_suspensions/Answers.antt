-- one row more comes to the end
use Rattle.std.proofs.Common.{length, arith, ap}
use Rattle.router_state.specs.Queues.{suspension_before}
use Rattle.event_queue.specs.Views.{QueuesView}
use Rattle.router_state.specs.Keys.{suspension_key}
use Rattle.snapshot_stores.proofs.FillLemmas.{turn}
use Rattle.snapshot_stores.proofs.KeptLemmas.{more_suspensions}
use Rattle.snapshot_stores.proofs.OrderedLemmas as orders
use Rattle.snapshot_stores.proofs.queues.add_suspensions.Goals as goal

pub rows-preserved : goal.rows-preserved
rows-preserved c =
    let cut = c.in-Some.ensures.steps.0 in
    let count = ap length cut in
    record {
      can_next = tt;
      is_finite = tt;
      rows = turn suspension_key suspension_before orders.suspensions _ _ _ _ _ _ c.requires.rises cut (ap (λ (x : QueuesView). x.suspensions) c.hold.ensures.rows) c.rows.invariant.rows;
      kept = more_suspensions c.args.queues.now _ _ _ c.rows.invariant.kept c.hold.ensures.rows;
      room = omega (arith, count, c.rows.invariant.room, c.hold.ensures.room);
    }
