-- one more activity was looked at
use Rattle.std.proofs.Common.{drop, ◌+◌, arith}
use Rattle.snapshot_stores.proofs.ReadyLemmas.{cut_at, ready_step}
use Rattle.snapshot_stores.proofs.ordering.ready_of.Goals as goal

pub activities-preserved : goal.activities-preserved
activities-preserved c =
    let activities = c.args.activities.now in
    let i = c.activities.activity-index in
    record {
      ready = ready_step c.args.queues.now.events c.args.queues.now.suspensions activities (drop i activities) (drop (i + 1) activities) c.activities.ready.rows _ c.activity-item.result c.requires (cut_at activities i c.activity-item.result c.activities-test.true c.activity-item.is) c.add_ready.ensures.rows c.activities.invariant.ready;
      room = omega (arith, c.activities.invariant.room, c.add_ready.ensures.room);
    }
