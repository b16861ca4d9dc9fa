-- those so far that are ready, and those of the activities that are left, are all that are ready
use Rattle.std.proofs.Common.{◌≡◌, ◌≤◌, ◌+◌, ◌++◌, length, drop}
use Rattle.snapshot_stores.specs.Ready.{ready_among}
use Rattle.snapshot_stores.proofs.ordering.ready_of.Given as goal

abbrev pub invariant-activities : goal.invariant-activities
invariant-activities l =
    let among = ready_among l.queues.events l.queues.suspensions in
    record {
      ready : l.ready.rows ++ among (drop l.activity-index l.activities) ≡ among l.activities;
      room : length l.activities ≤ l.ready.room + l.activity-index;
    }
