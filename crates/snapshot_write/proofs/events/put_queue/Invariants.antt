-- the bytes so far and those of the other rows
use Rattle.std.proofs.Common.{◌≡◌, ◌++◌, length}
use Rattle.std.specs.Prelude.{flat_map}
use Rattle.slee_value.specs.Bytes.{spelled_u64}
use Rattle.deploy_model.specs.Resolving.{deployed_of}
use Rattle.router_state.specs.Snapshot.{spelled_event}
use Rattle.snapshot_write.proofs.events.put_queue.Given as goal

abbrev pub invariant-rows : goal.invariant-rows
invariant-rows l =
    l.into.items ++ flat_map (λ q. spelled_event (deployed_of l.deployment.parts) q.event) l.row-iterator ≡ l.fn.into.items ++ (spelled_u64 (length l.fn.rows) ++ flat_map (λ q. spelled_event (deployed_of l.deployment.parts) q.event) l.fn.rows)
