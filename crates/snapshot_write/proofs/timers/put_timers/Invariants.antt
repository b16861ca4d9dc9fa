-- the bytes so far and those of the other rows
use Rattle.std.proofs.Common.{◌≡◌, ◌++◌, drop, length}
use Rattle.std.specs.Prelude.{flat_map}
use Rattle.slee_value.specs.Bytes.{spelled_u64}
use Rattle.router_state.specs.Snapshot.{spelled_timer}
use Rattle.snapshot_write.proofs.timers.put_timers.Given as goal

abbrev pub invariant-rows : goal.invariant-rows
invariant-rows l =
    l.into.items ++ flat_map spelled_timer (drop l.place l.timers.timers) ≡ l.fn.into.items ++ (spelled_u64 (length l.timers.timers) ++ flat_map spelled_timer l.timers.timers)
