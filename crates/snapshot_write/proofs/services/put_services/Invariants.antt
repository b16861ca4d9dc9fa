-- the count is written, and so are the rows so far
use Rattle.std.proofs.Common.{◌≡◌, ◌++◌, length, take}
use Rattle.std.specs.Prelude.{flat_map}
use Rattle.slee_value.specs.Bytes.{spelled_u64}
use Rattle.router_state.specs.Snapshot.{spelled_service}
use Rattle.snapshot_write.proofs.services.put_services.Given as goal

abbrev pub invariant-rows : goal.invariant-rows
invariant-rows l = l.into.items ≡ l.fn.into.items ++ (spelled_u64 (length l.rows) ++ flat_map spelled_service (take l.row-index l.rows))
