-- the count is written, and so are the rows so far
use Rattle.std.proofs.Common.{◌≡◌, ◌++◌, length, take}
use Rattle.std.specs.Prelude.{flat_map}
use Rattle.slee_value.specs.Bytes.{spelled_u64}
use Rattle.deploy_model.specs.Resolving.{deployed_of}
use Rattle.router_state.specs.Snapshot.{spelled_row}
use Rattle.snapshot_write.proofs.profiles.put_rows.Given as goal

abbrev pub invariant-rows : goal.invariant-rows
invariant-rows l =
    l.into.items ≡ l.fn.into.items ++ (spelled_u64 (length l.rows) ++ flat_map (λ row. spelled_row (deployed_of l.deployment.parts) row.now) (take l.row-index l.rows))
