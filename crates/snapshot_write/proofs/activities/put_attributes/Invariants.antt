-- the bytes so far and those of the other rows
use Rattle.std.proofs.Common.{◌≡◌, ◌++◌, length}
use Rattle.std.specs.Prelude.{flat_map}
use Rattle.slee_value.specs.Bytes.{spelled_u64}
use Rattle.router_state.specs.Snapshot.{spelled_pair}
use Rattle.snapshot_write.proofs.activities.put_attributes.Given as goal

abbrev pub invariant-rows : goal.invariant-rows
invariant-rows l =
    l.into.items ++ flat_map (λ row. spelled_pair (row.key, row.value)) l.row-iterator ≡ l.fn.into.items ++ (spelled_u64 (length l.fn.rows) ++ flat_map (λ row. spelled_pair (row.key, row.value)) l.fn.rows)
