-- the bytes so far and those of the other rows
use Rattle.std.proofs.Common.{◌≡◌, ◌++◌, length}
use Rattle.std.specs.Prelude.{flat_map}
use Rattle.slee_value.specs.Bytes.{spelled_u32, spelled_u64}
use Rattle.snapshot_write.proofs.activities.put_services_done.Given as goal

abbrev pub invariant-rows : goal.invariant-rows
invariant-rows l =
    l.into.items ++ flat_map (λ m. spelled_u32 m.service) l.row-iterator ≡ l.fn.into.items ++ (spelled_u64 (length l.fn.rows) ++ flat_map (λ m. spelled_u32 m.service) l.fn.rows)
