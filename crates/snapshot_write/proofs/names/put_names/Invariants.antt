-- the count is written, and so are the names so far
use Rattle.std.proofs.Common.{◌≡◌, ◌++◌, length, take}
use Rattle.std.specs.Prelude.{flat_map}
use Rattle.slee_value.specs.Bytes.{spelled_u64}
use Rattle.router_state.specs.Snapshot.{spelled_name}
use Rattle.snapshot_write.proofs.names.put_names.Given as goal

abbrev pub invariant-names : goal.invariant-names
invariant-names l =
    l.into.items ≡ l.fn.into.items ++ (spelled_u64 (length l.names) ++ flat_map (λ parts. spelled_name (record { name = parts.0.now; activity = parts.1 })) (take l.name-index l.names))
