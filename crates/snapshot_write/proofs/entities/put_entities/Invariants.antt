-- the bytes so far and those of the other rows
use Rattle.std.proofs.Common.{◌≡◌, ◌++◌, drop, length}
use Rattle.std.specs.Prelude.{flat_map}
use Rattle.slee_value.specs.Bytes.{spelled_u64}
use Rattle.router_state.specs.Snapshot.{spelled_entity}
use Rattle.snapshot_write.proofs.entities.put_entities.Given as goal

abbrev pub invariant-rows : goal.invariant-rows
invariant-rows l =
    l.into.items ++ flat_map (spelled_entity l.stores.state) (drop l.place l.stores.state.entities) ≡ l.fn.into.items ++ (spelled_u64 (length l.stores.state.entities) ++ flat_map (spelled_entity l.stores.state) l.stores.state.entities)
