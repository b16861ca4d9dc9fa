-- the bytes so far and those of the other rows
use Rattle.std.proofs.Common.{◌≡◌, ◌++◌, drop, length}
use Rattle.std.specs.Prelude.{flat_map}
use Rattle.slee_value.specs.Bytes.{spelled_u64}
use Rattle.router_state.specs.Snapshot.{spelled_link}
use Rattle.snapshot_write.proofs.links.put_links.Given as goal

abbrev pub invariant-rows : goal.invariant-rows
invariant-rows l =
    l.into.items ++ flat_map (spelled_link l.stores.state) (drop l.place l.stores.state.links) ≡ l.fn.into.items ++ (spelled_u64 (length l.stores.state.links) ++ flat_map (spelled_link l.stores.state) l.stores.state.links)
