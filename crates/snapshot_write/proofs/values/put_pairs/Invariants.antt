-- the count is written, and so are the pairs so far
use Rattle.std.proofs.Common.{◌≡◌, ◌++◌, length, take}
use Rattle.std.specs.Prelude.{flat_map}
use Rattle.slee_value.specs.Bytes.{spelled_u64}
use Rattle.router_state.specs.Snapshot.{spelled_pair}
use Rattle.snapshot_write.proofs.values.put_pairs.Given as goal

abbrev pub invariant-pairs : goal.invariant-pairs
invariant-pairs l = l.into.items ≡ l.fn.into.items ++ (spelled_u64 (length l.pairs) ++ flat_map spelled_pair (take l.pair-index l.pairs))
