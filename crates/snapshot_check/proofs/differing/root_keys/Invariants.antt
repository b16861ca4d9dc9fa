-- the keys so far and the rows to come
use Rattle.std.proofs.Common.{◌≡◌, ◌++◌, drop, map}
use Rattle.snapshot_check.specs.Roots.{root_row, root_view}
use Rattle.snapshot_check.proofs.differing.root_keys.Given as goal

abbrev pub invariant-names : goal.invariant-names
invariant-names l = map root_view l.keys.items ++ map (root_row l.entities) (drop l.row-index l.names) ≡ map (root_row l.entities) l.names
