-- the keys so far and the rows to come
use Rattle.std.proofs.Common.{◌≡◌, ◌++◌, drop, map}
use Rattle.router_state.specs.Profiles.{value_of}
use Rattle.snapshot_check.specs.Roots.{value_view, view_of}
use Rattle.snapshot_check.proofs.differing.value_keys.Given as goal

abbrev pub invariant-rows : goal.invariant-rows
invariant-rows l = map value_view l.keys.items ++ map (λ row. view_of (value_of row.attributes l.name)) (drop l.row-index l.rows) ≡ map (λ row. view_of (value_of row.attributes l.name)) l.rows
