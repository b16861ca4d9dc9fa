-- the names so far and those to come
use Rattle.std.proofs.Common.{◌≡◌, ◌++◌, drop, map}
use Rattle.snapshot_check.specs.Roots.{external_names}
use Rattle.snapshot_check.proofs.differing.external_names.Given as goal

abbrev pub invariant-rows : goal.invariant-rows
invariant-rows l = map (λ name. name.now) l.names.items ++ external_names (drop l.row-index l.activities) ≡ external_names l.activities
