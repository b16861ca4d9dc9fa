-- the services so far and those to come
use Rattle.std.proofs.Common.{◌≡◌, ◌++◌, drop}
use Rattle.snapshot_check.specs.Closing.{services_with_trees}
use Rattle.snapshot_check.proofs.closed.services_with_trees.Given as goal

abbrev pub invariant-rows : goal.invariant-rows
invariant-rows l = l.services.items ++ services_with_trees (drop l.row-index l.entities) ≡ services_with_trees l.entities
