-- the names so far and the others
use Rattle.std.proofs.Common.{◌≡◌, ◌++◌, drop}
use Rattle.router_stores.proofs.table_specs.names_of.Given as goal

abbrev pub invariant-loop-name : goal.invariant-loop-name
invariant-loop-name l = l.copied.items ++ drop l.name-index l.names ≡ l.names
