-- the services that are left turn out as all do
use Rattle.std.proofs.Common.{◌≡◌, drop}
use Rattle.router_state.specs.Closed.{are_stopping_with_trees}
use Rattle.snapshot_check.proofs.closed.are_stopping_among.Given as goal

abbrev pub invariant-services : goal.invariant-services
invariant-services l = are_stopping_with_trees l.entities l.number (drop l.number l.services) ≡ are_stopping_with_trees l.entities 0 l.services
