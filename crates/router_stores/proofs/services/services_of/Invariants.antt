-- the services so far and those of the others
use Rattle.std.proofs.Common.{◌≡◌, ◌++◌, drop}
use Rattle.std.specs.Prelude.{map}
use Rattle.router_stores.specs.Begun.{begins}
use Rattle.router_stores.proofs.services.services_of.Given as goal

abbrev pub invariant-loop-service : goal.invariant-loop-service
invariant-loop-service l = l.services.items ++ map begins (drop l.service-index l.deployed) ≡ map begins l.deployed
