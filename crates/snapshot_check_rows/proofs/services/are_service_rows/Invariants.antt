-- the services that are left turn out as all do
use Rattle.std.proofs.Common.{◌≡◌, drop}
use Rattle.router_state.specs.WellContexts.{are_services_from}
use Rattle.snapshot_check_rows.proofs.services.are_service_rows.Given as goal

abbrev pub invariant-services : goal.invariant-services
invariant-services l = are_services_from l.activities l.number (drop l.number l.services) ≡ are_services_from l.activities 0 l.services
