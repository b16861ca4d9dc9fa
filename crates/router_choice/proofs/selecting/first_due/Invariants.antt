-- none of those before is to select
use Rattle.std.proofs.Common.{◌≡◌, drop}
use Rattle.std.specs.Prelude.{find}
use Rattle.router_choice.specs.Selecting.{selects}
use Rattle.router_choice.proofs.selecting.first_due.Given as goal

abbrev pub invariant-each : goal.invariant-each
invariant-each l =
    find (selects l.services l.queues.services_done l.activity.0 l.target) (drop l.service-index l.starters)
    ≡ find (selects l.services l.queues.services_done l.activity.0 l.target) l.starters
