-- the suspensions so far and the others that end are all
use Rattle.std.proofs.Common.{◌≡◌, ◌++◌, filter}
use Rattle.std.specs.Prelude.{nat_le}
use Rattle.router_inputs.proofs.clock.ending_suspensions.Given as goal

abbrev pub invariant-rows : goal.invariant-rows
invariant-rows l = l.list.items ++ filter (λ row. nat_le row.until l.to) l.row-iterator ≡ filter (λ row. nat_le row.until l.to) l.queues.suspensions
