-- what is in the list and what is left come to all
use Rattle.std.proofs.Common.{◌≡◌, ◌++◌, map, drop}
use Rattle.timer_facility.proofs.listing.activities_of.Given as goal

abbrev pub invariant-loop-timer : goal.invariant-loop-timer
invariant-loop-timer l = l.list.items ++ map (λ row. row.activity.0) (drop l.timer-index l.timers) ≡ map (λ row. row.activity.0) l.fn.timers
