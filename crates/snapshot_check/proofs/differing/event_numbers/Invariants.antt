-- the numbers so far and those to come
use Rattle.std.proofs.Common.{◌≡◌, ◌++◌, drop, map}
use Rattle.snapshot_check.proofs.differing.event_numbers.Given as goal

abbrev pub invariant-events : goal.invariant-events
invariant-events l = l.numbers.items ++ map (λ q. q.event.id.0) (drop l.row-index l.events) ≡ map (λ q. q.event.id.0) l.events
