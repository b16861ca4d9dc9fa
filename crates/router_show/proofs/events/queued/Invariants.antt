-- the events so far and the others
use Rattle.std.proofs.Common.{◌≡◌, ◌++◌, drop, map}
use Rattle.router_show.proofs.events.queued.Given as goal

abbrev pub invariant-events : goal.invariant-events
invariant-events l =
    map (λ q. q.now) l.events.items ++ drop l.place l.queues.events ≡ l.queues.events
