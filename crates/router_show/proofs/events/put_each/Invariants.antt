-- the lines so far and those of the others
use Rattle.std.proofs.Common.{◌≡◌, ◌++◌, drop, map}
use Rattle.router_state.specs.Show.{pending_line}
use Rattle.trace_history.specs.Lines.{line_texts}
use Rattle.router_show.proofs.events.put_each.Given as goal

abbrev pub invariant-events : goal.invariant-events
invariant-events l =
    l.into.items ++ line_texts (map (pending_line l.stores.state) (map (λ q. q.now) (drop l.event-index l.events))) ≡ l.fn.into.items ++ line_texts (map (pending_line l.stores.state) (map (λ q. q.now) l.events))
