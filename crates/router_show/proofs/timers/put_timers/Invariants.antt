-- the lines so far and those of the others
use Rattle.std.proofs.Common.{◌≡◌, ◌++◌, drop, map}
use Rattle.router_state.specs.Show.{timer_line}
use Rattle.trace_history.specs.Lines.{line_texts}
use Rattle.router_show.proofs.timers.put_timers.Given as goal

abbrev pub invariant-rows : goal.invariant-rows
invariant-rows l =
    l.into.items ++ line_texts (map timer_line (drop l.place l.timers.timers)) ≡ l.fn.into.items ++ line_texts (map timer_line l.timers.timers)
