use Rattle.std.proofs.Common.{◌≡◌, ◌++◌, drop}
use Rattle.router_state.specs.Timers.{without_timer}
use Rattle.router_closing.proofs.timers.without.Given as goal

abbrev pub invariant-rows : goal.invariant-rows
invariant-rows l = l.all.items ++ without_timer (drop l.row-index l.rows) l.timer.0 ≡ without_timer l.rows l.timer.0
