use Rattle.std.proofs.Common.{◌≡◌, ◌++◌, drop}
use Rattle.router_state.specs.Timers.{advanced}
use Rattle.router_closing.proofs.timers.advanced.Given as goal

abbrev pub invariant-rows : goal.invariant-rows
invariant-rows g l = l.all.items ++ advanced (drop l.row-index l.rows) l.to ≡ advanced l.rows l.to
