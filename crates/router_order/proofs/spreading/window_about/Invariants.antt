-- the one end isn't behind the other
use Rattle.std.proofs.Common.{◌-◌, ◌≤◌}
use Rattle.router_order.proofs.spreading.window_about.Given as goal

abbrev pub invariant-wider : goal.invariant-wider
invariant-wider l = l.from ≤ l.to

abbrev pub decreases-wider : goal.decreases-wider
decreases-wider l = 16777216 - l.steps
