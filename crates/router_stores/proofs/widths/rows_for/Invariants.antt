-- the sum so far, and that of the others
use Rattle.std.proofs.Common.{◌≡◌, ◌+◌, drop}
use Rattle.router_stores.specs.Views.{widths}
use Rattle.router_stores.proofs.widths.rows_for.Given as goal

abbrev pub invariant-each : goal.invariant-each
invariant-each l = l.all + widths (drop l.change-index l.changes) ≡ widths l.changes
