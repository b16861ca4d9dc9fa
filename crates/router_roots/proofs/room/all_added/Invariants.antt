-- the sum so far, and that of the others; no change adds more than one
use Rattle.std.proofs.Common.{◌≡◌, ◌+◌, ◌≤◌, drop}
use Rattle.router_roots.specs.Room.{all_added}
use Rattle.router_roots.proofs.room.all_added.Given as goal

abbrev pub invariant-each : goal.invariant-each
invariant-each l = record {
  sum : l.all + all_added (drop l.change-index l.changes) ≡ all_added l.changes;
  most : l.all ≤ l.change-index;
}
