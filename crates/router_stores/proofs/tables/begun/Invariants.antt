-- the activities of the tables so far, and room for the others
use Rattle.std.proofs.Common.{◌+◌, ◌≤◌}
use Rattle.router_stores.specs.Begun.{IsBegun}
use Rattle.router_stores.proofs.tables.begun.Given as goal

abbrev pub invariant-tables : goal.invariant-tables
invariant-tables l = record {
  begun : IsBegun l.number l.contexts;
  room : l.tables ≤ l.number + l.contexts.rooms.activities;
}
