-- the entities so far are listed, and those that are left have room
use Rattle.std.proofs.Common.{◌≤◌, ◌+◌, length, take}
use Rattle.rows_index.specs.Index.{IsIndex}
use Rattle.router_roots.specs.Roots.{roots_among, service_entry}
use Rattle.router_roots.proofs.filling.roots_of.Given as goal

abbrev pub invariant-rows : goal.invariant-rows
invariant-rows l = record {
  listed : IsIndex service_entry (roots_among (take l.row-index l.entities)) l.entries.rows;
  room : length l.entities ≤ l.entries.room + l.row-index;
}
