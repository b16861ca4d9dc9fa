-- the names so far are listed, and those that are left have room
use Rattle.std.proofs.Common.{◌≤◌, ◌+◌, length, take}
use Rattle.rows_index.specs.Index.{IsIndex}
use Rattle.router_roots.specs.Roots.{name_entry}
use Rattle.router_roots.proofs.filling.names_of.Given as goal

abbrev pub invariant-rows : goal.invariant-rows
invariant-rows l = record {
  listed : IsIndex name_entry (take l.row-index l.names) l.entries.rows;
  room : length l.names ≤ l.entries.room + l.row-index;
}
