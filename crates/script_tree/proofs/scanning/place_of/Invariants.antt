use Rattle.std.proofs.Common.{◌≡◌, ◌≤◌, ◌+◌, drop}
use Rattle.script_tree.specs.declared.scanning.Place.{Place}
use Rattle.script_tree.specs.Reading.{place_behind}
use Rattle.script_tree.proofs.scanning.place_of.Given as goal

-- the place so far, and no number above the count of bytes
abbrev pub invariant-loop-b : goal.invariant-loop-b
invariant-loop-b l = record {
  whole : place_behind l.place (drop l.b-index l.front) ≡ place_behind (let start : Place = record { line = 1; column = 1 } in start) l.front;
  lines : l.place.line ≤ l.b-index + 1;
  columns : l.place.column ≤ l.b-index + 1;
}
