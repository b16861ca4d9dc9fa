-- what is put and what is left are all, and what is left has room
use Rattle.std.proofs.Common.{◌≡◌, ◌≤◌, ◌++◌, length}
use Rattle.std.specs.Vec.Iter.{into_iter_items}
use Rattle.snapshot_stores.proofs.flat.masks_of.Given as goal

abbrev pub invariant-rows : goal.invariant-rows
invariant-rows l = record {
  can_next : (goal.iterator-rows).can_next l.row-iterator;
  is_finite : (goal.iterator-rows).is_finite l.row-iterator;
  rows : l.masks.rows ++ into_iter_items l.row-iterator ≡ l.fn.rows.items;
  room : length (into_iter_items l.row-iterator) ≤ l.masks.room;
}
