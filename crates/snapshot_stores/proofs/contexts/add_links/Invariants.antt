-- what is put and what is left are all, and what is left has room
use Rattle.std.proofs.Common.{◌≡◌, ◌≤◌, ◌++◌, length}
use Rattle.std.specs.Vec.Iter.{into_iter_items}
use Rattle.snapshot_stores.proofs.KeptLemmas.{WithLinks}
use Rattle.snapshot_stores.proofs.contexts.add_links.Given as goal

abbrev pub invariant-rows : goal.invariant-rows
invariant-rows l = record {
  can_next : (goal.iterator-rows).can_next l.row-iterator;
  is_finite : (goal.iterator-rows).is_finite l.row-iterator;
  rows : l.contexts.links ++ into_iter_items l.row-iterator ≡ l.fn.rows.items;
  kept : WithLinks l.fn.contexts l.contexts;
  room : length (into_iter_items l.row-iterator) ≤ l.contexts.rooms.links;
}
