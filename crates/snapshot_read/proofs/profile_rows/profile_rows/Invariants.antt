-- the rows that are left, and that a test that fails of them fails of all
use Rattle.std.proofs.Common.{◌≡◌, ◌++◌, false}
use Rattle.std.specs.List.{list_all}
use Rattle.std.specs.Vec.Iter.{into_iter_items}
use Rattle.snapshot_read.specs.Holding.{holds_row}
use Rattle.snapshot_read.proofs.profile_rows.profile_rows.Given as goal

abbrev pub invariant-parts : goal.invariant-parts
invariant-parts l = record {
  can_next : (goal.iterator-parts).can_next l.part-iterator;
  is_finite : (goal.iterator-parts).is_finite l.part-iterator;
  rows : l.rows.items ++ into_iter_items l.part-iterator ≡ l.fn.parts.items;
  fails : list_all holds_row (into_iter_items l.part-iterator) ≡ false → list_all holds_row l.fn.parts.items ≡ false;
}
