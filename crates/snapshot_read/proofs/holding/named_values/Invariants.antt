-- the values that are left, and that a test that fails of them fails of all
use Rattle.std.proofs.Common.{◌≡◌, ◌++◌, false}
use Rattle.std.specs.Prelude.{IsTrue}
use Rattle.std.specs.List.{list_all}
use Rattle.std.specs.Vec.Iter.{into_iter_items}
use Rattle.slee_value.specs.Name.{is_name}
use Rattle.slee_value.specs.Order.{names_of}
use Rattle.snapshot_read.proofs.holding.named_values.Given as goal

abbrev pub invariant-pairs : goal.invariant-pairs
invariant-pairs l = record {
  can_next : (goal.iterator-pairs).can_next l.pair-iterator;
  is_finite : (goal.iterator-pairs).is_finite l.pair-iterator;
  named : IsTrue (list_all is_name (names_of l.fields.items));
  rows : l.fields.items ++ into_iter_items l.pair-iterator ≡ l.fn.pairs.items;
  fails : list_all (λ f. is_name f.0) (into_iter_items l.pair-iterator) ≡ false → list_all (λ f. is_name f.0) l.fn.pairs.items ≡ false;
}
