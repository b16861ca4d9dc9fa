-- the fields that are left, and that a test that fails of them fails of all
use Rattle.std.proofs.Common.{◌≡◌, ◌++◌, List, ℕ, false, map}
use Rattle.std.specs.List.{list_all}
use Rattle.std.specs.Vec.Iter.{into_iter_items}
use Rattle.slee_value.specs.Name.{is_name}
use Rattle.slee_value.specs.declared.ids.EntityId.{EntityId}
use Rattle.slee_value.specs.declared.value.Value.{Value}
use Rattle.router_state.specs.declared.rows.Field.{Field}
use Rattle.snapshot_read.proofs.holding.add_fields.Given as goal

abbrev pub field_of : EntityId → List ℕ × Value → Field
field_of entity f = record { entity = entity; name = f.0; value = f.1 }

abbrev pub invariant-pairs : goal.invariant-pairs
invariant-pairs l = record {
  can_next : (goal.iterator-pairs).can_next l.pair-iterator;
  is_finite : (goal.iterator-pairs).is_finite l.pair-iterator;
  rows : l.fields.items ++ map (field_of l.entity) (into_iter_items l.pair-iterator) ≡ l.fn.fields.items ++ map (field_of l.entity) l.fn.pairs.items;
  fails : list_all (λ f. is_name f.0) (into_iter_items l.pair-iterator) ≡ false → list_all (λ f. is_name f.0) l.fn.pairs.items ≡ false;
}
