-- the attributes that are left
use Rattle.std.proofs.Common.{◌≡◌, ◌++◌, List, ℕ, map}
use Rattle.std.specs.Vec.Iter.{into_iter_items}
use Rattle.slee_value.specs.declared.ids.ActivityId.{ActivityId}
use Rattle.slee_value.specs.declared.value.Value.{Value}
use Rattle.router_state.specs.declared.rows.Attribute.{Attribute}
use Rattle.snapshot_read.proofs.activity_rows.add_attributes.Given as goal

abbrev pub attribute_of : ActivityId → List ℕ × Value → Attribute
attribute_of activity f = record { activity = activity; key = f.0; value = f.1 }

abbrev pub invariant-pairs : goal.invariant-pairs
invariant-pairs l = record {
  can_next : (goal.iterator-pairs).can_next l.pair-iterator;
  is_finite : (goal.iterator-pairs).is_finite l.pair-iterator;
  rows : l.attributes.items ++ map (attribute_of l.activity) (into_iter_items l.pair-iterator) ≡ l.fn.attributes.items ++ map (attribute_of l.activity) l.fn.pairs.items;
}
