-- the rows of the entities that are left, and that a test that fails of these fails of all
use Rattle.std.proofs.Common.{◌≡◌, ◌++◌, false, map, flat_map}
use Rattle.std.specs.Prelude.{filter_map}
use Rattle.std.specs.List.{list_all}
use Rattle.std.specs.Vec.Iter.{into_iter_items}
use Rattle.router_state.specs.Restoring.{entity_of, root_name_of, fields_of}
use Rattle.snapshot_read.specs.Holding.{holds_entity}
use Rattle.snapshot_read.proofs.entity_rows.entity_rows.Given as goal

abbrev pub invariant-parts : goal.invariant-parts
invariant-parts l = record {
  can_next : (goal.iterator-parts).can_next l.part-iterator;
  is_finite : (goal.iterator-parts).is_finite l.part-iterator;
  entities : l.rows.entities.items ++ map entity_of (into_iter_items l.part-iterator) ≡ map entity_of l.fn.parts.items;
  root_names : l.rows.root_names.items ++ filter_map root_name_of (into_iter_items l.part-iterator) ≡ filter_map root_name_of l.fn.parts.items;
  fields : l.rows.fields.items ++ flat_map fields_of (into_iter_items l.part-iterator) ≡ flat_map fields_of l.fn.parts.items;
  fails : list_all holds_entity (into_iter_items l.part-iterator) ≡ false → list_all holds_entity l.fn.parts.items ≡ false;
}
