-- the rows of the activities that are left, and that a test that fails of these fails of all
use Rattle.std.proofs.Common.{◌≡◌, ◌++◌, false, map, flat_map}
use Rattle.std.specs.Prelude.{filter_map}
use Rattle.std.specs.List.{list_all}
use Rattle.std.specs.Vec.Iter.{into_iter_items}
use Rattle.router_state.specs.Restoring.{activity_of, attributes_of, events_of, services_done_of, delivered_of, suspension_of}
use Rattle.snapshot_read.specs.Holding.{holds_activity}
use Rattle.snapshot_read.proofs.activity_rows.activity_rows.Given as goal

abbrev pub invariant-parts : goal.invariant-parts
invariant-parts l = record {
  can_next : (goal.iterator-parts).can_next l.part-iterator;
  is_finite : (goal.iterator-parts).is_finite l.part-iterator;
  activities : l.rows.activities.items ++ map activity_of (into_iter_items l.part-iterator) ≡ map activity_of l.fn.parts.items;
  attributes : l.rows.attributes.items ++ flat_map attributes_of (into_iter_items l.part-iterator) ≡ flat_map attributes_of l.fn.parts.items;
  events : l.rows.events.items ++ flat_map events_of (into_iter_items l.part-iterator) ≡ flat_map events_of l.fn.parts.items;
  services_done : l.rows.services_done.items ++ flat_map services_done_of (into_iter_items l.part-iterator) ≡ flat_map services_done_of l.fn.parts.items;
  delivered : l.rows.delivered.items ++ flat_map delivered_of (into_iter_items l.part-iterator) ≡ flat_map delivered_of l.fn.parts.items;
  suspensions : l.rows.suspensions.items ++ filter_map suspension_of (into_iter_items l.part-iterator) ≡ filter_map suspension_of l.fn.parts.items;
  fails : list_all holds_activity (into_iter_items l.part-iterator) ≡ false → list_all holds_activity l.fn.parts.items ≡ false;
}
