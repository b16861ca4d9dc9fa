-- the events that are left, and that a test that fails of them fails of all
use Rattle.std.proofs.Common.{◌≡◌, ◌++◌, false, map}
use Rattle.std.specs.List.{list_all}
use Rattle.std.specs.Vec.Iter.{into_iter_items}
use Rattle.slee_value.specs.Fields.{are_fields}
use Rattle.slee_value.specs.declared.ids.ActivityId.{ActivityId}
use Rattle.router_state.specs.declared.rows.Event.{Event}
use Rattle.router_state.specs.declared.rows.Queued.{Queued}
use Rattle.snapshot_read.proofs.activity_rows.add_events.Given as goal

abbrev pub queued_of : ActivityId → Event → Queued
queued_of activity event = record { activity = activity; event = event }

abbrev pub invariant-parts : goal.invariant-parts
invariant-parts l = record {
  can_next : (goal.iterator-parts).can_next l.part-iterator;
  is_finite : (goal.iterator-parts).is_finite l.part-iterator;
  rows : l.events.items ++ map (queued_of l.activity) (into_iter_items l.part-iterator) ≡ l.fn.events.items ++ map (queued_of l.activity) l.fn.parts.items;
  fails : list_all (λ event. are_fields event.fields) (into_iter_items l.part-iterator) ≡ false → list_all (λ event. are_fields event.fields) l.fn.parts.items ≡ false;
}
