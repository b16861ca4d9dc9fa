-- the masks of the events that are left come to those that are there
use Rattle.std.proofs.Common.{◌≡◌, ◌+◌, ◌≤◌, length}
use Rattle.std.specs.Vec.Iter.{into_iter_items}
use Rattle.router_state.specs.Masks.{with_masks}
use Rattle.event_mask.proofs.masks.mask_each.Given as goal

abbrev pub invariant-each : goal.invariant-each
invariant-each l = record {
  can_next : (goal.iterator-each).can_next l.event-iterator;
  is_finite : (goal.iterator-each).is_finite l.event-iterator;
  rows : with_masks l.rows.rows l.fn.entity.0 l.fn.activity.0 (into_iter_items l.event-iterator) ≡ with_masks l.fn.rows.rows l.fn.entity.0 l.fn.activity.0 l.fn.events.items;
  room : length (into_iter_items l.event-iterator) ≤ l.rows.room;
  spent : l.fn.rows.room + length (into_iter_items l.event-iterator) ≤ l.rows.room + length l.fn.events.items;
}
