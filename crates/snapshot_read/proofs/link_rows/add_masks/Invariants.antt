-- the masks that are left
use Rattle.std.proofs.Common.{◌≡◌, ◌++◌, List, ℕ, map}
use Rattle.std.specs.Vec.Iter.{into_iter_items}
use Rattle.slee_value.specs.declared.ids.ActivityId.{ActivityId}
use Rattle.slee_value.specs.declared.ids.EntityId.{EntityId}
use Rattle.router_state.specs.declared.rows.Mask.{Mask}
use Rattle.snapshot_read.proofs.link_rows.add_masks.Given as goal

abbrev pub mask_of : EntityId → ActivityId → List ℕ → Mask
mask_of entity activity event = record { entity = entity; activity = activity; event = event }

abbrev pub invariant-events : goal.invariant-events
invariant-events l = record {
  can_next : (goal.iterator-events).can_next l.event-iterator;
  is_finite : (goal.iterator-events).is_finite l.event-iterator;
  rows : l.masks.items ++ map (mask_of l.entity l.activity) (into_iter_items l.event-iterator) ≡ l.fn.masks.items ++ map (mask_of l.entity l.activity) l.fn.events.items;
}
