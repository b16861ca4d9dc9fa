-- what the changes that are left lead to, and that they may be made in both
use Rattle.std.proofs.Common.{◌≡◌, ◌≤◌}
use Rattle.std.specs.Vec.Iter.{into_iter_items}
use Rattle.router_state.specs.Changes.{after_changes}
use Rattle.router_stores.specs.Making.{CanMakeAll}
use Rattle.router_stores.specs.Views.{HasRoom, widths}
use Rattle.router_roots.specs.Room.{all_added}
use Rattle.router_roots.specs.Roots.{AreRootsOf}
use Rattle.router_roots.proofs.changing.change_both.Given as goal

abbrev pub invariant-each : goal.invariant-each
invariant-each l = record {
  can_next : (goal.iterator-each).can_next l.change-iterator;
  is_finite : (goal.iterator-each).is_finite l.change-iterator;
  state : after_changes (into_iter_items l.change-iterator) l.stores.state ≡ after_changes l.fn.changes.items l.fn.stores.state;
  room : HasRoom (widths (into_iter_items l.change-iterator)) l.stores;
  roots_room : all_added (into_iter_items l.change-iterator) ≤ l.roots.room;
  can : CanMakeAll (into_iter_items l.change-iterator) l.stores.state;
  roots : AreRootsOf l.stores.state l.roots;
}
