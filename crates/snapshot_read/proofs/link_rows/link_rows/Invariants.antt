-- the rows of the attachments that are left
use Rattle.std.proofs.Common.{◌≡◌, ◌++◌, map, flat_map}
use Rattle.std.specs.Vec.Iter.{into_iter_items}
use Rattle.router_state.specs.Restoring.{link_of, masks_of}
use Rattle.snapshot_read.proofs.link_rows.link_rows.Given as goal

abbrev pub invariant-parts : goal.invariant-parts
invariant-parts l = record {
  can_next : (goal.iterator-parts).can_next l.part-iterator;
  is_finite : (goal.iterator-parts).is_finite l.part-iterator;
  links : l.rows.links.items ++ map link_of (into_iter_items l.part-iterator) ≡ map link_of l.fn.parts.items;
  masks : l.rows.masks.items ++ flat_map masks_of (into_iter_items l.part-iterator) ≡ flat_map masks_of l.fn.parts.items;
}
