-- halving finds the place of the attachment
use Rattle.std.proofs.Common.{◌≡◌, sym, refl, ◌∙◌, true, false}
use Rattle.std.proofs.lemmas.Option.{slice_get_read, slice_get_past}
use Rattle.router_state.specs.Contexts.{is_link}
use Rattle.router_order.proofs.ListingLemmas.{link_place, listing_order}
use Rattle.router_order.proofs.listing.place_of.Goals as goal

pub returns-then-is_same-clause-place : goal.returns-then-is_same-clause-place
returns-then-is_same-clause-place c =
    let k = c.args.link.now in
    let at = link_place c.args.tree.now.rows k _ c.args.rows.now (listing_order c.args.tree.now.rows _ c.requires) c.count_before-place.ensures.count in
    let row = c.in-Some.ensures.lookup in
    let read = slice_get_read c.args.rows.now _ c.count_before-place.result c.in-Some.row.now refl row.3.0 row.1 in
    let same : is_link k.entity.0 k.activity.0 c.in-Some.row.now ≡ true = sym c.is_same.ensures ∙ c.if-is_same.true in
    sym (rw (read, same) at at)

pub returns-else-is_same-clause-place : goal.returns-else-is_same-clause-place
returns-else-is_same-clause-place c =
    let k = c.args.link.now in
    let at = link_place c.args.tree.now.rows k _ c.args.rows.now (listing_order c.args.tree.now.rows _ c.requires) c.count_before-place.ensures.count in
    let row = c.in-Some.ensures.lookup in
    let read = slice_get_read c.args.rows.now _ c.count_before-place.result c.in-Some.row.now refl row.3.0 row.1 in
    let other : is_link k.entity.0 k.activity.0 c.in-Some.row.now ≡ false = sym c.is_same.ensures ∙ c.if-is_same.false in
    sym (rw (read, other) at at)

pub returns-in-None-clause-place : goal.returns-in-None-clause-place
returns-in-None-clause-place c =
    let at = link_place c.args.tree.now.rows c.args.link.now _ c.args.rows.now (listing_order c.args.tree.now.rows _ c.requires) c.count_before-place.ensures.count in
    let past = slice_get_past c.args.rows.now c.count_before-place.result c.in-None.ensures.lookup.3 in
    sym (rw past at at)
