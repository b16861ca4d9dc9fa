-- the attachment stands where it is listed, or goes behind those before it
use Rattle.std.proofs.Common.{sym, ◌∙◌}
use Rattle.router_order.proofs.ListingLemmas.{put_new, put_there}
use Rattle.router_order.proofs.listing.put_link.Goals as goal

pub returns-in-Some-clause-items : goal.returns-in-Some-clause-items
returns-in-Some-clause-items c =
    let is = rw c.deref.ensures.value at c.in-Some.ensures.place in
    put_there c.args.tree.now.rows c.args.link c.ordered.ensures.parents c.requires.there _ c.args.rows.now.items c.requires.listing (sym is)

pub returns-in-None-clause-items : goal.returns-in-None-clause-items
returns-in-None-clause-items c =
    let is = rw c.deref.ensures.value at c.in-None.ensures.place in
    let count = rw c.deref-in-None.ensures.value at c.count_before-place.ensures.count in
    c.insert_row.ensures.items ∙ (rw count (put_new c.args.tree.now.rows c.args.link c.ordered.ensures.parents c.requires.there c.args.rows.now.items c.requires.listing (sym is)))
