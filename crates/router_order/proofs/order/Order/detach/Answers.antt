-- the attachment goes, and its activity from under its entity
use Rattle.std.proofs.Common.{arith}
use Rattle.router_order.specs.Placed.{attachments}
use Rattle.router_order.proofs.IndexedLemmas.{detach_indexed}
use Rattle.router_order.proofs.ListingLemmas.{detached, filter_keeps}
use Rattle.router_order.proofs.order.Order.detach.Goals as goal

pub invariant_of-self : goal.invariant_of-self
invariant_of-self c =
    let listing = rw (← c.self.view_is) at c.requires in
    let is = c.cut_link.ensures.rows c.args.tree.now.rows listing in (
      detach_indexed c.args.entity.0 c.args.activity.0 (attachments c.self.inside.rows.rows) (attachments c.cut_link.new.rows.rows) c.self.inside.entries.rows c.cut_row.new.self.rows is c.cut_row.ensures.rows c.self.invariant.0,
      c.self.invariant.1,
      omega (arith, c.cut_link.ensures.room, c.cut_link.ensures.whole, c.self.invariant.2),
      c.self.invariant.3,
      omega (arith, c.cut_link.ensures.room, c.cut_link.ensures.whole, c.self.invariant.4),
    )

pub returns-clause-listing : goal.returns-clause-listing
returns-clause-listing c =
    let listing = rw (← c.self.view_is) at c.requires in
    filter_keeps c.args.tree.now.rows _ (attachments c.self.inside.rows.rows) (attachments c.cut_link.new.rows.rows) (c.cut_link.ensures.rows c.args.tree.now.rows listing) listing

pub returns-clause-rows : goal.returns-clause-rows
returns-clause-rows c =
    let listing = rw (← c.self.view_is) at c.requires in
    rw (← c.self.view_is) (c.cut_link.ensures.rows c.args.tree.now.rows listing)

pub returns-clause-agrees : goal.returns-clause-agrees
returns-clause-agrees c = λ links agrees.
    let listing = rw (← c.self.view_is) at c.requires in
    let here = rw (← c.self.view_is) at agrees in
    detached c.args.tree.now.rows c.args.entity.0 c.args.activity.0 (attachments c.self.inside.rows.rows) (attachments c.cut_link.new.rows.rows) links (c.cut_link.ensures.rows c.args.tree.now.rows listing) here
