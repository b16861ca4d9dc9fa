-- the attachment stands in its place, and its activity under its entity
use Rattle.std.proofs.Common.{◌≡◌, true, refl, sym, ◌∙◌, arith}
use Rattle.router_state.specs.Contexts.{is_linked}
use Rattle.router_order.specs.Placed.{attachments}
use Rattle.router_order.proofs.IndexedLemmas.{attach_indexed, linked_by_key}
use Rattle.router_order.proofs.ListingLemmas.{attached, put_keeps}
use Rattle.router_order.proofs.RankLemmas.{listed_already}
use Rattle.router_order.proofs.order.Order.attach.Goals as goal

pub returns-then-has_row-clause-rows : goal.returns-then-has_row-clause-rows
returns-then-has_row-clause-rows c =
    let listing = rw (← c.self.view_is) at c.requires.listing in
    let linked : is_linked (attachments c.self.inside.rows.rows) c.args.entity.0 c.args.activity.0 ≡ true = sym (linked_by_key _ _ c.self.invariant.0 c.args.entity.0 c.args.activity.0) ∙ sym c.has_row.ensures ∙ c.if-has_row.true in
    rw (← c.self.view_is) (listed_already c.args.tree.now.rows (record { entity = c.args.entity; activity = c.args.activity }) (attachments c.self.inside.rows.rows) c.ordered.ensures.parents c.requires.there listing linked)

pub returns-then-has_row-clause-agrees : goal.returns-then-has_row-clause-agrees
returns-then-has_row-clause-agrees c = λ links agrees.
    let listing = rw (← c.self.view_is) at c.requires.listing in
    let here = rw (← c.self.view_is) at agrees in
    let linked : is_linked (attachments c.self.inside.rows.rows) c.args.entity.0 c.args.activity.0 ≡ true = sym (linked_by_key _ _ c.self.invariant.0 c.args.entity.0 c.args.activity.0) ∙ sym c.has_row.ensures ∙ c.if-has_row.true in
    let is = listed_already c.args.tree.now.rows (record { entity = c.args.entity; activity = c.args.activity }) (attachments c.self.inside.rows.rows) c.ordered.ensures.parents c.requires.there listing linked in
    rw (← c.self.view_is) (attached c.args.tree.now.rows (record { entity = c.args.entity; activity = c.args.activity }) (attachments c.self.inside.rows.rows) (attachments c.self.inside.rows.rows) links is c.ordered.ensures.parents c.requires.there here)

pub insert_link-requires-clause-absent : goal.insert_link-requires-clause-absent
insert_link-requires-clause-absent c = sym (linked_by_key _ _ c.self.invariant.0 c.args.entity.0 c.args.activity.0) ∙ sym c.has_row.ensures ∙ c.if-has_row.false

pub invariant_of-self : goal.invariant_of-self
invariant_of-self c =
    let listing = rw (← c.self.view_is) at c.requires.listing in
    let room = rw (← c.self.view_is) at c.requires.room in (
      attach_indexed c.args.tree.now.rows c.ordered.ensures.parents (record { entity = c.args.entity; activity = c.args.activity }) _ (attachments c.self.inside.rows.rows) (attachments c.insert_link.new.rows.rows) c.self.inside.entries.rows c.put_row.new.self.rows
          refl refl c.requires.there listing c.insert_link.ensures.rows c.put_row.ensures.rows c.self.invariant.0,
      c.insert_link.ensures.empty,
      omega (arith, room, c.insert_link.ensures.room, c.insert_link.ensures.whole, c.insert_link.ensures.capacity, c.self.invariant.2),
      c.self.invariant.3,
      omega (arith, room, c.insert_link.ensures.room, c.insert_link.ensures.whole, c.self.invariant.4),
    )

pub returns-clause-listing : goal.returns-clause-listing
returns-clause-listing c =
    let listing = rw (← c.self.view_is) at c.requires.listing in
    put_keeps c.args.tree.now.rows _ (attachments c.self.inside.rows.rows) (attachments c.insert_link.new.rows.rows) c.insert_link.ensures.rows c.requires.there listing

pub returns-clause-agrees : goal.returns-clause-agrees
returns-clause-agrees c = λ links agrees.
    let here = rw (← c.self.view_is) at agrees in
    attached c.args.tree.now.rows _ (attachments c.self.inside.rows.rows) (attachments c.insert_link.new.rows.rows) links c.insert_link.ensures.rows c.ordered.ensures.parents c.requires.there here
