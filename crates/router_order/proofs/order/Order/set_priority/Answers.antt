-- attachments of the entity's tree are put in again, and paths of other entities stay
use Rattle.std.proofs.Common.{◌∙◌, List, ap, arith, length, subst, sym}
use Rattle.router_state.specs.declared.rows.Entity.{Entity}
use Rattle.router_order.specs.Listed.{Agrees, IsListing}
use Rattle.router_order.specs.Placed.{attachments}
use Rattle.router_order.proofs.IndexedLemmas.{gone_among}
use Rattle.router_order.proofs.MoveLemmas.{again_linked, taken_there}
use Rattle.router_order.proofs.PriorityLemmas.{left_listed, none_changed, still_all}
use Rattle.router_order.proofs.order.Order.set_priority.Goals as goal

pub take_of-requires-clause-listing : goal.take_of-requires-clause-listing
take_of-requires-clause-listing c = (_, rw (← c.self.view_is) at c.requires)

pub put_each-requires-clause-listing : goal.put_each-requires-clause-listing
put_each-requires-clause-listing c =
    let listing = rw (← c.self.view_is) at c.requires in
    let left = attachments c.take_of.new.rows.rows in
    let gone = gone_among _ _ _ left _ c.members.ensures.members c.self.invariant.0 c.take_of.ensures.taken.fewer c.take_of.ensures.gone in
    let here = left_listed _ _ _ _ left c.set_priority.ensures.rows c.ordered.ensures.rises c.ordered.ensures.parents (c.take_of.ensures.taken.listing _ listing) gone in
    subst (λ (es : List Entity). IsListing es left) (sym c.members.follows.holds-at-none.0) here

pub put_each-requires-clause-there : goal.put_each-requires-clause-there
put_each-requires-clause-there c =
    let listing = rw (← c.self.view_is) at c.requires in
    rw c.deref.ensures.value (still_all _ _ _ _ c.take_of.new.taken.items (c.members.follows.holds-at-none.0 ∙ c.set_priority.ensures.rows) (taken_there _ _ _ _ _ c.take_of.ensures.taken c.self.invariant.3 listing.there))

pub invariant_of-self : goal.invariant_of-self
invariant_of-self c =
    let none = ap length c.self.invariant.3 in
    let put = rw c.deref.ensures.value at c.put_each.ensures.members in
    let same = again_linked _ _ (attachments c.put_each.new.rows.rows) _ _ c.take_of.ensures.taken c.self.invariant.3 put in (
      λ e a. c.self.invariant.0 e a ∙ sym (same e a),
      c.put_each.ensures.empty,
      omega (arith, none, c.put_each.ensures.capacity, c.put_each.ensures.room, c.put_each.ensures.whole, c.take_of.ensures.room, c.take_of.ensures.whole, c.deref.ensures.len, c.self.invariant.2),
      c.clear.ensures.items,
      omega (arith, none, c.take_of.ensures.capacity, c.clear.ensures.capacity, c.put_each.ensures.room, c.put_each.ensures.whole, c.take_of.ensures.room, c.take_of.ensures.whole, c.deref.ensures.len, c.self.invariant.4),
    )

pub returns-in-Some-clause-agrees : goal.returns-in-Some-clause-agrees
returns-in-Some-clause-agrees c = λ links agrees.
    let here = rw (← c.self.view_is) at agrees in
    let put = rw c.deref.ensures.value at c.put_each.ensures.members in
    let same = again_linked _ _ (attachments c.put_each.new.rows.rows) _ _ c.take_of.ensures.taken c.self.invariant.3 put in
    record { listing = c.put_each.ensures.listing; members = λ e a. same e a ∙ here.members e a }

pub returns-in-None-clause-listing : goal.returns-in-None-clause-listing
returns-in-None-clause-listing c =
    let listing = rw (← c.self.view_is) at c.requires in
    let same = none_changed _ _ _ _ c.set_priority.ensures.rows c.in-None.ensures in
    rw (← c.self.view_is) (subst (λ (es : List Entity). IsListing es (attachments c.self.inside.rows.rows)) (sym same) listing)

pub returns-in-None-clause-agrees : goal.returns-in-None-clause-agrees
returns-in-None-clause-agrees c = λ links agrees.
    let here = rw (← c.self.view_is) at agrees in
    let same = none_changed _ _ _ _ c.set_priority.ensures.rows c.in-None.ensures in
    rw (← c.self.view_is) (subst (λ (es : List Entity). Agrees es links (attachments c.self.inside.rows.rows)) (sym same) here)
