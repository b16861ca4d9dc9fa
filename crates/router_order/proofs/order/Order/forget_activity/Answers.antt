-- the attachments to the activity go, and it from under their entities
use Rattle.std.proofs.Common.{arith}
use Rattle.router_order.specs.Placed.{attachments}
use Rattle.router_order.proofs.IndexedLemmas.{forget_indexed}
use Rattle.router_order.proofs.ListingLemmas.{forgotten}
use Rattle.router_order.proofs.order.Order.forget_activity.Goals as goal

pub invariant_of-self : goal.invariant_of-self
invariant_of-self c =
    let cut = rw c.rows_of.ensures at c.cut_entries.ensures.rows in (
      forget_indexed c.args.activity.0 c.self.inside.rows.rows (attachments c.cut_links_on.new.rows.rows) c.self.inside.entries.rows c.cut_entries.new.entries.rows c.cut_links_on.ensures.rows cut c.self.invariant.0,
      c.self.invariant.1,
      omega (arith, c.cut_links_on.ensures.room, c.cut_links_on.ensures.whole, c.self.invariant.2),
      c.self.invariant.3,
      omega (arith, c.cut_links_on.ensures.room, c.cut_links_on.ensures.whole, c.self.invariant.4),
    )

pub returns-clause-agrees : goal.returns-clause-agrees
returns-clause-agrees c = λ entities links agrees.
    let here = rw (← c.self.view_is) at agrees in
    forgotten entities c.args.activity.0 (attachments c.self.inside.rows.rows) (attachments c.cut_links_on.new.rows.rows) links c.cut_links_on.ensures.rows here
