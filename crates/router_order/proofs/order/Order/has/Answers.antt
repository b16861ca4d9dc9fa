-- the index has the activities of each entity
use Rattle.std.proofs.Common.{◌∙◌, ap, map}
use Rattle.router_state.specs.declared.rows.Link.{Link}
use Rattle.rows_index.specs.declared.entry.Entry.{Entry}
use Rattle.std.specs.Prelude.{List}
use Rattle.router_order.specs.Placed.{attachments}
use Rattle.router_order.proofs.HeldLemmas.{any_under}
use Rattle.router_order.proofs.order.Order.has.Goals as goal

pub returns : goal.returns
returns c = λ entities links rises agrees.
    let here = rw (← c.self.view_is) at agrees in
    c.has_row_of.ensures ∙ any_under c.args.entity.0 entities links (attachments c.self.inside.rows.rows) c.self.inside.entries.rows c.self.invariant.0 c.rises.ensures rises here
