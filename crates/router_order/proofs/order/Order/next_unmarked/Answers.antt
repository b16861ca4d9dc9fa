-- the first one of the list that is wanted is the first of all
use Rattle.std.proofs.Common.{◌∙◌, List, ap, sym}
use Rattle.std.specs.Prelude.{find, option_map}
use Rattle.router_state.specs.declared.rows.Link.{Link}
use Rattle.router_order.specs.Asked.{is_wanted, passes}
use Rattle.router_order.specs.Placed.{attachments}
use Rattle.router_order.proofs.IndexLemmas.{first_listed}
use Rattle.router_order.proofs.RunLemmas.{run_is}
use Rattle.router_order.proofs.order.Order.next_unmarked.Goals as goal

pub returns : goal.returns
returns g c = λ s v about agrees.
    let here = rw (← c.self.view_is) at agrees in
    let rows = c.self.inside.rows.rows in
    let found = rw c.rows_of-run.ensures at c.first_ready.ensures in
    found
    ∙ ap (λ (links : List Link). option_map (λ (l : Link). l.entity) (find (passes c.args.tree.now.rows (is_wanted c.args.tree.now.rows c.args.masks.now.rows c.args.activity.0 c.args.head.now.event.now c.args.head.now.blocks.now c.args.head.now.target (g.D.Received.received c.args.marks.now c.args.activity.0))) links)) (sym (run_is rows c.args.activity.0))
    ∙ first_listed s c.args.activity.0 v c.args.tree.now.rows c.args.masks.now.rows c.args.head.now.event.now c.args.head.now.blocks.now c.args.head.now.target (g.D.Received.received c.args.marks.now c.args.activity.0) about (attachments rows) here c.ordered.ensures.rises
