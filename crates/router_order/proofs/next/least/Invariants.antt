use Rattle.std.proofs.Common.{◌≡◌, None, filter}
use Rattle.std.specs.Prelude.{option_copied}
use Rattle.router_state.specs.Paths.{least_path}
use Rattle.router_order.specs.Asked.{entities_of, is_wanted}
use Rattle.router_order.proofs.next.least.Given as goal

abbrev pub invariant-links : goal.invariant-links
invariant-links g l =
    least_path l.tree.rows (option_copied l.best) (filter (is_wanted l.tree.rows l.masks.rows l.activity.0 l.head.event.now l.head.blocks.now l.head.target (g.D.Received.received l.marks l.activity.0)) (entities_of l.tree.rows l.link-iterator))
    ≡ least_path l.tree.rows None (filter (is_wanted l.tree.rows l.masks.rows l.activity.0 l.head.event.now l.head.blocks.now l.head.target (g.D.Received.received l.marks l.activity.0)) (entities_of l.tree.rows l.fn.links))
