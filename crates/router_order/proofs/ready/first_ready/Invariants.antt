use Rattle.std.proofs.Common.{◌≡◌}
use Rattle.std.specs.List.{find}
use Rattle.router_order.specs.Asked.{is_wanted, passes}
use Rattle.router_order.specs.Placed.{attachments}
use Rattle.router_order.proofs.ready.first_ready.Given as goal

abbrev pub invariant-rows : goal.invariant-rows
invariant-rows g l =
    find (passes l.tree.rows (is_wanted l.tree.rows l.masks.rows l.activity.0 l.head.event.now l.head.blocks.now l.head.target (g.D.Received.received l.marks l.activity.0))) (attachments l.row-iterator)
    ≡ find (passes l.tree.rows (is_wanted l.tree.rows l.masks.rows l.activity.0 l.head.event.now l.head.blocks.now l.head.target (g.D.Received.received l.marks l.activity.0))) (attachments l.fn.run)
