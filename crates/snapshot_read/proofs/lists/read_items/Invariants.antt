use Rattle.std.proofs.Common.{◌≡◌, ◌-◌}
use Rattle.deploy_model.specs.Resolving.{deployed_of}
use Rattle.router_state.specs.Parsing.{items_at}
use Rattle.snapshot_read.proofs.LoopLemmas.{with_front}
use Rattle.snapshot_read.proofs.lists.read_items.Given as goal

-- the items so far, and what is still read, are the whole
abbrev pub invariant-items : goal.invariant-items
invariant-items g l =
    let item_at = g.T.Item.item_at l.format (deployed_of l.deployment.parts) in
    with_front l.items.items (items_at item_at (l.count - l.counter) l.rest) ≡ items_at item_at l.count l.bytes
