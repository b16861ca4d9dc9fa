use Rattle.std.proofs.lemmas.Result.{err_from_is_err_and}
use Rattle.deploy_model.specs.Resolving.{deployed_of}
use Rattle.router_state.specs.Parsing.{items_at}
use Rattle.snapshot_read.proofs.LoopLemmas.{items_go_on, items_end, items_done}
use Rattle.snapshot_read.proofs.lists.read_items.Goals as goal

pub returns-in_err-item : goal.returns-in_err-item
returns-in_err-item g c =
    let item_at = g.T.Item.item_at c.args.format (deployed_of c.args.deployment.now.parts) in
    let p = err_from_is_err_and c.from_residual.result c.from_residual.ensures.1 in
    rw (p.1, p.2) (items_end item_at c.in_err-item.field-0.0 c.items.items.items c.args.count c.items.counter c.items.rest.now (items_at item_at c.args.count c.args.bytes.now) c.items-test.true c.in_err-item.ensures c.items.invariant)

pub items-preserved : goal.items-preserved
items-preserved g c =
    let item_at = g.T.Item.item_at c.args.format (deployed_of c.args.deployment.now.parts) in
    rw c.in_ok-push.ensures.items (items_go_on item_at c.items.items.items c.args.count c.items.counter c.items.rest.now c.in_ok-item.item c.in_ok-item.after.now (items_at item_at c.args.count c.args.bytes.now) c.items-test.true c.in_ok-item.ensures c.items.invariant)

pub returns : goal.returns
returns g c =
    let item_at = g.T.Item.item_at c.args.format (deployed_of c.args.deployment.now.parts) in
    items_done item_at c.items.items.items c.args.count c.items.counter c.items.rest.now (items_at item_at c.args.count c.args.bytes.now) c.items-test.false c.items.invariant
