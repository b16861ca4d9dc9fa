-- one attachment more is in order
use Rattle.std.proofs.Common.{◌≡◌, true, arith}
use Rattle.router_state.specs.declared.rows.Link.{Link}
use Rattle.entity_tree.specs.Kept.{is_entity}
use Rattle.router_order.proofs.LayLemmas.{all_at}
use Rattle.snapshot_stores.proofs.LinkLemmas.{agrees_all, agrees_more}
use Rattle.snapshot_stores.proofs.ordering.order_of.Goals as goal

pub attach-requires-clause-there : goal.attach-requires-clause-there
attach-requires-clause-there c = all_at (λ (link : Link). is_entity c.args.tree.now.rows link.entity.0 ≡ true) c.args.links.now c.links.link-index _ c.requires.there c.links-test.true

pub links-preserved : goal.links-preserved
links-preserved c = record {
  agrees = agrees_more c.args.tree.now.rows c.args.links.now _ c.links.link-index _ c.links-test.true c.requires.rises (c.attach.ensures.agrees _ c.links.invariant.agrees);
  room = omega (arith, c.links.invariant.room, c.attach.ensures.room);
}

pub returns : goal.returns
returns c = agrees_all c.args.tree.now.rows c.args.links.now _ c.links.link-index (omega (arith, c.links-test.false)) c.links.invariant.agrees
