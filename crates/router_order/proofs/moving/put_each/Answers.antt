-- one more stands in its place
use Rattle.std.proofs.Common.{◌≡◌, true, arith}
use Rattle.router_state.specs.declared.rows.Link.{Link}
use Rattle.entity_tree.specs.Kept.{is_entity}
use Rattle.router_order.specs.Placed.{attachments}
use Rattle.router_order.proofs.LayLemmas.{all_at}
use Rattle.router_order.proofs.ListingLemmas.{put_keeps}
use Rattle.router_order.proofs.MoveLemmas.{next_members}
use Rattle.router_order.proofs.moving.put_each.Goals as goal

pub put_again-requires-clause-there : goal.put_again-requires-clause-there
put_again-requires-clause-there c = all_at (λ (link : Link). is_entity c.args.tree.now.rows link.entity.0 ≡ true) c.args.links.now c.links.link-index _ c.requires.there c.links-test.true

pub put_again-requires-clause-memory : goal.put_again-requires-clause-memory
put_again-requires-clause-memory c = omega (arith, c.links.invariant.room, c.links.invariant.whole, c.links.invariant.capacity, c.requires.memory, c.links-test.true)

pub put_again-requires-clause-room : goal.put_again-requires-clause-room
put_again-requires-clause-room c = omega (arith, c.links.invariant.room, c.requires.room, c.links-test.true)

pub links-preserved : goal.links-preserved
links-preserved c =
    let es = c.args.tree.now.rows in
    let there = all_at (λ (link : Link). is_entity es link.entity.0 ≡ true) c.args.links.now c.links.link-index _ c.requires.there c.links-test.true in
    record {
      listing = put_keeps es _ (attachments c.links.rows.rows) (attachments c.put_again.new.rows.rows) c.put_again.ensures.rows there c.links.invariant.listing;
      members = next_members es c.ordered.ensures.parents c.args.links.now (attachments c.args.rows.now.rows) (attachments c.links.rows.rows) (attachments c.put_again.new.rows.rows) c.links.link-index _ c.links-test.true there c.links.invariant.listing c.put_again.ensures.rows c.links.invariant.members;
      empty = c.put_again.ensures.empty;
      capacity = omega (arith, c.links.invariant.capacity, c.put_again.ensures.capacity);
      room = omega (arith, c.links.invariant.room, c.put_again.ensures.room);
      whole = omega (arith, c.links.invariant.whole, c.put_again.ensures.whole);
    }
