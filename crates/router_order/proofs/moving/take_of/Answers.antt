-- the attachments of one entity more go
use Rattle.std.proofs.Common.{arith}
use Rattle.router_order.specs.Placed.{attachments}
use Rattle.router_order.proofs.IndexedLemmas.{next_gone_of}
use Rattle.router_order.proofs.MoveLemmas.{taken_then}
use Rattle.router_order.proofs.moving.take_of.Goals as goal

pub take_each-requires-clause-listing : goal.take_each-requires-clause-listing
take_each-requires-clause-listing c = (c.requires.listing.0, c.entities.invariant.taken.listing c.requires.listing.0 c.requires.listing.1)

pub entities-preserved : goal.entities-preserved
entities-preserved c =
    let gone = rw c.rows_of.ensures at c.take_each.ensures.gone in
    record {
      taken = taken_then _ _ _ _ _ _ c.entities.invariant.taken c.take_each.ensures.taken;
      gone = next_gone_of c.args.entries.now.rows (attachments c.entities.rows.rows) (attachments c.take_each.new.rows.rows) c.args.entities.now c.entities.entity-index _ c.entities-test.true c.take_each.ensures.taken.fewer gone c.entities.invariant.gone;
      memory = omega (arith, c.entities.invariant.memory, c.take_each.ensures.memory);
      capacity = omega (arith, c.entities.invariant.capacity, c.take_each.ensures.capacity);
      room = omega (arith, c.entities.invariant.room, c.take_each.ensures.room);
      whole = omega (arith, c.entities.invariant.whole, c.take_each.ensures.whole);
    }
