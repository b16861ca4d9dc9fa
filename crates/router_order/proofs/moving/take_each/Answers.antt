-- the attachment of one entry more goes
use Rattle.std.proofs.Common.{arith}
use Rattle.router_order.proofs.MoveLemmas.{next_gone, taken_then}
use Rattle.router_order.proofs.moving.take_each.Goals as goal

pub take_one-requires-clause-listing : goal.take_one-requires-clause-listing
take_one-requires-clause-listing c = (c.requires.listing.0, c.entries.invariant.taken.listing c.requires.listing.0 c.requires.listing.1)

pub entries-preserved : goal.entries-preserved
entries-preserved c = record {
  taken = taken_then _ _ _ _ _ _ c.entries.invariant.taken c.take_one.ensures.taken;
  gone = next_gone _ _ _ c.in-Some.entry.now _ _ c.in-Some.ensures.steps c.take_one.ensures.taken.fewer c.take_one.ensures.gone c.entries.invariant.gone;
  memory = omega (arith, c.entries.invariant.memory, c.take_one.ensures.memory);
  capacity = omega (arith, c.entries.invariant.capacity, c.take_one.ensures.capacity);
  room = omega (arith, c.entries.invariant.room, c.take_one.ensures.room);
  whole = omega (arith, c.entries.invariant.whole, c.take_one.ensures.whole);
}
