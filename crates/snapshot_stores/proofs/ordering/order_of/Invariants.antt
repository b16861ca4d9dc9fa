-- the attachments so far are in order, and those that are left have room
use Rattle.std.proofs.Common.{◌≤◌, ◌+◌, length, take}
use Rattle.router_order.specs.Listed.{Agrees}
use Rattle.snapshot_stores.proofs.ordering.order_of.Given as goal

abbrev pub invariant-links : goal.invariant-links
invariant-links l = record {
  agrees : Agrees l.tree.rows (take l.link-index l.links) l.order.rows;
  room : length l.links ≤ l.order.room + l.link-index;
}
