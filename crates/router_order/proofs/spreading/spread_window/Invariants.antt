-- the attachments and the room stay the same
use Rattle.std.proofs.Common.{◌+◌, ◌-◌, ◌≡◌, length}
use Rattle.router_order.specs.Placed.{attachments}
use Rattle.router_order.proofs.spreading.spread_window.Given as goal

abbrev pub invariant-lower : goal.invariant-lower
invariant-lower l = record {
  rows : attachments l.rows.rows ≡ attachments l.fn.rows.rows;
  room : l.rows.room ≡ l.fn.rows.room;
  whole : l.rows.room + length l.rows.rows ≡ l.fn.rows.room + length l.fn.rows.rows;
}

abbrev pub decreases-lower : goal.decreases-lower
decreases-lower l = l.window.to - l.place

abbrev pub invariant-higher : goal.invariant-higher
invariant-higher l = record {
  rows : attachments l.rows.rows ≡ attachments l.fn.rows.rows;
  room : l.rows.room ≡ l.fn.rows.room;
  whole : l.rows.room + length l.rows.rows ≡ l.fn.rows.room + length l.fn.rows.rows;
}

abbrev pub decreases-higher : goal.decreases-higher
decreases-higher l = l.place - l.window.from
