-- the attachments of so many entries are gone
use Rattle.std.proofs.Common.{◌≡◌, ◌+◌, length}
use Rattle.std.specs.Prelude.{◌≤◌, vec_capacity, vec_len}
use Rattle.router_order.specs.Placed.{attachments}
use Rattle.router_order.specs.Taken.{IsTaken}
use Rattle.router_order.proofs.MoveLemmas.{AreGone}
use Rattle.router_order.proofs.moving.take_each.Given as goal

abbrev pub invariant-entries : goal.invariant-entries
invariant-entries l = record {
  taken : IsTaken (attachments l.fn.rows.rows) (attachments l.rows.rows) l.fn.taken.items l.taken.items;
  gone : AreGone l.fn.entries l.entry-iterator (attachments l.rows.rows);
  memory : vec_len l.taken + length l.rows.rows ≤ vec_len l.fn.taken + length l.fn.rows.rows;
  capacity : vec_capacity l.fn.taken ≤ vec_capacity l.taken;
  room : l.fn.rows.room + vec_len l.taken ≤ l.rows.room + vec_len l.fn.taken;
  whole : l.rows.room + length l.rows.rows ≡ l.fn.rows.room + length l.fn.rows.rows;
}
