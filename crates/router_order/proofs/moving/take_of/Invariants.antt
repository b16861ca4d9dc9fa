-- the attachments of so many entities are gone
use Rattle.std.proofs.Common.{◌≡◌, ◌+◌, length, take}
use Rattle.std.specs.Prelude.{◌≤◌, vec_capacity, vec_len}
use Rattle.std.specs.List.{AllByRecursion}
use Rattle.router_order.specs.Placed.{attachments}
use Rattle.router_order.specs.Taken.{IsTaken}
use Rattle.router_order.proofs.IndexedLemmas.{IsGoneOf}
use Rattle.router_order.proofs.moving.take_of.Given as goal

abbrev pub invariant-entities : goal.invariant-entities
invariant-entities l = record {
  taken : IsTaken (attachments l.fn.rows.rows) (attachments l.rows.rows) l.fn.taken.items l.taken.items;
  gone : AllByRecursion (IsGoneOf l.entries.rows (attachments l.rows.rows)) (take l.entity-index l.entities);
  memory : vec_len l.taken + length l.rows.rows ≤ vec_len l.fn.taken + length l.fn.rows.rows;
  capacity : vec_capacity l.fn.taken ≤ vec_capacity l.taken;
  room : l.fn.rows.room + vec_len l.taken ≤ l.rows.room + vec_len l.fn.taken;
  whole : l.rows.room + length l.rows.rows ≡ l.fn.rows.room + length l.fn.rows.rows;
}
