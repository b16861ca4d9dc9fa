-- so many stand in their places
use Rattle.std.proofs.Common.{◌≡◌, ℕ, ◌+◌, [], length, take}
use Rattle.std.specs.Prelude.{◌≤◌, ◌||◌, vec_capacity}
use Rattle.router_state.specs.Contexts.{is_linked}
use Rattle.router_order.specs.Listed.{IsListing}
use Rattle.router_order.specs.Placed.{attachments}
use Rattle.router_order.proofs.moving.put_each.Given as goal

abbrev pub invariant-links : goal.invariant-links
invariant-links l = record {
  listing : IsListing l.tree.rows (attachments l.rows.rows);
  members : (e a : ℕ) → is_linked (attachments l.rows.rows) e a ≡ (is_linked (take l.link-index l.links) e a || is_linked (attachments l.fn.rows.rows) e a);
  empty : l.spare.items ≡ [];
  capacity : vec_capacity l.fn.spare ≤ vec_capacity l.spare;
  room : l.fn.rows.room ≤ l.rows.room + l.link-index;
  whole : l.rows.room + length l.rows.rows ≡ l.fn.rows.room + length l.fn.rows.rows;
}
