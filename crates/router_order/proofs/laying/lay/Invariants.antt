-- so many were laid, with ranks below the next one
use Rattle.std.proofs.Common.{◌≡◌, ℕ, ◌+◌, ◌*◌, ◌==◌, false, take, length}
use Rattle.std.specs.Prelude.{◌≤◌}
use Rattle.router_state.specs.Contexts.{links_on}
use Rattle.router_order.specs.Placed.{attachments}
use Rattle.router_order.proofs.LayLemmas.{AreBelow}
use Rattle.router_order.proofs.RunLemmas.{run}
use Rattle.router_order.proofs.laying.lay.Given as goal

abbrev pub invariant-links : goal.invariant-links
invariant-links l = record {
  laid : links_on (attachments l.rows.rows) l.activity.0 ≡ take l.link-index l.links;
  others : (b : ℕ) → (b == l.activity.0) ≡ false → links_on (attachments l.rows.rows) b ≡ links_on (attachments l.fn.rows.rows) b;
  below : AreBelow l.rank (run l.rows.rows l.activity.0);
  rank : l.rank ≡ l.start + l.gap * l.link-index;
  room : l.fn.rows.room ≤ l.rows.room + l.link-index;
  whole : l.rows.room + length l.rows.rows ≡ l.fn.rows.room + length l.fn.rows.rows;
}
