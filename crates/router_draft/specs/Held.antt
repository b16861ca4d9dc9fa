-- What is kept beside the changes of a step: what they touch, and how many events they number.
use Rattle.std.specs.Prelude.{◌≡◌, ℕ, count_by}
use Rattle.std.specs.List.{list_any}
use Rattle.router_draft.specs.After.{draws}
use Rattle.router_draft.specs.Touched.{drops, ends, is_listed, touches}
use Rattle.router_draft.specs.declared.after.Drawn.TheVariants as kinds
use Rattle.router_draft.specs.declared.changes.Changes.TheInside.{Inside}

-- the lists have what the changes touch, and no more
pub record IsHeld (c : Inside) : Type 0 where
  pub touched : (e : ℕ) → is_listed c.touched.rows e ≡ list_any (touches e) c.list.items
  pub ended : (a : ℕ) → is_listed c.ended.rows a ≡ list_any (ends a) c.list.items
  pub dropped : (a : ℕ) → is_listed c.dropped.rows a ≡ list_any (drops a) c.list.items
  pub events : c.events ≡ count_by (draws kinds.Event) c.list.items
