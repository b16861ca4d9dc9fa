-- What contracts see of the store of events.
use Rattle.std.specs.Prelude.{ℕ, ◌≤◌, List}
use Rattle.router_state.specs.declared.rows.Queued.{Queued}
use Rattle.router_state.specs.declared.rows.ServiceMark.{ServiceMark}
use Rattle.router_state.specs.declared.rows.EntityMark.{EntityMark}
use Rattle.router_state.specs.declared.rows.Suspension.{Suspension}

-- The four lists, and how many rows each of them takes without memory.
pub record QueuesView : Type 0 where
  -- by activity, then by number; the first of an activity is its head event
  pub events : List Queued
  -- the services and the entities that are marked for the head event, by activity, then by service or entity
  pub services_done : List ServiceMark
  pub delivered : List EntityMark
  -- by activity
  pub suspensions : List Suspension
  pub events_room : ℕ
  pub services_room : ℕ
  pub entities_room : ℕ
  pub suspensions_room : ℕ

-- each list takes this many rows without memory
pub record HasRoom (n : ℕ) (s : QueuesView) : Type 0 where
  pub events_fit : n ≤ s.events_room
  pub services_fit : n ≤ s.services_room
  pub entities_fit : n ≤ s.entities_room
  pub suspensions_fit : n ≤ s.suspensions_room
