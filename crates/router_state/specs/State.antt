-- The state of a service container, as plain lists.
use Rattle.std.specs.Prelude.{ℕ, ◌^◌, Bool, ◌||◌, nat_lt, List}
use Rattle.script_types.specs.Program.{Program}
use Rattle.deploy_model.specs.Deployed.{Deployed}
use Rattle.router_state.specs.declared.rows.Service.{Service}
use Rattle.router_state.specs.declared.rows.Entity.{Entity}
use Rattle.router_state.specs.declared.rows.RootName.{RootName}
use Rattle.router_state.specs.declared.rows.Field.{Field}
use Rattle.router_state.specs.declared.rows.Activity.{Activity}
use Rattle.router_state.specs.declared.rows.Attribute.{Attribute}
use Rattle.router_state.specs.declared.rows.Link.{Link}
use Rattle.router_state.specs.declared.rows.Mask.{Mask}
use Rattle.router_state.specs.declared.rows.Named.{Named}
use Rattle.router_state.specs.declared.rows.Queued.{Queued}
use Rattle.router_state.specs.declared.rows.ServiceMark.{ServiceMark}
use Rattle.router_state.specs.declared.rows.EntityMark.{EntityMark}
use Rattle.router_state.specs.declared.rows.Suspension.{Suspension}
use Rattle.router_state.specs.declared.rows.Timer.{Timer}
use Rattle.router_state.specs.declared.rows.ProfileRow.{ProfileRow}

-- Each list rises, by what stands beside it. The service of number n stands at place n, counted from 0.
pub record State : Type 0 where
  -- what was deployed, and the scripts of its blocks; no step changes them
  pub deployment : Deployed
  pub program : Program
  -- the moment that the last clock line gave
  pub clock : ℕ
  -- how many lines were taken
  pub inputs : ℕ
  -- the numbers that come next
  pub next_entity : ℕ
  pub next_activity : ℕ
  pub next_timer : ℕ
  pub next_event : ℕ
  pub services : List Service
  -- by number
  pub entities : List Entity
  -- the convergence names of the roots, by entity
  pub root_names : List RootName
  -- the fields of all entities, by entity, then by name
  pub fields : List Field
  -- by number
  pub activities : List Activity
  -- the attributes that were set, by activity, then by key
  pub attributes : List Attribute
  -- attachments, by activity, then by entity
  pub links : List Link
  -- masks, by activity, then by entity, then by event
  pub masks : List Mask
  -- the names of the naming facility
  pub names : List Named
  -- the events that wait, by activity, then by number; the first of an activity is its head event
  pub events : List Queued
  -- the services and the entities that are marked for the head event, by activity, then by service or entity
  pub services_done : List ServiceMark
  pub delivered : List EntityMark
  -- the suspensions of head events, by activity
  pub suspensions : List Suspension
  -- by number
  pub timers : List Timer
  -- the rows of the profile tables, by table, then by row
  pub rows : List ProfileRow

-- a count has come too far for another step
abbrev pub is_used_up : State → Bool
is_used_up s =
    nat_lt (2 ^ 62) s.inputs || (nat_lt (2 ^ 62) s.next_entity || (nat_lt (2 ^ 62) s.next_activity || (nat_lt (2 ^ 62) s.next_timer || nat_lt (2 ^ 62) s.next_event)))
