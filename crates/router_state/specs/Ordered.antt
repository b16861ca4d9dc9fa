-- Each list of a state rises, so that a row is found by halving, and numbers that were drawn are below the next ones.
use Rattle.std.specs.Prelude.{IsTrue}
use Rattle.router_state.specs.State.{State}
use Rattle.rows_sorted.specs.Orders.{rises_by, rises_in, are_below}
use Rattle.router_state.specs.Fields.{field_before}
use Rattle.router_state.specs.Trees.{root_name_before}
use Rattle.router_state.specs.Contexts.{attribute_before, link_before, name_before}
use Rattle.router_state.specs.Masks.{mask_before}
use Rattle.router_state.specs.Queues.{queued_before, service_mark_before, entity_mark_before, suspension_before}
use Rattle.router_state.specs.Profiles.{row_before}

-- every list rises, and numbers are below the next ones
pub record IsOrdered (s : State) : Type 0 where
  pub entities : IsTrue (rises_in (λ row. row.number.0) s.entities)
  pub entities_below : IsTrue (are_below (λ row. row.number.0) s.next_entity s.entities)
  pub root_names : IsTrue (rises_by root_name_before s.root_names)
  pub fields : IsTrue (rises_by field_before s.fields)
  pub activities : IsTrue (rises_in (λ row. row.number.0) s.activities)
  pub activities_below : IsTrue (are_below (λ row. row.number.0) s.next_activity s.activities)
  pub attributes : IsTrue (rises_by attribute_before s.attributes)
  pub links : IsTrue (rises_by link_before s.links)
  pub masks : IsTrue (rises_by mask_before s.masks)
  pub names : IsTrue (rises_by name_before s.names)
  pub events : IsTrue (rises_by queued_before s.events)
  pub services_done : IsTrue (rises_by service_mark_before s.services_done)
  pub delivered : IsTrue (rises_by entity_mark_before s.delivered)
  pub suspensions : IsTrue (rises_by suspension_before s.suspensions)
  pub timers : IsTrue (rises_in (λ row. row.number.0) s.timers)
  pub timers_below : IsTrue (are_below (λ row. row.number.0) s.next_timer s.timers)
  pub rows : IsTrue (rises_by row_before s.rows)
