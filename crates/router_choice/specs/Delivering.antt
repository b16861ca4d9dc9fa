-- The delivery that a head event brings.
use Rattle.std.specs.Prelude.{ℕ, is_some, if◌then◌else◌, Option, None, option_map}
use Rattle.slee_value.specs.declared.ids.EntityId.{EntityId}
use Rattle.slee_value.specs.declared.ids.EventId.{EventId}
use Rattle.router_state.specs.State.{State}
use Rattle.router_state.specs.Next.{due_service, first}
use Rattle.router_state.specs.Queues.{head_event, is_suspended}
use Rattle.router_state.specs.declared.rows.Event.{Event}

-- the head event of an activity, unless it is suspended
abbrev pub unheld : State → ℕ → Option Event
unheld s a = if is_suspended s.suspensions a then None else head_event s.events a

-- the event with the entity that receives it, unless a service selects first
abbrev pub delivery_for : State → ℕ → Event → Option (EventId × EntityId)
delivery_for s a v = if is_some (due_service s a v) then None else option_map (λ row. (v.id, row.number)) (first s a v)
