-- The delivery that comes first on an activity: what it is of, and what it comes to.
use Rattle.std.specs.Prelude.{◌≡◌, ℕ, Option, Some, option_map}
use Rattle.slee_value.specs.declared.ids.ActivityId.{ActivityId}
use Rattle.slee_value.specs.declared.ids.EntityId.{EntityId}
use Rattle.rollback_calls.specs.Deliveries.{delivered_of}
use Rattle.rollback_calls.specs.declared.delivered.Delivered.{Delivered}
use Rattle.router_state.specs.State.{State}
use Rattle.router_state.specs.Next.{receives_at}
use Rattle.router_state.specs.declared.rows.Entity.{Entity}
use Rattle.router_state.specs.declared.rows.Event.{Event}
use Rattle.router_steps.specs.Steps.{delivery_at}
use Rattle.router_subjects.specs.declared.delivering.Receipt.{Receipt}
use Rattle.tx_attempt.specs.declared.ticket.Ticket.{Ticket}

-- the head event of an activity, with the number of the entity that receives it
abbrev pub received_at : State → ℕ → Option (Event × EntityId)
received_at s a = option_map (λ x. (x.0, x.1.number)) (receives_at s a)

-- The ticket is of the delivery that comes first on its activity: of the head event, to the entity that receives it.
pub record IsTicket (s : State) (t : Ticket) : Type 0 where
  pub entity : Entity
  pub received : receives_at s t.activity.0 ≡ Some (t.event, entity)
  pub number : entity.number ≡ t.entity
  pub block : entity.block ≡ t.block

-- The receipt is of that delivery.
pub record IsReceipt (s : State) (r : Receipt) : Type 0 where
  pub event : Event
  pub entity : Entity
  pub received : receives_at s r.activity.0 ≡ Some (event, entity)
  pub event_number : event.id ≡ r.event
  pub entity_number : entity.number ≡ r.entity

-- that delivery comes to this
abbrev pub Delivers : State → ActivityId → Delivered → Type 0
Delivers s a d = option_map (λ x. x.delivered) (delivery_at s a.0) ≡ Some (delivered_of d)
