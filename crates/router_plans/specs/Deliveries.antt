-- When what was delivered is what the delivery that comes first on an activity gives.
use Rattle.std.specs.Prelude.{◌≡◌, ◌≤◌, Some}
use Rattle.script_meaning.specs.Delivery.{Delivered as DeliveredAsDefined}
use Rattle.script_meaning.specs.Running.{bytes_of, effect_bytes_limit}
use Rattle.router_state.specs.State.{State}
use Rattle.router_state.specs.declared.rows.Entity.{Entity}
use Rattle.router_state.specs.declared.rows.Event.{Event}
use Rattle.router_steps.specs.Steps.{delivery_at}
use Rattle.rollback_calls.specs.declared.delivered.Delivered.{Delivered}
use Rattle.router_subjects.specs.declared.delivering.Receipt.{Receipt}

-- what was delivered, as it is defined
abbrev pub delivered_in_code : Delivered → DeliveredAsDefined
delivered_in_code d = record { outcome = d.outcome; exception = d.exception; rolled_back = d.rolled_back; effects = d.effects }

-- The event of this number comes first on the activity, this entity receives it, and it comes to this. Checked scripts keep their effects within their limit.
pub record IsReceived (s : State) (r : Receipt) (d : Delivered) : Type 0 where
  pub event : Event
  pub entity : Entity
  pub first : delivery_at s r.activity.0 ≡ Some (record { activity = r.activity.0; event = event; entity = entity; delivered = delivered_in_code d })
  pub event_number : event.id ≡ r.event
  pub entity_number : entity.number ≡ r.entity
  pub short : bytes_of d.effects ≤ effect_bytes_limit
