-- What a delivery answers, as its definition has it.
use Rattle.std.specs.Prelude.{◌≡◌, ℕ, List, Option, Some, None, option_and_then, slice_get, find, bytes_eq}
use Rattle.script_types.specs.Program.{Program, HandlerProgram, Steps}
use Rattle.script_meaning.specs.declared.which.Part.TheVariants as part
use Rattle.script_meaning.specs.Meaning.{steps_of_handler}
use Rattle.script_meaning.specs.Delivery.{Delivered, Delivery, Complete, Wants, steps_in, handler_of}
use Rattle.handler_run.specs.Scripts.{script_of}
use Rattle.rollback_calls.specs.declared.delivered.Delivered.{Delivered as DeliveredInMemory}
use Rattle.rollback_calls.specs.declared.delivered.Step.{Step}
use Rattle.rollback_calls.specs.declared.delivered.Step.TheVariants as s

abbrev pub delivered_of : DeliveredInMemory → Delivered
delivered_of d = record { outcome = d.outcome; exception = d.exception; rolled_back = d.rolled_back; effects = d.effects }

abbrev pub delivery_of : Step → Delivery
delivery_of (s.Need key) = Wants key
delivery_of (s.Done d) = Complete (delivered_of d)

-- the handler of an event in the block of this number
abbrev pub handler_in : Program → ℕ → List ℕ → Option Steps
handler_in program number event = option_and_then (handler_of event) (slice_get program number)

-- that block is there and handles the event
abbrev pub Handles : Program → ℕ → List ℕ → Type 0
Handles program number event = (steps : Steps) × (handler_in program number event ≡ Some steps)

-- where the handler of an event stands among those of a block, if there is one
abbrev pub StandsAt : List ℕ → List HandlerProgram → Option ℕ → Type 0
StandsAt event handlers None = steps_in (find (λ h. bytes_eq h.event event) handlers) ≡ None
StandsAt event handlers (Some place) = (steps : Steps) × (steps_in (find (λ h. bytes_eq h.event event) handlers) ≡ Some steps) × (steps_of_handler (slice_get handlers place) ≡ Some steps)

-- where it stands in the block of this number
abbrev pub PlaceIn : Program → ℕ → List ℕ → Option ℕ → Type 0
PlaceIn program number event None = handler_in program number event ≡ None
PlaceIn program number event (Some place) = (steps : Steps) × (handler_in program number event ≡ Some steps) × (script_of program (record { block = number; part = part.On place }) ≡ Some steps)
