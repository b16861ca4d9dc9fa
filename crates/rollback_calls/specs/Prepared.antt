-- What a prepared delivery comes to over answers.
use Rattle.script_types.specs.Program.{Program}
use Rattle.script_meaning.specs.Answers.{Answers}
use Rattle.script_meaning.specs.Delivery.{Delivery, delivered}
use Rattle.rollback_calls.specs.declared.prepared.PreparedDelivery.{PreparedDelivery}
use Rattle.rollback_calls.specs.Deliveries.{Handles}

abbrev pub delivery_over : Program → PreparedDelivery → Answers → Delivery
delivery_over program d answers = delivered answers program d.block d.entity d.arguments.activity d.event d.arguments.fields

-- the block is there and handles the event
abbrev pub CanDeliver : Program → PreparedDelivery → Type 0
CanDeliver program d = Handles program d.block d.event
