-- What a delivery comes to.
use Rattle.std.proofs.Common.{◌≡◌, ℕ, ◌≤◌, List, Option, Some, None, Ok, refl, sym, ◌∙◌, ap, subst, slice_get}
use Rattle.std.specs.Prelude.{option_map, option_and_then}
use Rattle.slee_value.specs.declared.ids.ActivityId.{ActivityId}
use Rattle.slee_value.specs.declared.ids.EntityId.{EntityId}
use Rattle.slee_value.specs.declared.value.Value.{Value}
use Rattle.script_types.specs.Codes.{Codes}
use Rattle.script_types.specs.CodesOf.{codes_of}
use Rattle.script_types.specs.Program.{BlockProgram, Program, Steps}
use Rattle.script_types.specs.Programs.{program_of}
use Rattle.script_meaning.specs.Answers.{Answers}
use Rattle.script_meaning.specs.Delivery.{Complete, Delivered as DeliveredAsDefined, Delivery, NotChecked, Wants, delivered_by, handled, handler_of, with_block}
use Rattle.script_meaning.specs.Running.{bytes_of, effect_bytes_limit}
use Rattle.script_laws.specs.Fitting.{IsSoundDelivery}
use Rattle.script_laws.proofs.SafeDeliveries.{delivery_is_sound}
use Rattle.slee_descriptor.specs.declared.deployment.Deployment.{Deployment}
use Rattle.rollback_calls.specs.Deliveries.{delivered_of}
use Rattle.rollback_calls.specs.declared.delivered.Delivered.{Delivered}
use Rattle.router_state.specs.State.{State}
use Rattle.router_state.specs.Next.{receives_at}
use Rattle.router_state.specs.declared.rows.Entity.{Entity}
use Rattle.router_state.specs.declared.rows.Event.{Event}
use Rattle.router_steps.specs.Scripts.{answers_in, complete, delivered_in}
use Rattle.router_steps.specs.Steps.{Receipt as ReceiptAsDefined, delivery_at, delivery_to}
use Rattle.router_basis.specs.Deploying.{IsDeployed}
use Rattle.router_subjects.specs.declared.delivering.Receipt.{Receipt}
use Rattle.router_plans.specs.Deliveries.{IsReceived}
use Rattle.router_core.specs.Delivering.{Delivers, IsReceipt}
use Rattle.router_core.proofs.TicketLemmas.{some_is}

-- what the delivery comes to, by what its scripts come to
delivery_by : (s : State) (a : ℕ) (v : Event) (row : Entity) (found : Option DeliveredAsDefined) → receives_at s a ≡ Some (v, row) → delivered_in s a v row ≡ found
    → delivery_at s a ≡ option_map (λ (x : DeliveredAsDefined). let r : ReceiptAsDefined = record { activity = a; event = v; entity = row; delivered = x } in r) found
delivery_by s a v row found received is =
    ap (option_and_then (delivery_to s a)) received ∙ ap (option_map (λ (x : DeliveredAsDefined). let r : ReceiptAsDefined = record { activity = a; event = v; entity = row; delivered = x } in r)) is

pub delivers_so : (s : State) (a : ActivityId) (v : Event) (row : Entity) (d : Delivered) → receives_at s a.0 ≡ Some (v, row) → delivered_in s a.0 v row ≡ Some (delivered_of d) → Delivers s a d
delivers_so s a v row d received is = ap (option_map (λ (x : ReceiptAsDefined). x.delivered)) (delivery_by s a.0 v row (Some (delivered_of d)) received is)

-- its effects are within their limit

short_by : (answers : Answers) (x : Delivery) (found : DeliveredAsDefined) → complete x ≡ Some found → IsSoundDelivery answers x → bytes_of found.effects ≤ effect_bytes_limit
short_by answers (Complete y) found is sound = subst (λ (z : DeliveredAsDefined). bytes_of z.effects ≤ effect_bytes_limit) (some_is y found is) sound.1
short_by answers (Wants key) found is sound = absurd cc
short_by answers NotChecked found is sound = absurd cc

short_handled : (all : Codes) (program : Program) → program_of all ≡ Ok program → (answers : Answers) (number : ℕ) (block : BlockProgram) (steps : Option Steps) (e : EntityId) (a : ActivityId) (event : List ℕ) (fields : List (List ℕ × Value)) (found : DeliveredAsDefined)
    → slice_get program number ≡ Some block → handler_of event block ≡ steps → complete (handled steps (λ x. delivered_by answers program block x e a fields)) ≡ Some found → bytes_of found.effects ≤ effect_bytes_limit
short_handled all program made answers number block None e a event fields found there none is = absurd cc
short_handled all program made answers number block (Some steps) e a event fields found there some is =
    short_by answers (delivered_by answers program block steps e a fields) found is (delivery_is_sound all program made answers number block steps e a event fields there some)

short_in : (all : Codes) (program : Program) → program_of all ≡ Ok program → (answers : Answers) (number : ℕ) (block : Option BlockProgram) (e : EntityId) (a : ActivityId) (event : List ℕ) (fields : List (List ℕ × Value)) (found : DeliveredAsDefined)
    → slice_get program number ≡ block → complete (with_block block (λ b. handled (handler_of event b) (λ x. delivered_by answers program b x e a fields))) ≡ Some found → bytes_of found.effects ≤ effect_bytes_limit
short_in all program made answers number None e a event fields found none is = absurd cc
short_in all program made answers number (Some block) e a event fields found some is = short_handled all program made answers number block (handler_of event block) e a event fields found some refl is

short_delivered : (s : State) (a : ActivityId) (v : Event) (row : Entity) (all : Codes) (found : DeliveredAsDefined) → program_of all ≡ Ok s.program → delivered_in s a.0 v row ≡ Some found → bytes_of found.effects ≤ effect_bytes_limit
short_delivered s a v row all found made is = short_in all s.program made (answers_in s) row.block (slice_get s.program row.block) row.number a v.name v.fields found refl is

received_by : (dep : Deployment) (s : State) (r : Receipt) (d : Delivered) (receipt : IsReceipt s r) (found : Option DeliveredAsDefined) → IsDeployed dep s → Delivers s r.activity d
    → delivered_in s r.activity.0 receipt.event receipt.entity ≡ found → IsReceived s r d
received_by dep s r d receipt None own is none =
    let nothing = delivery_by s r.activity.0 receipt.event receipt.entity None receipt.received none in
    absurd (let wrong : None ≡ Some (delivered_of d) = sym (ap (option_map (λ (x : ReceiptAsDefined). x.delivered)) nothing) ∙ is in cc)
received_by dep s r d receipt (Some found) own is some =
    let here = delivery_by s r.activity.0 receipt.event receipt.entity (Some found) receipt.received some in
    let same : found ≡ delivered_of d = some_is found (delivered_of d) (sym (ap (option_map (λ (x : ReceiptAsDefined). x.delivered)) here) ∙ is) in
    record {
      event = receipt.event;
      entity = receipt.entity;
      first = here ∙ ap (λ (x : DeliveredAsDefined). let y : ReceiptAsDefined = record { activity = r.activity.0; event = receipt.event; entity = receipt.entity; delivered = x } in Some y) same;
      event_number = receipt.event_number;
      entity_number = receipt.entity_number;
      short = subst (λ (x : DeliveredAsDefined). bytes_of x.effects ≤ effect_bytes_limit) same
          (short_delivered s r.activity receipt.event receipt.entity (codes_of dep.codes) found (subst (λ (p : Program). program_of (codes_of dep.codes) ≡ Ok p) own.program own.checked) some);
    }

pub received : (dep : Deployment) (s : State) (r : Receipt) (d : Delivered) → IsDeployed dep s → IsReceipt s r → Delivers s r.activity d → IsReceived s r d
received dep s r d own receipt is = received_by dep s r d receipt (delivered_in s r.activity.0 receipt.event receipt.entity) own is refl
