-- An attempt that is done over what is seen in the state comes to what the delivery comes to there.
use Rattle.std.proofs.Common.{◌≡◌, ℕ, true, List, Option, Some, None, IsSome, refl, sym, ◌∙◌, ap, subst}
use Rattle.slee_value.specs.declared.ids.ActivityId.{ActivityId}
use Rattle.slee_value.specs.declared.ids.EntityId.{EntityId}
use Rattle.script_types.specs.Program.{Program}
use Rattle.script_meaning.specs.Answers.{kept}
use Rattle.script_meaning.specs.Delivery.{Complete, delivered}
use Rattle.script_meaning.specs.declared.key.Key.{Key}
use Rattle.script_meaning.specs.declared.seen.Seen.{Seen}
use Rattle.script_meaning.specs.declared.seen.Seen.TheVariants as seen
use Rattle.script_laws.specs.Asking.{lacked_by}
use Rattle.handler_run.specs.Views.{Holds}
use Rattle.deploy_model.specs.Deployed.{Deployed, handles}
use Rattle.rollback_calls.specs.Deliveries.{Handles, delivered_of}
use Rattle.rollback_calls.specs.Prepared.{CanDeliver, delivery_over}
use Rattle.rollback_calls.specs.declared.delivered.Delivered.{Delivered}
use Rattle.rollback_calls.specs.declared.prepared.PreparedDelivery.{PreparedDelivery}
use Rattle.trace_history.specs.declared.choice.Choice.TheVariants as choices
use Rattle.router_state.specs.State.{State}
use Rattle.router_state.specs.Look.{look, next_delivery}
use Rattle.router_steps.specs.Scripts.{answers_in, complete}
use Rattle.router_steps.specs.Steps.{is_enabled}
use Rattle.tx_attempt.specs.Attempts.{Comes, HasAsked, IsDone, IsNew, asked_for}
use Rattle.tx_attempt.specs.declared.attempt.Attempt.{Attempt}
use Rattle.tx_attempt.specs.declared.ticket.Ticket.{Ticket}
use Rattle.tx_attempt.proofs.HoldsLemmas.{holds_decides}
use Rattle.router_core.specs.Delivering.{Delivers, IsTicket}
use Rattle.router_core.proofs.NextLemmas.{next_received}
use Rattle.router_core.proofs.TicketLemmas.{ticket_handled}
use Rattle.router_core.proofs.ReceivedLemmas.{delivers_so}

-- a delivery that was prepared for a ticket is that of the ticket
over_ticket : (program : Program) (t : Ticket) (a : Attempt) (known : List (Key × Seen)) → IsNew t a
    → delivery_over program a.delivery (kept known) ≡ delivered (kept known) program t.block t.entity t.activity t.event.name t.event.fields
over_ticket program t a known new =
    ap (λ (n : ℕ). delivered (kept known) program n a.delivery.entity a.delivery.arguments.activity a.delivery.event a.delivery.arguments.fields) new.block
    ∙ ap (λ (e : EntityId). delivered (kept known) program t.block e a.delivery.arguments.activity a.delivery.event a.delivery.arguments.fields) new.entity
    ∙ ap (λ (b : ActivityId). delivered (kept known) program t.block t.entity b a.delivery.event a.delivery.arguments.fields) new.activity
    ∙ ap (λ (name : List ℕ). delivered (kept known) program t.block t.entity t.activity name a.delivery.arguments.fields) new.event
    ∙ ap (λ fields. delivered (kept known) program t.block t.entity t.activity t.event.name fields) new.fields

-- what a new attempt asks of its caller

pub can_deliver : (program : Program) (d : Deployed) (s : State) (t : Ticket) (a : Attempt) → ((number : ℕ) (event : List ℕ) → handles d number event ≡ true → Handles program number event) → d ≡ s.deployment
    → IsTicket s t → IsNew t a → CanDeliver program a.delivery
can_deliver program d s t a there same ticket new =
    subst (λ (n : ℕ). Handles program n a.delivery.event) (sym new.block) (subst (λ (name : List ℕ). Handles program t.block name) (sym new.event) (ticket_handled program d s t there same ticket))

pub new_asked : (program : Program) (t : Ticket) (a : Attempt) → IsNew t a → HasAsked program a
new_asked program t a new = subst (asked_for (λ answers. lacked_by (delivery_over program a.delivery answers))) (sym new.known) tt

-- an attempt that is done has its outcome
pub done_there : (program : Program) (a : Attempt) → IsDone program a → IsSome a.outcome
done_there program a done = by a.outcome done
  where
    by : (o : Option Delivered) → Comes program a o → IsSome o
    by None comes = elim comes [ ]
    by (Some d) comes = refl

pub delivers : (program : Program) (s sight : State) (t : Ticket) (a b : Attempt) (d : Delivered) → program ≡ s.program → sight ≡ s → is_enabled s (choices.Deliver t.activity) ≡ true → IsTicket s t
    → IsNew t a → b.delivery ≡ a.delivery → IsDone program b → (Holds (look sight) a.known → Holds (look sight) b.known) → b.outcome ≡ Some d → Delivers s t.activity d
delivers program s sight t a b d own same enabled ticket new task done holds is =
    let comes : delivery_over program b.delivery (kept b.known) ≡ Complete (delivered_of d) = subst (Comes program b) is done in
    let over : delivered (kept b.known) program t.block t.entity t.activity t.event.name t.event.fields ≡ Complete (delivered_of d)
    = sym (over_ticket program t a b.known new) ∙ ap (λ (p : PreparedDelivery). delivery_over program p (kept b.known)) (sym task) ∙ comes in
    let over_own : delivered (kept b.known) s.program t.block t.entity t.activity t.event.name t.event.fields ≡ Complete (delivered_of d)
    = subst (λ (p : Program). delivered (kept b.known) p t.block t.entity t.activity t.event.name t.event.fields ≡ Complete (delivered_of d)) own over in
    let next : next_delivery s t.activity.0 ≡ Some (t.event.id, t.entity) = next_received s t.activity t.event ticket.entity enabled ticket.received ∙ ap (λ (e : EntityId). Some (t.event.id, e)) ticket.number in
    let first : Holds (look s) a.known = subst (Holds (look s)) (sym new.known) (ap (λ o. seen.Next o) next, tt) in
    let all : Holds (look s) b.known = subst (λ (z : State). Holds (look z) a.known → Holds (look z) b.known) same holds first in
    let whole : delivered (answers_in s) s.program t.block t.entity t.activity t.event.name t.event.fields ≡ Complete (delivered_of d)
    = holds_decides (look s) b.known s.program t.block t.entity t.activity t.event.name t.event.fields (delivered_of d) all over_own in
    delivers_so s t.activity t.event ticket.entity d ticket.received
    (ap (λ (n : ℕ). complete (delivered (answers_in s) s.program n ticket.entity.number t.activity t.event.name t.event.fields)) ticket.block
    ∙ ap (λ (e : EntityId). complete (delivered (answers_in s) s.program t.block e t.activity t.event.name t.event.fields)) ticket.number
    ∙ ap complete whole)
