-- The ticket of the delivery that is next: what it says of its event and of the block of its entity.
use Rattle.std.proofs.Common.{◌≡◌, ℕ, Bool, true, false, ◌&&◌, not, List, [], ◌∷◌, ◌++◌, length, Option, Some, None, Ok, refl, sym, ◌∙◌, ap, subst, inl, inr}
use Rattle.std.specs.Prelude.{option_map, option_and_then, is_some}
use Rattle.std.specs.Option.{option_map_or}
use Rattle.std.proofs.lemmas.Bool.{cases_Bool, not-true}
use Rattle.slee_value.specs.declared.ids.ActivityId.{ActivityId}
use Rattle.router_state.specs.Next.{due_service, first, next, next_for, receives_at}
use Rattle.router_state.specs.Ordered.{IsOrdered}
use Rattle.router_state.specs.Queues.{head_event, is_suspended}
use Rattle.router_state.specs.State.{State}
use Rattle.router_state.specs.declared.kindred.Kindred.{Kindred}
use Rattle.router_state.specs.declared.kindred.Kindred.TheVariants as kindreds
use Rattle.router_state.specs.declared.rows.Entity.{Entity}
use Rattle.router_state.specs.declared.rows.Event.{Event}
use Rattle.router_steps.specs.Steps.{is_delivery, is_next_by}
use Rattle.router_core.specs.Delivering.{IsTicket}
use Rattle.tx_attempt.specs.declared.ticket.Ticket.{Ticket}
use Rattle.router_core.proofs.TicketLemmas.{ticket_block}
use Rattle.deploy_model.specs.declared.parts.Parts.{Parts}
use Rattle.rollback_calls.specs.Deliveries.{Handles}
use Rattle.router_durable.specs.Facts.{initial_of}
use Rattle.script_types.specs.Program.{Program}
use Rattle.script_types.specs.ProgramOf.{kept_program}
use Rattle.script_types.specs.declared.codes.Codes.{Codes}
use Rattle.signal_script.specs.declared.signal.Signal.{Signal}
use Rattle.trace_history.specs.declared.entry.Entry.{Entry}
use Rattle.slee_container.specs.Claims.{HoldsClaims, IsFront, is_claimed}
use Rattle.slee_container.specs.Container.{IsSteady, View, state_of}
use Rattle.slee_container.specs.Steps.{IsTicketFor, Prepares, is_free}
use Rattle.slee_container.proofs.Lines.{steady_with}

-- the event and the entity of a ticket

pub record IsReceived (s : State) (t : Ticket) (row : Entity) : Type 0 where
  pub head : head_event s.events t.activity.0 ≡ Some t.event
  pub found : first s t.activity.0 t.event ≡ Some row

abbrev with_entity : Event → Entity → Event × Entity
with_entity v row = (v, row)

pairs : (v w : Event) (x y : Entity) → Some (with_entity v x) ≡ Some (with_entity w y) → (v ≡ w) × (x ≡ y)
pairs v w x y h = let same : with_entity v x ≡ with_entity w y = cc in (ap (λ z. z.0) same, ap (λ z. z.1) same)

by_first : (s : State) (t : Ticket) (row : Entity) (v : Event) (o : Option Entity) → first s t.activity.0 v ≡ o → head_event s.events t.activity.0 ≡ Some v
    → option_map (with_entity v) o ≡ Some (with_entity t.event row) → IsReceived s t row
by_first s t row v None found head is = absurd cc
by_first s t row v (Some r) found head is =
    let both = pairs v t.event r row is in
    record {
      head = head ∙ ap (λ (w : Event). Some w) both.0;
      found = subst (λ (w : Event). first s t.activity.0 w ≡ Some row) both.0 (found ∙ ap (λ (e : Entity). Some e) both.1);
    }

by_head : (s : State) (t : Ticket) (row : Entity) (o : Option Event) → head_event s.events t.activity.0 ≡ o
    → option_and_then (λ (v : Event). option_map (with_entity v) (first s t.activity.0 v)) o ≡ Some (with_entity t.event row) → IsReceived s t row
by_head s t row None head is = absurd cc
by_head s t row (Some v) head is = by_first s t row v (first s t.activity.0 v) refl head is

received : (s : State) (t : Ticket) → (ticket : IsTicket s t) → IsReceived s t ticket.entity
received s t ticket = by_head s t ticket.entity (head_event s.events t.activity.0) refl ticket.received

-- its event is the head event of its activity
pub front_of : (s : State) (t : Ticket) → IsTicket s t → IsFront s t
front_of s t ticket = (received s t ticket).head

-- one claim is held
pub holds_ticket : (s : State) (t : Ticket) → IsOrdered s → IsTicket s t → HoldsClaims s (t ∷ [])
holds_ticket s t ordered ticket = record {
  apart = (refl, tt);
  fronts = (front_of s t ticket, tt);
  blocks = (ticket_block s t ordered ticket, tt);
}

-- where a delivery is next, an entity receives the event

kind_by : (s : State) (a : ℕ) (v : Event) → next_for s a v ≡ kindreds.Deliver → is_some (first s a v) ≡ true
kind_by s a v is = elim (cases_Bool (is_some (due_service s a v))) [
  | inl due ↦ absurd (let wrong : kindreds.Initial ≡ kindreds.Deliver = rw due at is in cc)
  | inr none ↦ elim (cases_Bool (is_some (first s a v))) [
    | inl some ↦ some
    | inr isnt ↦ absurd (let wrong : kindreds.Finish ≡ kindreds.Deliver = rw (none, isnt) at is in cc)
  ]
]

some_or_none : (s : State) (a : ℕ) (v : Event) (o : Option Entity) → first s a v ≡ o → is_some o ≡ true → option_map (with_entity v) o ≡ None → ⊥
some_or_none s a v None found some none = cc
some_or_none s a v (Some r) found some none = cc

received_by : (s : State) (a : ℕ) (o : Option Event) → head_event s.events a ≡ o → option_map (next_for s a) o ≡ Some kindreds.Deliver
    → option_and_then (λ (v : Event). option_map (with_entity v) (first s a v)) o ≡ None → ⊥
received_by s a None head is none = cc
received_by s a (Some v) head is none =
    let kind : next_for s a v ≡ kindreds.Deliver = cc in
    some_or_none s a v (first s a v) refl (kind_by s a v kind) none

pub someone_receives : (s : State) (a : ℕ) → Some kindreds.Deliver ≡ next s a → receives_at s a ≡ None → ⊥
someone_receives s a is none = elim (cases_Bool (is_suspended s.suspensions a)) [
  | inl held ↦ let wrong : Some kindreds.Deliver ≡ None = rw held at is in cc
  | inr free ↦ received_by s a (head_event s.events a) refl (let kind : Some kindreds.Deliver ≡ option_map (next_for s a) (head_event s.events a) = rw free at is in sym kind) none
]

-- a delivery is next, or isn't, by what is next

pub delivery_is_next : (s : State) (a : ℕ) → Some kindreds.Deliver ≡ next s a → is_next_by is_delivery s a ≡ true
delivery_is_next s a is = ap (λ (o : Option Kindred). option_map_or is_delivery o false) (sym is)

pub no_delivery : (s : State) (a : ℕ) → ((Some kindreds.Deliver ≡ next s a) → ⊥) → is_next_by is_delivery s a ≡ false
no_delivery s a isnt = by (next s a) refl
  where
    by : (o : Option Kindred) → next s a ≡ o → is_next_by is_delivery s a ≡ false
    by None is = ap (λ (o : Option Kindred). option_map_or is_delivery o false) is
    by (Some kindreds.Initial) is = ap (λ (o : Option Kindred). option_map_or is_delivery o false) is
    by (Some kindreds.Finish) is = ap (λ (o : Option Kindred). option_map_or is_delivery o false) is
    by (Some kindreds.Deliver) is = absurd (isnt (sym is))

-- a delivery that is next, and that nobody claims

pub delivery_there : (s : State) (a : ℕ) → is_next_by is_delivery s a ≡ true → receives_at s a ≡ None → ⊥
delivery_there s a is = by (next s a) refl (is)
  where
    by : (o : Option Kindred) → next s a ≡ o → option_map_or is_delivery o false ≡ true → receives_at s a ≡ None → ⊥
    by None same there none = cc
    by (Some kindreds.Initial) same there none = cc
    by (Some kindreds.Finish) same there none = cc
    by (Some kindreds.Deliver) same there none = someone_receives s a (sym same) none

left_of : (x y : Bool) → (x && y) ≡ true → x ≡ true
left_of true y is = refl
left_of false y is = absurd (cc)

right_of : (x y : Bool) → (x && y) ≡ true → y ≡ true
right_of true y is = is
right_of false y is = absurd (cc)

pub free_next : {D : Type 0} (v : View D) (a : ℕ) → is_free v a ≡ true → is_next_by is_delivery (state_of v) a ≡ true
free_next v a free = left_of (is_next_by is_delivery (state_of v) a) (not (is_claimed v.claims a)) free

pub free_unclaimed : {D : Type 0} (v : View D) (a : ℕ) → is_free v a ≡ true → is_claimed v.claims a ≡ false
free_unclaimed v a free = not-true (is_claimed v.claims a) (right_of (is_next_by is_delivery (state_of v) a) (not (is_claimed v.claims a)) free)

-- the ticket that the state gives is one of the container
pub ticket_for : {D : Type 0} (v : View D) (a : ActivityId) (t : Ticket) (n : ℕ) (parts : Parts) (codes : Codes) → n ≡ length v.history → t.number ≡ n → t.activity ≡ a → IsTicket (state_of v) t
    → initial_of parts codes ≡ v.setup.origin.initial → Handles (kept_program codes) t.block t.event.name → IsTicketFor v a t
ticket_for v a t n parts codes count number activity ticket begins handled = record {
  number = number ∙ count;
  activity = activity;
  ticket = ticket;
  handled = subst (λ (p : Program). Handles p t.block t.event.name) (ap (λ (s : State). s.program) begins) handled;
}

-- a claim more
pub steady_claim : (lines : List Signal) (skipped : ℕ) (history : List Entry) (taken : ℕ) (s : State) (claims items : List Ticket) (t : Ticket) → items ≡ claims ++ t ∷ [] → IsOrdered s → IsTicket s t
    → is_claimed claims t.activity.0 ≡ false → IsSteady lines skipped history taken s claims → IsSteady lines skipped history taken s items
steady_claim lines skipped history taken s claims items t grown ordered ticket free steady =
    subst (λ (ts : List Ticket). IsSteady lines skipped history taken s ts) (sym grown) (steady_with lines skipped history taken s claims t free (holds_ticket s t ordered ticket) steady)

-- what preparing comes to, where a copy of the ticket was claimed
pub prepares_some : {D : Type 0} (v w : View D) (a : ActivityId) (t claim : Ticket) → is_free v a.0 ≡ true → IsTicketFor v a t → claim ≡ t → w ≡ record v { claims = v.claims ++ claim ∷ [] }
    → Prepares v a (Ok (Some t)) w
prepares_some {D = D} v w a t claim free ticket same grown =
    (grown ∙ ap (λ (u : Ticket). let x : View D = record v { claims = v.claims ++ u ∷ [] } in x) same, free, ticket)
