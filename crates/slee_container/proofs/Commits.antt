-- Commits: where all that an attempt has seen is seen so, the delivery of its ticket is the one that is next, and comes to what the attempt came to.
use Rattle.std.proofs.Common.{◌≡◌, ℕ, ◌==◌, Bool, true, false, List, [], ◌∷◌, ◌++◌, Option, Some, None, refl, sym, ◌∙◌, ap, subst, filter, inl, inr, ◌⊎◌, arith}
use Rattle.std.specs.Prelude.{option_map, option_and_then}
use Rattle.std.specs.List.{AllByRecursion}
use Rattle.std.specs.Option.{option_map_or}
use Rattle.std.proofs.lemmas.Bool.{cases_Bool}
use Rattle.std.proofs.lemmas.Bool.Decides.{nat_tests}
use Rattle.slee_value.specs.declared.ids.ActivityId.{ActivityId}
use Rattle.slee_value.specs.declared.ids.EntityId.{EntityId}
use Rattle.slee_value.specs.declared.ids.EventId.{EventId}
use Rattle.script_types.specs.Program.{Program}
use Rattle.script_meaning.specs.Answers.{kept}
use Rattle.script_meaning.specs.Delivery.{Complete, delivered}
use Rattle.script_meaning.specs.declared.key.Key.{Key}
use Rattle.script_meaning.specs.declared.seen.Seen.{Seen}
use Rattle.script_meaning.specs.declared.seen.Seen.TheVariants as seens
use Rattle.handler_run.specs.Views.{Holds, conflict}
use Rattle.rollback_calls.specs.Deliveries.{delivered_of}
use Rattle.rollback_calls.specs.Prepared.{delivery_over}
use Rattle.rollback_calls.specs.declared.delivered.Delivered.{Delivered}
use Rattle.router_state.specs.Look.{delivery_if, look, next_delivery}
use Rattle.router_state.specs.Next.{eligible, first, is_eligible, next, receives_at}
use Rattle.router_state.specs.Paths.{earlier, least_path, path_before, path_of}
use Rattle.router_state.specs.Queues.{head_event}
use Rattle.router_state.specs.State.{State}
use Rattle.router_state.specs.declared.kindred.Kindred.{Kindred}
use Rattle.router_state.specs.declared.kindred.Kindred.TheVariants as kindreds
use Rattle.router_state.specs.declared.rows.Entity.{Entity}
use Rattle.router_state.specs.declared.rows.Event.{Event}
use Rattle.router_steps.specs.Scripts.{answers_in, complete}
use Rattle.router_steps.specs.Steps.{is_delivery, is_next_by}
use Rattle.tx_attempt.specs.Attempts.{Comes, IsDone, IsNew, IsSameTask, next_seen}
use Rattle.tx_attempt.specs.declared.attempt.Attempt.{Attempt}
use Rattle.tx_attempt.specs.declared.ticket.Ticket.{Ticket}
use Rattle.tx_attempt.proofs.HoldsLemmas.{holds_decides, no_conflict}
use Rattle.router_core.specs.Delivering.{Delivers}
use Rattle.router_core.proofs.ReceivedLemmas.{delivers_so}
use Rattle.slee_container.specs.Claims.{HoldsClaims, IsAttemptOf, IsClaim, IsFront, IsOfBlock}

-- ---- attempts of a ticket

pub new_attempt : (t : Ticket) (a : Attempt) → IsNew t a → IsAttemptOf t a
new_attempt t a new = record { block = new.block; entity = new.entity; activity = new.activity; event = new.event; fields = new.fields; learned = []; known = new.known }

same_attempt : (t : Ticket) (a b : Attempt) (learned : List (Key × Seen)) → b.delivery ≡ a.delivery → b.known ≡ next_seen t ∷ learned → IsAttemptOf t a → IsAttemptOf t b
same_attempt t a b learned delivery known of = record {
  block = ap (λ d. d.block) delivery ∙ of.block;
  entity = ap (λ d. d.entity) delivery ∙ of.entity;
  activity = ap (λ d. d.arguments.activity) delivery ∙ of.activity;
  event = ap (λ d. d.event) delivery ∙ of.event;
  fields = ap (λ d. d.arguments.fields) delivery ∙ of.fields;
  learned = learned;
  known = known;
}

pub run_attempt : (t : Ticket) (a b : Attempt) → IsSameTask a b → IsAttemptOf t a → IsAttemptOf t b
run_attempt t a b same of = same_attempt t a b of.learned same.delivery (same.known ∙ of.known) of

pub learned_attempt : (t : Ticket) (a b : Attempt) (key : Key) (seen : Seen) → b.delivery ≡ a.delivery → b.known ≡ a.known ++ (key, seen) ∷ [] → IsAttemptOf t a → IsAttemptOf t b
learned_attempt t a b key seen delivery known of =
    same_attempt t a b (of.learned ++ (key, seen) ∷ []) delivery (known ∙ ap (λ (l : List (Key × Seen)). l ++ (key, seen) ∷ []) of.known) of

-- ---- what is kept of a claim

claim_all : (P : Ticket → Type 0) (claims : List Ticket) (t : Ticket) → AllByRecursion P claims → IsClaim t claims → P t
claim_all P [] t all is = elim is [ ]
claim_all P (u ∷ us) t all (inl same) = subst P (sym same) all.0
claim_all P (u ∷ us) t all (inr more) = claim_all P us t all.1 more

pub claim_front : (s : State) (claims : List Ticket) (t : Ticket) → HoldsClaims s claims → IsClaim t claims → IsFront s t
claim_front s claims t holds is = claim_all (IsFront s) claims t holds.fronts is

pub claim_block : (s : State) (claims : List Ticket) (t : Ticket) → HoldsClaims s claims → IsClaim t claims → IsOfBlock t.entity.0 t.block s
claim_block s claims t holds is = claim_all (λ (u : Ticket). IsOfBlock u.entity.0 u.block s) claims t holds.blocks is

-- ---- the entity that receives an event is there

abbrev pub IsIn : Entity → List Entity → Type 0
IsIn x [] = ⊥
IsIn x (y ∷ ys) = (x ≡ y) ⊎ IsIn x ys

some_is : {A : Type 0} (x y : A) → Some x ≡ Some y → x ≡ y
some_is x y h = cc

in_filter : (p : Entity → Bool) (xs : List Entity) (x : Entity) → IsIn x (filter p xs) → IsIn x xs
in_filter p [] x is = elim is [ ]
in_filter p (y ∷ ys) x is = elim (cases_Bool (p y)) [
  | inl passes ↦ let there : (x ≡ y) ⊎ IsIn x (filter p ys) = rw passes at is in elim there [
    | inl same ↦ inl same
    | inr more ↦ inr (in_filter p ys x more)
  ]
  | inr fails ↦ inr (in_filter p ys x (rw fails at is))
]

one_of : (rows : List Entity) (best : Option Entity) (y row : Entity) → Some (earlier rows best y) ≡ Some row → (best ≡ Some row) ⊎ (row ≡ y)
one_of rows None y row is = inr (let same : y ≡ row = cc in sym same)
one_of rows (Some x) y row is = elim (cases_Bool (path_before (path_of rows y) (path_of rows x))) [
  | inl before ↦ inr (let found : Some y ≡ Some row = rw before at is in let same : y ≡ row = cc in sym same)
  | inr behind ↦ inl (let found : Some x ≡ Some row = rw behind at is in found)
]

least_in : (rows : List Entity) (best : Option Entity) (ys : List Entity) (row : Entity) → least_path rows best ys ≡ Some row → (best ≡ Some row) ⊎ IsIn row ys
least_in rows best [] row is = inl is
least_in rows best (y ∷ ys) row is = elim (least_in rows (Some (earlier rows best y)) ys row is) [
  | inl own ↦ elim (one_of rows best y row own) [
    | inl same ↦ inl same
    | inr here ↦ inr (inl here)
  ]
  | inr more ↦ inr (inr more)
]

pub first_in : (s : State) (a : ℕ) (v : Event) (row : Entity) → first s a v ≡ Some row → IsIn row s.entities
first_in s a v row is = elim (least_in s.entities None (eligible s a v) row is) [
  | inl none ↦ absurd (let wrong : None ≡ Some row = none in cc)
  | inr there ↦ in_filter (is_eligible s a v) s.entities row there
]

in_all : (P : Entity → Type 0) (xs : List Entity) (x : Entity) → AllByRecursion P xs → IsIn x xs → P x
in_all P [] x all is = elim is [ ]
in_all P (y ∷ ys) x all (inl same) = subst P (sym same) all.0
in_all P (y ∷ ys) x all (inr more) = in_all P ys x all.1 more

-- ---- what is seen to be next is

next_of : (x y : Option (EventId × EntityId)) → seens.Next x ≡ seens.Next y → x ≡ y
next_of x y h = cc

-- the delivery that an attempt knows to be next
pub seen_next : (s : State) (t : Ticket) (a : Attempt) → IsAttemptOf t a → conflict (look s) a.known ≡ None → next_delivery s t.activity.0 ≡ Some (t.event.id, t.entity)
seen_next s t a of none =
    let holds : Holds (look s) (next_seen t ∷ of.learned) = subst (Holds (look s)) of.known (no_conflict (look s) a.known none) in
    next_of (next_delivery s t.activity.0) (Some (t.event.id, t.entity)) holds.0

abbrev numbers_of : Event × Entity → EventId × EntityId
numbers_of x = (x.0.id, x.1.number)

-- a delivery is next, of what is received
record IsDue (s : State) (a : ℕ) (x : EventId × EntityId) : Type 0 where
  pub next : is_next_by is_delivery s a ≡ true
  pub received : option_map numbers_of (receives_at s a) ≡ Some x

due_by : (s : State) (a : ℕ) (x : EventId × EntityId) (o : Option Kindred) → next s a ≡ o → option_and_then (delivery_if s a) o ≡ Some x → IsDue s a x
due_by s a x None is seen = absurd cc
due_by s a x (Some kindreds.Initial) is seen = absurd cc
due_by s a x (Some kindreds.Finish) is seen = absurd cc
due_by s a x (Some kindreds.Deliver) is seen = record { next = ap (λ (o : Option Kindred). option_map_or is_delivery o false) is; received = seen }

abbrev with_entity : Event → Entity → Event × Entity
with_entity v row = (v, row)

-- the event that is received is the head event, and its entity is the one that is first
record IsReceivedBy (s : State) (a : ℕ) (v : Event) (e : EntityId) : Type 0 where
  pub row : Entity
  pub received : receives_at s a ≡ Some (with_entity v row)
  pub first : first s a v ≡ Some row
  pub number : row.number ≡ e

received_by : (s : State) (a : ℕ) (v : Event) (x : EventId × EntityId) (found : Option Entity) → receives_at s a ≡ option_map (with_entity v) found → first s a v ≡ found
    → option_map numbers_of (option_map (with_entity v) found) ≡ Some x → IsReceivedBy s a v x.1
received_by s a v x None received found is = absurd cc
received_by s a v x (Some row) received found is =
    let all : numbers_of (with_entity v row) ≡ x = some_is (numbers_of (with_entity v row)) x is in
    record { row = row; received = received; first = found; number = ap (λ y. y.1) all }

received_at : (s : State) (a : ℕ) (v : Event) (x : EventId × EntityId) → head_event s.events a ≡ Some v → option_map numbers_of (receives_at s a) ≡ Some x → IsReceivedBy s a v x.1
received_at s a v x head is =
    let here : receives_at s a ≡ option_map (with_entity v) (first s a v) = ap (option_and_then (λ (w : Event). option_map (with_entity w) (first s a w))) head in
    received_by s a v x (first s a v) here refl (sym (ap (option_map numbers_of) here) ∙ is)

-- ---- what an attempt came to is what the delivery comes to

over_ticket : (program : Program) (t : Ticket) (a : Attempt) → IsAttemptOf t a
    → delivery_over program a.delivery (kept a.known) ≡ delivered (kept a.known) program t.block t.entity t.activity t.event.name t.event.fields
over_ticket program t a of =
    ap (λ (n : ℕ). delivered (kept a.known) program n a.delivery.entity a.delivery.arguments.activity a.delivery.event a.delivery.arguments.fields) of.block
    ∙ ap (λ (e : EntityId). delivered (kept a.known) program t.block e a.delivery.arguments.activity a.delivery.event a.delivery.arguments.fields) of.entity
    ∙ ap (λ (b : ActivityId). delivered (kept a.known) program t.block t.entity b a.delivery.event a.delivery.arguments.fields) of.activity
    ∙ ap (λ (name : List ℕ). delivered (kept a.known) program t.block t.entity t.activity name a.delivery.arguments.fields) of.event
    ∙ ap (λ fields. delivered (kept a.known) program t.block t.entity t.activity t.event.name fields) of.fields

-- the delivery of the ticket is next, and comes to this
pub record IsReady (s : State) (t : Ticket) (d : Delivered) : Type 0 where
  pub seen : next_delivery s t.activity.0 ≡ Some (t.event.id, t.entity)
  pub next : is_next_by is_delivery s t.activity.0 ≡ true
  pub delivers : Delivers s t.activity d

pub ready : (s : State) (t : Ticket) (a : Attempt) (d : Delivered) → IsFront s t → IsOfBlock t.entity.0 t.block s → IsAttemptOf t a → IsDone s.program a → a.outcome ≡ Some d
    → conflict (look s) a.known ≡ None → IsReady s t d
ready s t a d front block of done outcome none =
    let seen = seen_next s t a of none in
    let due = due_by s t.activity.0 (t.event.id, t.entity) (next s t.activity.0) refl seen in
    let here = received_at s t.activity.0 t.event (t.event.id, t.entity) front due.received in
    let number : here.row.number ≡ t.entity = here.number in
    let own : (here.row.number.0 == t.entity.0) ≡ true = rw number (grind (arith, nat_tests)) in
    let blocked : here.row.block ≡ t.block = in_all (λ (row : Entity). (row.number.0 == t.entity.0) ≡ true → row.block ≡ t.block) s.entities here.row block.1
    (first_in s t.activity.0 t.event here.row here.first) own in
    let comes : delivery_over s.program a.delivery (kept a.known) ≡ Complete (delivered_of d) = subst (Comes s.program a) outcome done in
    let over : delivered (kept a.known) s.program t.block t.entity t.activity t.event.name t.event.fields ≡ Complete (delivered_of d) = sym (over_ticket s.program t a of) ∙ comes in
    let whole : delivered (answers_in s) s.program t.block t.entity t.activity t.event.name t.event.fields ≡ Complete (delivered_of d)
    = holds_decides (look s) a.known s.program t.block t.entity t.activity t.event.name t.event.fields (delivered_of d) (no_conflict (look s) a.known none) over in
    record {
      seen = seen;
      next = due.next;
      delivers = delivers_so s t.activity t.event here.row d here.received
          (ap (λ (n : ℕ). complete (delivered (answers_in s) s.program n here.row.number t.activity t.event.name t.event.fields)) blocked
          ∙ ap (λ (e : EntityId). complete (delivered (answers_in s) s.program t.block e t.activity t.event.name t.event.fields)) number
          ∙ ap complete whole);
    }
