-- Each choice that is enabled is about something: a delivery of a checked deployment comes to an outcome.
use Rattle.std.proofs.Common.{Bool, None, Option, Some, ap, false, inl, inr, refl, subst, sym, true, ℕ, ◌∙◌, ◌≡◌}
use Rattle.std.proofs.lemmas.Bool.{and_parts, cases_Bool, false≢true}
use Rattle.std.specs.Option.{option_map_or}
use Rattle.std.specs.Prelude.{is_some, not, option_and_then, option_map}
use Rattle.router_laws.proofs.ListRules.{in_filter}
use Rattle.router_laws_histories.proofs.Receiving.{first_in}
use Rattle.router_laws_histories.proofs.Waiting.{next_free}
use Rattle.router_laws_runs.specs.AsRead.{IsAsRead}
use Rattle.router_state.specs.Contexts.{is_linked}
use Rattle.router_state.specs.Next.{due_service, eligible, first, is_eligible, next_for, receives_at, selects_at}
use Rattle.router_state.specs.Queues.{head_event}
use Rattle.router_state.specs.State.{State, is_used_up}
use Rattle.router_state.specs.declared.kindred.Kindred.{Kindred}
use Rattle.router_state.specs.declared.rows.Entity.{Entity}
use Rattle.router_state.specs.declared.rows.Event.{Event}
use Rattle.router_steps.specs.Scripts.{answers_in, complete, delivered_in}
use Rattle.router_steps.specs.Steps.{delivery_at, delivery_to, due_at, finish_at, is_delivery, is_enabled, is_finish, is_initial, is_next, is_next_by, subject_of}
use Rattle.deploy_model.specs.Deployed.{handles}
use Rattle.script_laws.proofs.SafeDeliveries.{delivery_is_sound}
use Rattle.script_laws.specs.Fitting.{IsSoundDelivery}
use Rattle.script_meaning.specs.Delivery.{Complete, Delivery, NotChecked, Wants, delivered_by, handled, handler_of, with_block}
use Rattle.script_types.specs.Program.{BlockProgram, Steps}
use Rattle.trace_history.specs.declared.choice.Choice.{Choice}
use Rattle.trace_history.specs.declared.choice.Choice.TheVariants as choices

some_of : {X : Type 0} (o : Option X) → is_some o ≡ true → (x : X) × (o ≡ Some x)
some_of None there = absurd (false≢true there)
some_of (Some x) there = (x, refl)

some_is : {X : Type 0} (o : Option X) (x : X) → o ≡ Some x → is_some o ≡ true
some_is o x is = ap is_some is

mapped_there : {X Y : Type 0} (f : X → Y) (o : Option X) → is_some o ≡ true → is_some (option_map f o) ≡ true
mapped_there f None there = there
mapped_there f (Some x) there = refl

-- the head event that a choice on an activity is about
head_there : (test : Kindred → Bool) (s : State) (a : ℕ) → is_next_by test s a ≡ true → (v : Event) × (head_event s.events a ≡ Some v) × (test (next_for s a v) ≡ true)
head_there test s a on = by (head_event s.events a) refl (rw (next_free s a test on) at on)
  where
    by : (o : Option Event) → head_event s.events a ≡ o → option_map_or test (option_map (next_for s a) o) false ≡ true → (v : Event) × (head_event s.events a ≡ Some v) × (test (next_for s a v) ≡ true)
    by None head is = absurd (false≢true is)
    by (Some v) head is = (v, head, is)

-- an initial selection is of a service that is due, and a delivery of an entity that is first
due_there : (s : State) (a : ℕ) (v : Event) → is_initial (next_for s a v) ≡ true → is_some (due_service s a v) ≡ true
due_there s a v is = elim (cases_Bool (is_some (due_service s a v))) [
  | inl due ↦ due
  | inr none ↦ (elim (cases_Bool (is_some (first s a v))) [
    | inl there ↦ absurd (false≢true (rw (none, there) at is))
    | inr nobody ↦ absurd (false≢true (rw (none, nobody) at is))
  ])
]

first_there : (s : State) (a : ℕ) (v : Event) → is_delivery (next_for s a v) ≡ true → is_some (first s a v) ≡ true
first_there s a v is = elim (cases_Bool (is_some (due_service s a v))) [
  | inl due ↦ absurd (false≢true (rw due at is))
  | inr none ↦ (elim (cases_Bool (is_some (first s a v))) [
    | inl there ↦ there
    | inr nobody ↦ absurd (false≢true (rw (none, nobody) at is))
  ])
]

-- a delivery to an entity whose block handles the event comes to an outcome
outcome_there : (s : State) (a : ℕ) (v : Event) (row : Entity) → IsAsRead s.deployment s.program → handles s.deployment row.block v.name ≡ true → is_some (delivered_in s a v row) ≡ true
outcome_there s a v row read handled_there =
    let found = read.handled row.block v.name handled_there in
    let steps = some_of (handler_of v.name found.0) found.2 in
    let p = read.programmed in
    let sound = delivery_is_sound p.codes s.program p.made (answers_in s) row.block found.0 steps.0 row.number (record { 0 = a }) v.name v.fields found.1 steps.1 in
    ap (λ (o : Option BlockProgram). is_some (complete (with_block o (λ block. handled (handler_of v.name block) (λ own. delivered_by (answers_in s) s.program block own row.number (record { 0 = a }) v.fields))))) found.1
    ∙ ap (λ (o : Option Steps). is_some (complete (handled o (λ own. delivered_by (answers_in s) s.program found.0 own row.number (record { 0 = a }) v.fields)))) steps.1
    ∙ comes (delivered_by (answers_in s) s.program found.0 steps.0 row.number (record { 0 = a }) v.fields) sound
  where
    comes : (r : Delivery) → IsSoundDelivery (answers_in s) r → is_some (complete r) ≡ true
    comes (Complete d) sound = refl
    comes (Wants key) none = absurd (cc)
    comes NotChecked none = elim none [ ]

pub choice_about : (s : State) (c : Choice) → IsAsRead s.deployment s.program → is_enabled s c ≡ true → is_some (subject_of s c) ≡ true
choice_about s (choices.Input signal) read on = refl
choice_about s (choices.Initial a) read on =
    let head = head_there is_initial s a.0 (and_parts (not (is_used_up s)) (is_next s (choices.Initial a)) on).1 in
    let due = some_of (due_service s a.0 head.0) (due_there s a.0 head.0 head.2) in
    let selects : selects_at s a.0 ≡ Some (head.0, due.0) = ap (option_and_then (λ v. option_map (λ service. (v, service)) (due_service s a.0 v))) head.1 ∙ ap (option_map (λ service. (head.0, service))) due.1 in
    mapped_there _ (due_at s a.0) (mapped_there _ (selects_at s a.0) (some_is (selects_at s a.0) (head.0, due.0) selects))
choice_about s (choices.Deliver a) read on =
    let head = head_there is_delivery s a.0 (and_parts (not (is_used_up s)) (is_next s (choices.Deliver a)) on).1 in
    let v = head.0 in
    let one = some_of (first s a.0 v) (first_there s a.0 v head.2) in
    let row = one.0 in
    let receives : receives_at s a.0 ≡ Some (v, row) = ap (option_and_then (λ w. option_map (λ (r : Entity). (w, r)) (first s a.0 w))) head.1 ∙ ap (option_map (λ (r : Entity). (v, r))) one.1 in
    let passes : is_eligible s a.0 v row ≡ true = (in_filter (is_eligible s a.0 v) row s.entities (first_in s.entities (eligible s a.0 v) row one.1)).1 in
    let handles_it = (and_parts (handles s.deployment row.block v.name) _ (and_parts (is_linked s.links row.number.0 a.0) _ passes).1).0 in
    mapped_there _ (delivery_at s a.0) (subst (λ o. is_some (option_and_then (delivery_to s a.0) o) ≡ true) (sym receives) (mapped_there _ (delivered_in s a.0 v row) (outcome_there s a.0 v row read handles_it)))
choice_about s (choices.Finish a) read on =
    let head = head_there is_finish s a.0 (and_parts (not (is_used_up s)) (is_next s (choices.Finish a)) on).1 in
    mapped_there _ (finish_at s a.0) (mapped_there _ (head_event s.events a.0) (some_is (head_event s.events a.0) head.0 head.1))
