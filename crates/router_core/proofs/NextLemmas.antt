-- What a choice that may be made is about.
use Rattle.std.proofs.Common.{◌≡◌, ℕ, ◌≤◌, ◌^◌, Bool, true, false, Option, Some, None, IsSome, refl, sym, ◌∙◌, ap, subst, arith, inl, inr, is_some, nat_lt}
use Rattle.std.specs.Prelude.{not, ◌||◌, option_map}
use Rattle.std.specs.Option.{option_map_or}
use Rattle.std.proofs.lemmas.Bool.{cases_Bool, and_parts}
use Rattle.std.proofs.lemmas.Bool.Decides.{nat_tests}
use Rattle.slee_value.specs.declared.ids.ActivityId.{ActivityId}
use Rattle.slee_value.specs.declared.ids.EntityId.{EntityId}
use Rattle.trace_history.specs.declared.choice.Choice.{Choice}
use Rattle.trace_history.specs.declared.choice.Choice.TheVariants as choices
use Rattle.router_state.specs.State.{State, is_used_up}
use Rattle.router_state.specs.Look.{next_delivery}
use Rattle.router_state.specs.Next.{due_service, first, next, next_for, receives_at, selects_at}
use Rattle.router_state.specs.Queues.{head_event, is_suspended}
use Rattle.router_state.specs.declared.kindred.Kindred.{Kindred}
use Rattle.router_state.specs.declared.kindred.Kindred.TheVariants as kindreds
use Rattle.router_state.specs.declared.rows.Entity.{Entity}
use Rattle.router_state.specs.declared.rows.Event.{Event}
use Rattle.router_steps.specs.Steps.{is_delivery, is_enabled, is_finish, is_initial, is_next, is_next_by}
use Rattle.router_draft.specs.Drafts.{IsLow}

-- a state in which a choice may be made isn't used up

low_part : (x : ℕ) → nat_lt (2 ^ 62) x ≡ false → x ≤ 2 ^ 62
low_part x is = grind (arith, nat_tests, is)

split : (a b : Bool) → (a || b) ≡ false → (a ≡ false) × (b ≡ false)
split true b is = absurd cc
split false b is = (refl, is)

unused : (b : Bool) → not b ≡ true → b ≡ false
unused true is = absurd cc
unused false is = refl

pub goes_on : (s : State) (c : Choice) → is_enabled s c ≡ true → IsLow s
goes_on s c enabled =
    let one = split (nat_lt (2 ^ 62) s.inputs) _ (unused (is_used_up s) (and_parts (not (is_used_up s)) (is_next s c) enabled).0) in
    let two = split (nat_lt (2 ^ 62) s.next_entity) _ one.1 in
    let three = split (nat_lt (2 ^ 62) s.next_activity) _ two.1 in
    let four = split (nat_lt (2 ^ 62) s.next_timer) (nat_lt (2 ^ 62) s.next_event) three.1 in
    record {
      inputs = low_part s.inputs one.0;
      entity = low_part s.next_entity two.0;
      activity = low_part s.next_activity three.0;
      timer = low_part s.next_timer four.0;
      event = low_part s.next_event four.1;
    }

-- the head event that a choice is about

pub next_of : (s : State) (c : Choice) → is_enabled s c ≡ true → is_next s c ≡ true
next_of s c enabled = (and_parts (not (is_used_up s)) (is_next s c) enabled).1

some_there : {A : Type 0} (o : Option A) (x : A) → o ≡ Some x → IsSome o
some_there o x is = subst (λ (p : Option _). is_some p ≡ true) (sym is) refl

pub kind_there : (test : Kindred → Bool) (s : State) (a : ℕ) → is_next_by test s a ≡ true → (v : Event) × (head_event s.events a ≡ Some v) × (test (next_for s a v) ≡ true) × (next s a ≡ Some (next_for s a v))
kind_there test s a is = elim (cases_Bool (is_suspended s.suspensions a)) [
  | inl held ↦ absurd (let none : false ≡ true = rw held at is in cc)
  | inr free ↦ by_head (head_event s.events a) refl (rw free at is) free
]
  where
    by_head : (o : Option Event) → head_event s.events a ≡ o → option_map_or test (option_map (next_for s a) (head_event s.events a)) false ≡ true → is_suspended s.suspensions a ≡ false
        → (v : Event) × (head_event s.events a ≡ Some v) × (test (next_for s a v) ≡ true) × (next s a ≡ Some (next_for s a v))
    by_head None none is free = absurd (let wrong : false ≡ true = rw none at is in cc)
    by_head (Some v) some is free = (v, some, rw some at is, rw (free, some) refl)

-- on an activity on which a choice is next, an event waits
pub finish_there : (s : State) (a : ActivityId) → is_enabled s (choices.Finish a) ≡ true → IsSome (head_event s.events a.0)
finish_there s a enabled =
    let there = kind_there is_finish s a.0 (next_of s (choices.Finish a) enabled) in
    some_there (head_event s.events a.0) there.0 there.1

pub initial_there : (s : State) (a : ActivityId) → is_enabled s (choices.Initial a) ≡ true → IsSome (head_event s.events a.0)
initial_there s a enabled =
    let there = kind_there is_initial s a.0 (next_of s (choices.Initial a) enabled) in
    some_there (head_event s.events a.0) there.0 there.1

-- the event that waits first is the one that the choice is about
own_head : (test : Kindred → Bool) (s : State) (a : ℕ) (v : Event) → is_next_by test s a ≡ true → head_event s.events a ≡ Some v → (test (next_for s a v) ≡ true) × (next s a ≡ Some (next_for s a v))
own_head test s a v is head =
    let there = kind_there test s a is in
    let same : Some there.0 ≡ Some v = sym there.1 ∙ head in
    let own : there.0 ≡ v = cc in
    (subst (λ (w : Event). test (next_for s a w) ≡ true) own there.2, subst (λ (w : Event). next s a ≡ Some (next_for s a w)) own there.3)

-- where a selection is next, a service is due

initial_due : (s : State) (a : ℕ) (v : Event) → is_initial (next_for s a v) ≡ true → IsSome (due_service s a v)
initial_due s a v is = elim (cases_Bool (is_some (due_service s a v))) [
  | inl due ↦ due
  | inr none ↦ absurd (elim (cases_Bool (is_some (first s a v))) [
    | inl some ↦ let wrong : false ≡ true = rw (none, some) at is in cc
    | inr isnt ↦ let wrong : false ≡ true = rw (none, isnt) at is in cc
  ])
]

pub service_there : (s : State) (a : ActivityId) (v : Event) → is_enabled s (choices.Initial a) ≡ true → head_event s.events a.0 ≡ Some v → IsSome (due_service s a.0 v)
service_there s a v enabled head = initial_due s a.0 v (own_head is_initial s a.0 v (next_of s (choices.Initial a) enabled) head).0

pub selected_there : (s : State) (a : ActivityId) (v : Event) (service : ℕ) → head_event s.events a.0 ≡ Some v → due_service s a.0 v ≡ Some service → selects_at s a.0 ≡ Some (v, service)
selected_there s a v service head due = rw (head, due) refl

-- where a delivery is next, an entity receives the event

pub delivery_kind : (s : State) (a : ℕ) (v : Event) → is_delivery (next_for s a v) ≡ true → (is_some (first s a v) ≡ true) × (next_for s a v ≡ kindreds.Deliver)
delivery_kind s a v is = elim (cases_Bool (is_some (due_service s a v))) [
  | inl due ↦ absurd (let wrong : false ≡ true = rw due at is in cc)
  | inr none ↦ elim (cases_Bool (is_some (first s a v))) [
    | inl some ↦ (some, rw (none, some) refl)
    | inr isnt ↦ absurd (let wrong : false ≡ true = rw (none, isnt) at is in cc)
  ]
]

-- the delivery that is next is of the event and the entity that receives it
pub next_received : (s : State) (a : ActivityId) (v : Event) (row : Entity) → is_enabled s (choices.Deliver a) ≡ true → receives_at s a.0 ≡ Some (v, row) → next_delivery s a.0 ≡ Some (v.id, row.number)
next_received s a v row enabled received =
    let there = kind_there is_delivery s a.0 (next_of s (choices.Deliver a) enabled) in
    let kind = delivery_kind s a.0 there.0 there.2 in
    let next_is : next s a.0 ≡ Some kindreds.Deliver = there.3 ∙ ap (λ (k : Kindred). Some k) kind.1 in
    rw (next_is, received) refl

-- what was looked up is there, as it is defined

pub head_waits : (o : Option Event) → IsSome o → None ≡ o → ⊥
head_waits None there none = let wrong : false ≡ true = there in cc
head_waits (Some v) there none = cc

pub service_found : (o : Option ℕ) → IsSome o → None ≡ o → ⊥
service_found None there none = let wrong : false ≡ true = there in cc
service_found (Some n) there none = cc
