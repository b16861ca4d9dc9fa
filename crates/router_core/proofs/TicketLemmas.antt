-- The delivery that comes first on an activity: its event, the entity that receives it, and tickets of it.
use Rattle.std.proofs.Common.{◌≡◌, ℕ, ◌<◌, ◌==◌, Bool, true, false, List, [], ◌∷◌, Option, Some, None, refl, sym, ◌∙◌, ap, subst, filter, arith, inl, inr, ◌⊎◌, is_some, nat_lt}
use Rattle.std.specs.Prelude.{option_map, option_and_then}
use Rattle.std.specs.List.{AllByRecursion}
use Rattle.std.proofs.lemmas.Bool.{cases_Bool, and_parts}
use Rattle.std.proofs.lemmas.Bool.Decides.{nat_tests}
use Rattle.slee_value.specs.declared.ids.ActivityId.{ActivityId}
use Rattle.slee_value.specs.declared.ids.EntityId.{EntityId}
use Rattle.rows_sorted.specs.Orders.{rises_in, are_below}
use Rattle.script_types.specs.Program.{Program}
use Rattle.deploy_model.specs.Deployed.{Deployed, handles}
use Rattle.rollback_calls.specs.Deliveries.{Handles}
use Rattle.trace_history.specs.declared.choice.Choice.TheVariants as choices
use Rattle.router_state.specs.State.{State}
use Rattle.router_state.specs.Contexts.{is_linked}
use Rattle.router_state.specs.Next.{first, is_eligible, receives_at}
use Rattle.router_state.specs.Ordered.{IsOrdered}
use Rattle.router_state.specs.Paths.{earlier, least_path, path_before, path_of}
use Rattle.router_state.specs.Queues.{head_event}
use Rattle.router_state.specs.Trees.{entity_at}
use Rattle.router_state.specs.declared.rows.Entity.{Entity}
use Rattle.router_state.specs.declared.rows.Event.{Event}
use Rattle.router_steps.specs.Steps.{is_delivery, is_enabled}
use Rattle.router_subjects.specs.declared.delivering.Receipt.{Receipt}
use Rattle.tx_attempt.specs.declared.ticket.Ticket.{Ticket}
use Rattle.router_core.specs.Delivering.{IsReceipt, IsTicket, received_at}
use Rattle.router_core.proofs.NextLemmas.{delivery_kind, kind_there, next_of}

abbrev IsIn : {X : Type 0} → X → List X → Type 0
IsIn x [] = ⊥
IsIn x (y ∷ ys) = (x ≡ y) ⊎ IsIn x ys

-- an entity that is there is found by its number

later : (x : Entity) (xs : List Entity) → rises_in (λ (row : Entity). row.number.0) (x ∷ xs) ≡ true → (y : Entity) → IsIn y xs → x.number.0 < y.number.0
later x [] rises y is = elim is [ ]
later x (z ∷ zs) rises y (inl same) =
    let parts = and_parts (nat_lt x.number.0 z.number.0) (rises_in (λ (row : Entity). row.number.0) (z ∷ zs)) rises in
    subst (λ (w : Entity). x.number.0 < w.number.0) (sym same) (grind (arith, nat_tests, parts.0))
later x (z ∷ zs) rises y (inr more) =
    let parts = and_parts (nat_lt x.number.0 z.number.0) (rises_in (λ (row : Entity). row.number.0) (z ∷ zs)) rises in
    let here : x.number.0 < z.number.0 = grind (arith, nat_tests, parts.0) in
    omega (arith, here, later z zs parts.1 y more)

rest : (x : Entity) (xs : List Entity) → rises_in (λ (row : Entity). row.number.0) (x ∷ xs) ≡ true → rises_in (λ (row : Entity). row.number.0) xs ≡ true
rest x [] rises = refl
rest x (y ∷ ys) rises = (and_parts (nat_lt x.number.0 y.number.0) (rises_in (λ (row : Entity). row.number.0) (y ∷ ys)) rises).1

found_own : (xs : List Entity) (x : Entity) → rises_in (λ (row : Entity). row.number.0) xs ≡ true → IsIn x xs → entity_at xs x.number.0 ≡ Some x
found_own [] x rises is = elim is [ ]
found_own (z ∷ zs) x rises (inl same) =
    let own : (z.number.0 == x.number.0) ≡ true = rw same (grind (arith, nat_tests)) in
    rw own (ap (λ (w : Entity). Some w) (sym same))
found_own (z ∷ zs) x rises (inr more) =
    let low = later z zs rises x more in
    let other : (z.number.0 == x.number.0) ≡ false = grind (arith, nat_tests, low) in
    rw other (found_own zs x (rest z zs rises) more)

-- the entity that receives an event first is there, and may receive it

in_filter : (p : Entity → Bool) (xs : List Entity) (x : Entity) → IsIn x (filter p xs) → IsIn x xs × (p x ≡ true)
in_filter p [] x is = elim is [ ]
in_filter p (y ∷ ys) x is = elim (cases_Bool (p y)) [
  | inl passes ↦ let there : (x ≡ y) ⊎ IsIn x (filter p ys) = rw passes at is in elim there [
    | inl same ↦ (inl same, subst (λ (w : Entity). p w ≡ true) (sym same) passes)
    | inr more ↦ let inner = in_filter p ys x more in (inr inner.0, inner.1)
  ]
  | inr fails ↦ let inner = in_filter p ys x (rw fails at is) in (inr inner.0, inner.1)
]

one_of : (rows : List Entity) (best : Option Entity) (y row : Entity) → Some (earlier rows best y) ≡ Some row → (best ≡ Some row) ⊎ (row ≡ y)
one_of rows None y row is = inr (let same : y ≡ row = cc in sym same)
one_of rows (Some x) y row is = elim (cases_Bool (path_before (path_of rows y) (path_of rows x))) [
  | inl before ↦ inr (let found : Some y ≡ Some row = rw before at is in let same : y ≡ row = cc in sym same)
  | inr behind ↦ inl (let found : Some x ≡ Some row = rw behind at is in found)
]

least_in : (rows : List Entity) (best : Option Entity) (ys : List Entity) (row : Entity) → least_path rows best ys ≡ Some row → (best ≡ Some row) ⊎ IsIn row ys
least_in rows best [] row is = inl is
least_in rows best (y ∷ ys) row is = elim (least_in rows (Some (earlier rows best y)) ys row is) [
  | inl own ↦ elim (one_of rows best y row own) [
    | inl same ↦ inl same
    | inr here ↦ inr (inl here)
  ]
  | inr more ↦ inr (inr more)
]

first_in : (s : State) (a : ℕ) (v : Event) (row : Entity) → first s a v ≡ Some row → IsIn row s.entities × (is_eligible s a v row ≡ true)
first_in s a v row is = elim (least_in s.entities None (filter (is_eligible s a v) s.entities) row is) [
  | inl none ↦ absurd (let wrong : None ≡ Some row = none in cc)
  | inr there ↦ in_filter (is_eligible s a v) s.entities row there
]

-- its block handles the event
first_handles : (s : State) (a : ℕ) (v : Event) (row : Entity) → first s a v ≡ Some row → handles s.deployment row.block v.name ≡ true
first_handles s a v row is =
    let eligible = (first_in s a v row is).1 in
    let one = and_parts (is_linked s.links row.number.0 a) _ eligible in
    (and_parts (handles s.deployment row.block v.name) _ one.1).0

pub some_is : {A : Type 0} (x y : A) → Some x ≡ Some y → x ≡ y
some_is x y h = cc

mapped : {A B : Type 0} (f : A → B) (o : Option A) (y : B) → option_map f o ≡ Some y → (x : A) × (o ≡ Some x) × (f x ≡ y)
mapped f None y is = absurd cc
mapped f (Some x) y is = (x, refl, some_is (f x) y is)

abbrev with_entity : Event → Entity → Event × Entity
with_entity v row = (v, row)

by_first : (s : State) (a : ℕ) (v w : Event) (row : Entity) (found : Option Entity) → first s a w ≡ found → head_event s.events a ≡ Some w → option_map (with_entity w) found ≡ Some (with_entity v row)
    → (head_event s.events a ≡ Some v) × (first s a v ≡ Some row)
by_first s a v w row None none head is = absurd cc
by_first s a v w row (Some r) some head is =
    let all : with_entity w r ≡ with_entity v row = some_is (with_entity w r) (with_entity v row) is in
    let event : w ≡ v = ap (λ x. x.0) all in
    let entity : r ≡ row = ap (λ x. x.1) all in
    (head ∙ ap (λ (x : Event). Some x) event, subst (λ (x : Event). first s a x ≡ Some row) event (some ∙ ap (λ (x : Entity). Some x) entity))

by_head : (s : State) (a : ℕ) (v : Event) (row : Entity) (head : Option Event) → head_event s.events a ≡ head → option_and_then (λ (w : Event). option_map (with_entity w) (first s a w)) head ≡ Some (with_entity v row)
    → (head_event s.events a ≡ Some v) × (first s a v ≡ Some row)
by_head s a v row None none is = absurd cc
by_head s a v row (Some w) some is = by_first s a v w row (first s a w) refl some is

-- what receives the head event, by the event and the entity

by_event : (s : State) (a : ℕ) (v : Event) (found : Option Entity) → Some v ≡ head_event s.events a → first s a v ≡ found → receives_at s a ≡ option_map (with_entity v) found
by_event s a v found head is = ap (option_and_then (λ (w : Event). option_map (with_entity w) (first s a w))) (sym head) ∙ ap (option_map (with_entity v)) is

pub first_received : (s : State) (a : ℕ) (v : Event) (row : Entity) → receives_at s a ≡ Some (with_entity v row) → first s a v ≡ Some row
first_received s a v row received = (by_head s a v row (head_event s.events a) refl received).1

abbrev with_number : Event → EntityId → Event × EntityId
with_number v e = (v, e)

abbrev numbered : Event × Entity → Event × EntityId
numbered x = (x.0, x.1.number)

pub nothing_waits : (s : State) (a : ℕ) → None ≡ head_event s.events a → None ≡ received_at s a
nothing_waits s a none = sym (ap (λ (head : Option Event). option_map numbered (option_and_then (λ (w : Event). option_map (with_entity w) (first s a w)) head)) (sym none))

pub nobody_receives : (s : State) (a : ℕ) (v : Event) → Some v ≡ head_event s.events a → None ≡ option_map (λ (row : Entity). row.number) (first s a v) → None ≡ received_at s a
nobody_receives s a v head none = by (first s a v) refl none
  where
    by : (found : Option Entity) → first s a v ≡ found → None ≡ option_map (λ (row : Entity). row.number) found → None ≡ received_at s a
    by None is none = sym (ap (option_map numbered) (by_event s a v None head is))
    by (Some row) is none = absurd (let wrong : None ≡ Some row.number = none in cc)

pub first_receives : (s : State) (a : ℕ) (v : Event) (e : EntityId) → Some v ≡ head_event s.events a → Some e ≡ option_map (λ (row : Entity). row.number) (first s a v) → Some (with_number v e) ≡ received_at s a
first_receives s a v e head some = by (first s a v) refl some
  where
    by : (found : Option Entity) → first s a v ≡ found → Some e ≡ option_map (λ (row : Entity). row.number) found → Some (with_number v e) ≡ received_at s a
    by None is some = absurd (let wrong : Some e ≡ None = some in cc)
    by (Some row) is some =
        let same : e ≡ row.number = some_is e row.number some in
        ap (λ (n : EntityId). Some (with_number v n)) same ∙ sym (ap (option_map numbered) (by_event s a v (Some row) head is))

pub receives_none : (s : State) (a : ℕ) → None ≡ received_at s a → receives_at s a ≡ None
receives_none s a none = by (receives_at s a) none
  where
    by : (o : Option (Event × Entity)) → None ≡ option_map numbered o → o ≡ None
    by None none = refl
    by (Some x) none = absurd (let wrong : None ≡ Some (numbered x) = none in cc)

received_row : (s : State) (a : ℕ) (v : Event) (e : EntityId) → Some (with_number v e) ≡ received_at s a → (row : Entity) × (receives_at s a ≡ Some (with_entity v row)) × (row.number ≡ e)
received_row s a v e is =
    let found = mapped numbered (receives_at s a) (with_number v e) (sym is) in
    let event : found.0.0 ≡ v = ap (λ x. x.0) found.2 in
    let number : found.0.1.number ≡ e = ap (λ x. x.1) found.2 in
    (found.0.1, found.1 ∙ ap (λ (w : Event). Some (with_entity w found.0.1)) event, number)

-- where a delivery is next, an entity receives the head event

pub delivers_next : (s : State) (a : ActivityId) → is_enabled s (choices.Deliver a) ≡ true → receives_at s a.0 ≡ None → ⊥
delivers_next s a enabled none =
    let there = kind_there is_delivery s a.0 (next_of s (choices.Deliver a) enabled) in
    let some = (delivery_kind s a.0 there.0 there.2).0 in
    by there.0 there.1 (first s a.0 there.0) refl some
  where
    by : (v : Event) → head_event s.events a.0 ≡ Some v → (found : Option Entity) → first s a.0 v ≡ found → is_some found ≡ true → ⊥
    by v head None is some = let wrong : false ≡ true = some in cc
    by v head (Some row) is some = let wrong : None ≡ Some (with_entity v row) = sym none ∙ by_event s a.0 v (Some row) (sym head) is in cc

pub receives_next : (s : State) (a : ActivityId) → is_enabled s (choices.Deliver a) ≡ true → None ≡ received_at s a.0 → ⊥
receives_next s a enabled none = delivers_next s a enabled (receives_none s a.0 none)

-- the receipt of the head event and the entity that receives it
pub receipt_is : (s : State) (a : ActivityId) (v : Event) (e : EntityId) → Some (with_number v e) ≡ received_at s a.0 → IsReceipt s (record { activity = a; event = v.id; entity = e })
receipt_is s a v e is =
    let row = received_row s a.0 v e is in
    record {
      event = v;
      entity = row.0;
      received = row.1;
      event_number = refl;
      entity_number = row.2;
    }

-- the entity that receives the head event is found by its number
received_found : (s : State) (a : ℕ) (v : Event) (row : Entity) (e : EntityId) → IsOrdered s → receives_at s a ≡ Some (with_entity v row) → row.number ≡ e → entity_at s.entities e.0 ≡ Some row
received_found s a v row e ordered received number =
    ap (λ (n : EntityId). entity_at s.entities n.0) (sym number) ∙ found_own s.entities row ordered.entities (first_in s a v row (first_received s a v row received)).0

-- the ticket of the same, with the entity's block
pub ticket_is : (s : State) (t : Ticket) (v : Event) → IsOrdered s → t.event ≡ v → Some (with_number v t.entity) ≡ received_at s t.activity.0
    → Some t.block ≡ option_map (λ (row : Entity). row.block) (entity_at s.entities t.entity.0) → IsTicket s t
ticket_is s t v ordered event is block =
    let row = received_row s t.activity.0 v t.entity is in
    let own = received_found s t.activity.0 v row.0 t.entity ordered row.1 row.2 in
    record {
      entity = row.0;
      received = row.1 ∙ ap (λ (w : Event). Some (with_entity w row.0)) (sym event);
      number = row.2;
      block = some_is row.0.block t.block (sym (block ∙ ap (option_map (λ (r : Entity). r.block)) own));
    }

pub block_there : (s : State) (a : ActivityId) (v : Event) (e : EntityId) → IsOrdered s → Some (with_number v e) ≡ received_at s a.0
    → None ≡ option_map (λ (row : Entity). row.block) (entity_at s.entities e.0) → ⊥
block_there s a v e ordered is none =
    let row = received_row s a.0 v e is in
    let own = received_found s a.0 v row.0 e ordered row.1 row.2 in
    let wrong : None ≡ Some row.0.block = none ∙ ap (option_map (λ (r : Entity). r.block)) own in
    cc

-- the handler of the event that a ticket is of is there
pub ticket_handled : (program : Program) (d : Deployed) (s : State) (t : Ticket) → ((number : ℕ) (event : List ℕ) → handles d number event ≡ true → Handles program number event) → d ≡ s.deployment
    → IsTicket s t → Handles program t.block t.event.name
ticket_handled program d s t there same ticket =
    let handled : handles s.deployment ticket.entity.block t.event.name ≡ true = first_handles s t.activity.0 t.event ticket.entity (first_received s t.activity.0 t.event ticket.entity ticket.received) in
    there t.block t.event.name (subst (λ (e : Deployed). handles e t.block t.event.name ≡ true) (sym same) (subst (λ (n : ℕ). handles s.deployment n t.event.name ≡ true) ticket.block handled))

-- the block of a ticket is that of its entity, which is the only one of its number

in_all : (P : Entity → Type 0) (xs : List Entity) → ((x : Entity) → IsIn x xs → P x) → AllByRecursion P xs
in_all P [] each = tt
in_all P (x ∷ xs) each = (each x (inl refl), in_all P xs (λ y is. each y (inr is)))

same_row : (xs : List Entity) (x y : Entity) → rises_in (λ (row : Entity). row.number.0) xs ≡ true → IsIn x xs → IsIn y xs → y.number.0 ≡ x.number.0 → y ≡ x
same_row xs x y rises is other same = some_is y x (sym (found_own xs y rises other) ∙ ap (entity_at xs) same ∙ found_own xs x rises is)

drawn_before : (n : ℕ) (xs : List Entity) (x : Entity) → are_below (λ (row : Entity). row.number.0) n xs ≡ true → IsIn x xs → x.number.0 < n
drawn_before n [] x below is = elim is [ ]
drawn_before n (y ∷ ys) x below (inl same) =
    let parts = and_parts (nat_lt y.number.0 n) (are_below (λ (row : Entity). row.number.0) n ys) below in
    subst (λ (z : Entity). z.number.0 < n) (sym same) (grind (arith, nat_tests, parts.0))
drawn_before n (y ∷ ys) x below (inr more) = drawn_before n ys x (and_parts (nat_lt y.number.0 n) (are_below (λ (row : Entity). row.number.0) n ys) below).1 more

block_of : (s : State) (t : Ticket) → IsOrdered s → IsTicket s t → (row : Entity) → IsIn row s.entities → (row.number.0 == t.entity.0) ≡ true → row.block ≡ t.block
block_of s t ordered ticket row is alike =
    let there = (first_in s t.activity.0 t.event ticket.entity (first_received s t.activity.0 t.event ticket.entity ticket.received)).0 in
    let number : ticket.entity.number.0 ≡ t.entity.0 = ap (λ (e : EntityId). e.0) ticket.number in
    let same : row.number.0 ≡ ticket.entity.number.0 = grind (arith, nat_tests, alike, number) in
    ap (λ (r : Entity). r.block) (same_row s.entities ticket.entity row ordered.entities there is same) ∙ ticket.block

pub ticket_block : (s : State) (t : Ticket) → IsOrdered s → IsTicket s t → (t.entity.0 < s.next_entity) × AllByRecursion (λ (row : Entity). (row.number.0 == t.entity.0) ≡ true → row.block ≡ t.block) s.entities
ticket_block s t ordered ticket =
    let there = (first_in s t.activity.0 t.event ticket.entity (first_received s t.activity.0 t.event ticket.entity ticket.received)).0 in (
      subst (λ (n : ℕ). n < s.next_entity) (ap (λ (e : EntityId). e.0) ticket.number) (drawn_before s.next_entity s.entities ticket.entity ordered.entities_below there),
      in_all (λ (row : Entity). (row.number.0 == t.entity.0) ≡ true → row.block ≡ t.block) s.entities (block_of s t ordered ticket),
    )
