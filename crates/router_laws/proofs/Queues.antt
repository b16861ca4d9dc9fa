-- What a new event and a head event that goes do to the queues of activities.
use Rattle.std.proofs.Common.{◌≡◌, ℕ, ◌+◌, ◌<◌, ◌≤◌, ◌==◌, Bool, true, false, List, [], ◌∷◌, ◌++◌, filter, map, refl, ◌∙◌, ap, inl, inr, ◌⊎◌, arith, Option, Some, None}
use Rattle.std.specs.List.{AllByRecursion, list_all}
use Rattle.std.proofs.lemmas.Bool.{and_parts, cases_Bool, cond_both, cases_lt, eq-eqb, ltb-true}
use Rattle.std.proofs.lemmas.Bool.Decides.{nat_tests}
use Rattle.std.proofs.lemmas.List.{map-append}
use Rattle.std.proofs.lemmas.List.Elements.{filter-append}
use Rattle.router_laws.proofs.ListRules.{append_nil, all_weaker, all_append, all_filter, filter_all, filter_none}
use Rattle.rows_sorted.specs.Orders.{pair_before, put}
use Rattle.router_state.specs.Queues.{is_waiting, queue, head_event, with_event, without_head, queued_before}
use Rattle.deploy_model.specs.Deployed.{Deployed}
use Rattle.router_laws.proofs.OrderLemmas.{pair_joins}
use Rattle.router_laws.proofs.RisingLemmas.{Joins}
use Rattle.router_laws.proofs.Tests.{any_put}
use Rattle.router_state.specs.WellQueues.{is_event_row}
use Rattle.router_state.specs.declared.rows.Activity.{Activity}
use Rattle.router_state.specs.declared.rows.Event.{Event}
use Rattle.router_state.specs.declared.rows.Queued.{Queued}

-- events' numbers are below this one
abbrev pub AreEventsBelow : ℕ → List Queued → Type 0
AreEventsBelow n events = AllByRecursion (λ q. q.event.id.0 < n) events

abbrev pub row_of : ℕ → Event → Queued
row_of a event = record { activity = record { 0 = a }; event = event }

abbrev pub is_on : ℕ → Queued → Bool
is_on a q = q.activity.0 == a

pub same_eqb : (a : ℕ) → (a == a) ≡ true
same_eqb a = eq-eqb a a refl

late : (x a i j : ℕ) → i < j → (x == a) ≡ true → pair_before x i a j ≡ true
late x a i j less is = grind (arith, nat_tests)

late_not : (x a i j : ℕ) → i < j → (x == a) ≡ true → pair_before a j x i ≡ false
late_not x a i j less is = grind (arith, nat_tests)

lower : (x a b i j : ℕ) → b < a → (x == b) ≡ true → pair_before x i a j ≡ true
lower x a b i j less is = grind (arith, nat_tests)

lower_not : (x a b i j : ℕ) → b < a → (x == b) ≡ true → pair_before a j x i ≡ false
lower_not x a b i j less is = grind (arith, nat_tests)

higher : (x a b i j : ℕ) → a < b → (x == b) ≡ true → pair_before x i a j ≡ false
higher x a b i j less is = grind (arith, nat_tests)

higher_is : (x a b i j : ℕ) → a < b → (x == b) ≡ true → pair_before a j x i ≡ true
higher_is x a b i j less is = grind (arith, nat_tests)

everywhere : {X : Type 0} (P : X → Type 0) → ((x : X) → P x) → (xs : List X) → AllByRecursion P xs
everywhere P each [] = tt
everywhere P each (x ∷ xs) = (each x, everywhere P each xs)

-- what a test keeps of a list into which a row was put
kept : (p : Queued → Bool) (row : Queued) (events : List Queued)
    → filter p (put queued_before row events) ≡ filter p (filter (λ q. queued_before q row) events) ++ filter p (row ∷ filter (λ q. queued_before row q) events)
kept p row events = filter-append p (filter (λ q. queued_before q row) events) (row ∷ filter (λ q. queued_before row q) events)

pub pushed_here : (events : List Queued) (a : ℕ) (event : Event) → AreEventsBelow event.id.0 events → queue (with_event events a event) a ≡ queue events a ++ event ∷ []
pushed_here events a event below =
    let row = row_of a event in
    let before : filter (is_on a) (filter (λ q. queued_before q row) events) ≡ filter (is_on a) events =
    filter_all (is_on a) (λ q. queued_before q row) events
    (all_weaker (λ q. q.event.id.0 < event.id.0) (λ q. is_on a q ≡ true → queued_before q row ≡ true) events (λ q less is. late q.activity.0 a q.event.id.0 event.id.0 less is) below) in
    let behind : filter (is_on a) (filter (λ q. queued_before row q) events) ≡ [] =
    filter_none (is_on a) (λ q. queued_before row q) events
    (all_weaker (λ q. q.event.id.0 < event.id.0) (λ q. is_on a q ≡ true → queued_before row q ≡ false) events (λ q less is. late_not q.activity.0 a q.event.id.0 event.id.0 less is) below) in
    let rows : filter (is_on a) (with_event events a event) ≡ filter (is_on a) events ++ row ∷ [] = kept (is_on a) row events ∙ rw (before, same_eqb a, behind) refl in
    ap (map (λ q. q.event)) rows ∙ map-append (λ q. q.event) (filter (is_on a) events) (row ∷ [])

pub pushed_elsewhere : (events : List Queued) (a b : ℕ) (event : Event) → (a == b) ≡ false → queue (with_event events a event) b ≡ queue events b
pushed_elsewhere events a b event other =
    let row = row_of a event in
    elim (cases_lt b a) [
      | inl less ↦
          let before : filter (is_on b) (filter (λ q. queued_before q row) events) ≡ filter (is_on b) events =
          filter_all (is_on b) (λ q. queued_before q row) events
          (everywhere (λ q. is_on b q ≡ true → queued_before q row ≡ true) (λ q is. lower q.activity.0 a b q.event.id.0 event.id.0 less is) events) in
          let behind : filter (is_on b) (filter (λ q. queued_before row q) events) ≡ [] =
          filter_none (is_on b) (λ q. queued_before row q) events
          (everywhere (λ q. is_on b q ≡ true → queued_before row q ≡ false) (λ q is. lower_not q.activity.0 a b q.event.id.0 event.id.0 less is) events) in
          let rows : filter (is_on b) (with_event events a event) ≡ filter (is_on b) events = kept (is_on b) row events ∙ rw (before, other, behind) (append_nil _) in
          ap (map (λ q. q.event)) rows
      | inr more ↦
          let greater : a < b = apart a b more other in
          let before : filter (is_on b) (filter (λ q. queued_before q row) events) ≡ [] =
          filter_none (is_on b) (λ q. queued_before q row) events
          (everywhere (λ q. is_on b q ≡ true → queued_before q row ≡ false) (λ q is. higher q.activity.0 a b q.event.id.0 event.id.0 greater is) events) in
          let behind : filter (is_on b) (filter (λ q. queued_before row q) events) ≡ filter (is_on b) events =
          filter_all (is_on b) (λ q. queued_before row q) events
          (everywhere (λ q. is_on b q ≡ true → queued_before row q ≡ true) (λ q is. higher_is q.activity.0 a b q.event.id.0 event.id.0 greater is) events) in
          let rows : filter (is_on b) (with_event events a event) ≡ filter (is_on b) events = kept (is_on b) row events ∙ rw (before, other, behind) refl in
          ap (map (λ q. q.event)) rows
    ]
  where
    apart : (a b : ℕ) → a ≤ b → (a == b) ≡ false → a < b
    apart a b more other = grind (arith, nat_tests)

pub pushed_below : (n : ℕ) (events : List Queued) (a : ℕ) (event : Event) → AreEventsBelow n events → event.id.0 < n + 1 → AreEventsBelow (n + 1) (with_event events a event)
pushed_below n events a event below is =
    let wider : AreEventsBelow (n + 1) events = all_weaker (λ q. q.event.id.0 < n) (λ q. q.event.id.0 < n + 1) events (λ q less. omega (arith, less)) below in
    let row = row_of a event in
    all_append (λ q. q.event.id.0 < n + 1) (filter (λ q. queued_before q row) events) (row ∷ filter (λ q. queued_before row q) events)
    (all_filter (λ q. q.event.id.0 < n + 1) (λ q. queued_before q row) events wider)
    (is, all_filter (λ q. q.event.id.0 < n + 1) (λ q. queued_before row q) events wider)

-- the first of a list
abbrev pub first_of : {X : Type 0} → List X → Option X
first_of [] = None
first_of (x ∷ xs) = Some x

pub head_is_first : (events : List Queued) (a : ℕ) → head_event events a ≡ first_of (queue events a)
head_is_first [] a = refl
head_is_first (q ∷ qs) a = elim (cases_Bool (q.activity.0 == a)) [
  | inl is ↦ rw is refl
  | inr isnt ↦ rw isnt (head_is_first qs a)
]

pub popped_here : (events : List Queued) (a : ℕ) (event : Event) → head_event events a ≡ Some event → queue events a ≡ event ∷ queue (without_head events a) a
popped_here [] a event found = absurd (cc)
popped_here (q ∷ qs) a event found = elim (cases_Bool (q.activity.0 == a)) [
  | inl is ↦ let same : Some q.event ≡ Some event = rw is at found in rw is (ap (λ e. e ∷ queue qs a) (some_same same))
  | inr isnt ↦ rw isnt (rw isnt (popped_here qs a event (rw isnt at found)))
]
  where
    some_same : {X : Type 0} {x y : X} → Some x ≡ Some y → x ≡ y
    some_same same = cc

pub popped_elsewhere : (events : List Queued) (a b : ℕ) → (a == b) ≡ false → queue (without_head events a) b ≡ queue events b
popped_elsewhere [] a b other = refl
popped_elsewhere (q ∷ qs) a b other = elim (cases_Bool (q.activity.0 == a)) [
  | inl is ↦ let isnt : (q.activity.0 == b) ≡ false = grind (arith, nat_tests, is, other) in rw (is, isnt) refl
  | inr isnt ↦ rw isnt (elim (cases_Bool (q.activity.0 == b)) [
    | inl on ↦ rw on (ap (λ es. q.event ∷ es) (popped_elsewhere qs a b other))
    | inr off ↦ rw off (popped_elsewhere qs a b other)
  ])
]

pub popped_below : (n : ℕ) (events : List Queued) (a : ℕ) → AreEventsBelow n events → AreEventsBelow n (without_head events a)
popped_below n [] a below = tt
popped_below n (q ∷ qs) a below =
    cond_both (q.activity.0 == a) qs (q ∷ without_head qs a) (AreEventsBelow n) (λ _. below.1) (λ _. (below.0, popped_below n qs a below.1))

-- events in order

pub queued_joins : Joins queued_before
queued_joins x y z one two = pair_joins x.activity.0 x.event.id.0 y.activity.0 y.event.id.0 z.activity.0 z.event.id.0 one two

-- events that are sound have numbers below the next one
pub events_below : (d : Deployed) (activities : List Activity) (events : List Queued) (n m next : ℕ) → list_all (is_event_row d activities n m next) events ≡ true → AreEventsBelow next events
events_below d activities [] n m next all = tt
events_below d activities (q ∷ qs) n m next all =
    let parts = and_parts _ _ all in
    let drawn = and_parts _ _ (and_parts _ _ parts.0).0 in
    (ltb-true q.event.id.0 next drawn.1, events_below d activities qs n m next parts.1)

-- what waits still does where an event is put on a queue
pub waiting_more : (events : List Queued) (a b : ℕ) (event : Event) → is_waiting events b ≡ true → is_waiting (with_event events a event) b ≡ true
waiting_more events a b event is =
    any_put queued_before (λ q. q.activity.0 == b) (record { activity = record { 0 = a }; event = event }) (λ q on. place q.activity.0 q.event.id.0 a event.id.0 b on) events is
  where
    place : (x i a j b : ℕ) → (x == b) ≡ true → (pair_before x i a j ≡ true) ⊎ ((pair_before a j x i ≡ true) ⊎ ((a == b) ≡ true))
    place x i a j b on = grind (arith, nat_tests)
