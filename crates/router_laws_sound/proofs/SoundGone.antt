-- The head event of an activity goes, and behind an activity's end the activity goes too: each keeps every part sound.
use Rattle.deploy_model.specs.Deployed.{Deployed}
use Rattle.router_laws.proofs.ListLemmas.{find_kept}
use Rattle.router_laws.proofs.Queues.{popped_elsewhere, popped_here}
use Rattle.router_laws.proofs.Tests.{tests_kept, tests_weaker}
use Rattle.router_laws_sound.proofs.SoundBase.{still_ordered}
use Rattle.router_state.specs.Changes.{after_change}
use Rattle.router_state.specs.Contexts.{activity_at, without_activity}
use Rattle.router_state.specs.Fits.{is_drawn}
use Rattle.router_state.specs.Queues.{entity_mark_before, head_event, is_suspended, is_undelivered, is_waiting, queue, queued_before, service_mark_before, suspension_before, without_entity_marks, without_head, without_service_marks}
use Rattle.router_state.specs.State.{State}
use Rattle.router_state.specs.Well.{IsSound}
use Rattle.router_state.specs.WellEntities.{all_differ}
use Rattle.router_state.specs.WellQueues.{are_delivered, are_services_done, differ_in_number, ends_right, has_end_last, has_no_end, is_end, is_entity_mark, is_event_row, is_service_mark, is_suspension_row}
use Rattle.router_state.specs.declared.rows.Activity.{Activity}
use Rattle.router_state.specs.declared.rows.EntityMark.{EntityMark}
use Rattle.router_state.specs.declared.rows.Event.{Event}
use Rattle.router_state.specs.declared.rows.Queued.{Queued}
use Rattle.router_state.specs.declared.rows.ServiceMark.{ServiceMark}
use Rattle.router_state.specs.declared.rows.Suspension.{Suspension}
use Rattle.rows_sorted.specs.Orders.{rises_by}
use Rattle.script_meaning.specs.Values.{number}
use Rattle.std.proofs.Common.{Bool, List, Some, [], arith, false, inl, inr, length, refl, subst, sym, true, ℕ, ◌==◌, ◌∙◌, ◌∷◌, ◌≡◌}
use Rattle.std.proofs.lemmas.Bool.{and_from, and_parts, cases_Bool, cond_both, eqb-true, false≢true, not-true, or_cases, or_left, or_right}
use Rattle.std.proofs.lemmas.Bool.Decides.{nat_tests}
use Rattle.std.specs.List.{list_all}
use Rattle.std.specs.Prelude.{nat_lt, not}
use Rattle.router_state.specs.declared.change.Change.TheVariants as changes

-- rows without the first on an activity

pub tests_popped : (p : Queued → Bool) (events : List Queued) (a : ℕ) → list_all p events ≡ true → list_all p (without_head events a) ≡ true
tests_popped p [] a all = refl
tests_popped p (q ∷ events) a all =
    let parts = and_parts (p q) (list_all p events) all in
    cond_both (q.activity.0 == a) events (q ∷ without_head events a) (λ rows. list_all p rows ≡ true) (λ _. parts.1) (λ _. and_from (p q) _ parts.0 (tests_popped p events a parts.1))

pub differ_popped : (events : List Queued) (a : ℕ) → all_differ differ_in_number events ≡ true → all_differ differ_in_number (without_head events a) ≡ true
differ_popped [] a all = refl
differ_popped (q ∷ events) a all =
    let parts = and_parts (list_all (differ_in_number q) events) (all_differ differ_in_number events) all in
    cond_both (q.activity.0 == a) events (q ∷ without_head events a) (λ rows. all_differ differ_in_number rows ≡ true) (λ _. parts.1)
    (λ _. and_from (list_all (differ_in_number q) (without_head events a)) _ (tests_popped (differ_in_number q) events a parts.0) (differ_popped events a parts.1))

-- what waits on another activity still does
waits_still : (events : List Queued) (a b : ℕ) → (b == a) ≡ false → is_waiting events b ≡ true → is_waiting (without_head events a) b ≡ true
waits_still [] a b other is = absurd (cc)
waits_still (q ∷ events) a b other is = elim (cases_Bool (q.activity.0 == a)) [
  | inl mine ↦ rw mine (elim (or_cases (q.activity.0 == b) (is_waiting events b) is) [
    | inl both ↦ absurd (false≢true (sym (apart q.activity.0 a b mine other) ∙ both))
    | inr more ↦ more
  ])
  | inr not_mine ↦ rw not_mine (elim (or_cases (q.activity.0 == b) (is_waiting events b) is) [
    | inl here ↦ or_left (q.activity.0 == b) _ here
    | inr more ↦ or_right (q.activity.0 == b) _ (waits_still events a b other more)
  ])
]
  where
    apart : (x a b : ℕ) → (x == a) ≡ true → (b == a) ≡ false → (x == b) ≡ false
    apart x a b one two = grind (arith, nat_tests)

pub services_done_popped : (d : Deployed) (events : List Queued) (marks : List ServiceMark) (a : ℕ) → rises_by service_mark_before (without_service_marks marks a) ≡ true → are_services_done d events marks ≡ true → are_services_done d (without_head events a) (without_service_marks marks a) ≡ true
services_done_popped d events marks a rises sound =
    let parts = and_parts (rises_by service_mark_before marks) (list_all (is_service_mark d events) marks) sound in
    and_from (rises_by service_mark_before (without_service_marks marks a)) _ rises
    (tests_kept (is_service_mark d events) (is_service_mark d (without_head events a)) (λ (m : ServiceMark). not (m.activity.0 == a))
    (λ m keep is. let both = and_parts (is_waiting events m.activity.0) (nat_lt m.service (length d.services)) is in and_from (is_waiting (without_head events a) m.activity.0) _ (waits_still events a m.activity.0 (not-true (m.activity.0 == a) keep) both.0) both.1) marks parts.1)

pub delivered_popped : (events : List Queued) (marks : List EntityMark) (next a : ℕ) → rises_by entity_mark_before (without_entity_marks marks a) ≡ true → are_delivered events marks next ≡ true → are_delivered (without_head events a) (without_entity_marks marks a) next ≡ true
delivered_popped events marks next a rises sound =
    let parts = and_parts (rises_by entity_mark_before marks) (list_all (is_entity_mark events next) marks) sound in
    and_from (rises_by entity_mark_before (without_entity_marks marks a)) _ rises
    (tests_kept (is_entity_mark events next) (is_entity_mark (without_head events a) next) (λ (m : EntityMark). not (m.activity.0 == a))
    (λ m keep is. let both = and_parts (is_waiting events m.activity.0) (is_drawn next m.entity.0) is in and_from (is_waiting (without_head events a) m.activity.0) _ (waits_still events a m.activity.0 (not-true (m.activity.0 == a) keep) both.0) both.1) marks parts.1)

-- marks on another activity stay
delivered_still : (marks : List EntityMark) (a b : ℕ) → (b == a) ≡ false → not (is_undelivered marks b) ≡ true → not (is_undelivered (without_entity_marks marks a) b) ≡ true
delivered_still [] a b other some = some
delivered_still (m ∷ marks) a b other some = elim (cases_Bool (m.activity.0 == a)) [
  | inl mine ↦ (let isnt : (m.activity.0 == b) ≡ false = apart m.activity.0 a b mine other in rw mine (delivered_still marks a b other (rw isnt at some)))
  | inr not_mine ↦ rw not_mine (elim (cases_Bool (m.activity.0 == b)) [
    | inl here ↦ rw here refl
    | inr isnt ↦ rw isnt (delivered_still marks a b other (rw isnt at some))
  ])
]
  where
    apart : (x a b : ℕ) → (x == a) ≡ true → (b == a) ≡ false → (x == b) ≡ false
    apart x a b one two = grind (arith, nat_tests)

-- no suspension is one of an activity that isn't suspended
pub suspensions_popped : (clock : ℕ) (events : List Queued) (marks : List EntityMark) (rows : List Suspension) (a : ℕ) → is_suspended rows a ≡ false → list_all (is_suspension_row clock events marks) rows ≡ true
    → list_all (is_suspension_row clock (without_head events a) (without_entity_marks marks a)) rows ≡ true
suspensions_popped clock events marks [] a free all = refl
suspensions_popped clock events marks (row ∷ rows) a free all =
    let parts = and_parts (is_suspension_row clock events marks row) (list_all (is_suspension_row clock events marks) rows) all in
    let one = and_parts (is_waiting events row.activity.0) _ parts.0 in
    let two = and_parts (not (is_undelivered marks row.activity.0)) _ one.1 in
    elim (cases_Bool (row.activity.0 == a)) [
      | inl mine ↦ absurd (false≢true (sym (rw mine at free)))
      | inr other ↦
          and_from (is_suspension_row clock (without_head events a) (without_entity_marks marks a) row) _
          (and_from (is_waiting (without_head events a) row.activity.0) _ (waits_still events a row.activity.0 other one.0) (and_from (not (is_undelivered (without_entity_marks marks a) row.activity.0)) _ (delivered_still marks a row.activity.0 other two.0) two.1))
          (suspensions_popped clock events marks rows a (rw other at free) parts.1)
    ]

-- ends

-- an activity's events behind the first
end_behind : (event : Event) (events : List Event) → is_end event ≡ false → has_end_last (event ∷ events) ≡ true → has_end_last events ≡ true
end_behind event [] isnt right = absurd (false≢true (sym isnt ∙ right))
end_behind event (other ∷ events) isnt right = (and_parts (not (is_end event)) (has_end_last (other ∷ events)) right).1

right_popped : (events : List Queued) (a : ℕ) (event : Event) → head_event events a ≡ Some event → is_end event ≡ false → (row : Activity) → ends_right events row ≡ true → ends_right (without_head events a) row ≡ true
right_popped events a event head isnt row right = elim (cases_Bool (a == row.number.0)) [
  | inl here ↦
      let same : a ≡ row.number.0 = eqb-true a row.number.0 here in
      let queue_is : queue events row.number.0 ≡ event ∷ queue (without_head events a) row.number.0 = subst (λ k. queue events k ≡ event ∷ queue (without_head events a) k) same (popped_here events a event head) in
      elim (cases_Bool row.ending) [
        | inl ending ↦ (let last : has_end_last (event ∷ queue (without_head events a) row.number.0) ≡ true = rw (ending, queue_is) at right in rw ending (end_behind event (queue (without_head events a) row.number.0) isnt last))
        | inr active ↦ (let none : has_no_end (event ∷ queue (without_head events a) row.number.0) ≡ true = rw (active, queue_is) at right in rw active (and_parts (not (is_end event)) (has_no_end (queue (without_head events a) row.number.0)) none).1)
      ]
  | inr elsewhere ↦ rw (popped_elsewhere events a row.number.0 elsewhere) right
]

-- the head event goes, and is no end
pub sound_popped : (s : State) (a : ℕ) (event : Event) → IsSound s → head_event s.events a ≡ Some event → is_end event ≡ false → is_suspended s.suspensions a ≡ false → IsSound (after_change (changes.Pop (record { 0 = a })) s)
sound_popped s a event sound head isnt free =
    let order = still_ordered (changes.Pop (record { 0 = a })) s sound in
    let first = and_parts (rises_by queued_before s.events) _ sound.events in
    let apart = and_parts (all_differ differ_in_number s.events) _ first.1 in
    let tests = and_parts (list_all (is_event_row s.deployment s.activities s.next_activity s.next_timer s.next_event) s.events) (list_all (ends_right s.events) s.activities) apart.1 in
    let held = and_parts (rises_by suspension_before s.suspensions) (list_all (is_suspension_row s.clock s.events s.delivered) s.suspensions) sound.suspensions in
    record {
      clock = sound.clock;
      inputs = sound.inputs;
      next_entity = sound.next_entity;
      next_activity = sound.next_activity;
      next_timer = sound.next_timer;
      next_event = sound.next_event;
      services = sound.services;
      entities = sound.entities;
      root_names = sound.root_names;
      apart = sound.apart;
      fields = sound.fields;
      activities = sound.activities;
      attributes = sound.attributes;
      links = sound.links;
      masks = sound.masks;
      names = sound.names;
      events = and_from (rises_by queued_before (without_head s.events a)) _ order.events (and_from (all_differ differ_in_number (without_head s.events a)) _ (differ_popped s.events a apart.0) (and_from (list_all (is_event_row s.deployment s.activities s.next_activity s.next_timer s.next_event) (without_head s.events a)) _ (tests_popped (is_event_row s.deployment s.activities s.next_activity s.next_timer s.next_event) s.events a tests.0) (tests_weaker (ends_right s.events) (ends_right (without_head s.events a)) (right_popped s.events a event head isnt) s.activities tests.1)));
      services_done = services_done_popped s.deployment s.events s.services_done a order.services_done sound.services_done;
      delivered = delivered_popped s.events s.delivered s.next_entity a order.delivered sound.delivered;
      suspensions = and_from (rises_by suspension_before s.suspensions) _ held.0 (suspensions_popped s.clock s.events s.delivered s.suspensions a free held.1);
      timers = sound.timers;
      rows = sound.rows;
    }

-- an activity goes behind its end

-- an activity that stays is found where another goes
pub other_found : (rows : List Activity) (a b : ℕ) → (b == a) ≡ false → activity_at (without_activity rows a) b ≡ activity_at rows b
other_found rows a b other = find_kept (λ (r : Activity). r.number.0 == b) (λ (r : Activity). not (r.number.0 == a)) (λ r is. apart r.number.0 a b is other) rows
  where
    apart : (x a b : ℕ) → (x == b) ≡ true → (b == a) ≡ false → not (x == a) ≡ true
    apart x a b one two = grind (arith, nat_tests)

-- nothing waits on the activity any longer
pub end_alone : (events : List Event) (event : Event) → is_end event ≡ true → has_end_last (event ∷ events) ≡ true → events ≡ []
end_alone [] event is right = refl
end_alone (other ∷ events) event is right = absurd (false≢true (rw is at (and_parts (not (is_end event)) (has_end_last (other ∷ events)) right).0))

pub no_end_first : (events : List Event) (event : Event) → is_end event ≡ true → has_no_end (event ∷ events) ≡ true → ⊥
no_end_first events event is right = false≢true (rw is at (and_parts (not (is_end event)) (has_no_end events) right).0)

-- the rows on an activity of which the queue is empty
pub none_on : (events : List Queued) (a : ℕ) → queue events a ≡ [] → list_all (λ (q : Queued). not (q.activity.0 == a)) events ≡ true
none_on [] a none = refl
none_on (q ∷ events) a none = elim (cases_Bool (q.activity.0 == a)) [
  | inl mine ↦ (let some : q.event ∷ queue events a ≡ [] = rw mine at none in absurd (cc))
  | inr other ↦ rw other (none_on events a (rw other at none))
]
