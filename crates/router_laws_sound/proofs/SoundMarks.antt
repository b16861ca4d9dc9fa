-- Marks beside a head event keep every part sound.
use Rattle.router_laws.proofs.Tests.{any_put, tests_weaker}
use Rattle.router_laws_sound.proofs.SoundBase.{put_sound, still_ordered}
use Rattle.router_state.specs.Changes.{after_change}
use Rattle.router_state.specs.Fits.{is_drawn}
use Rattle.router_state.specs.Queues.{entity_mark_before, is_undelivered, is_waiting, service_mark_before, suspension_before, with_entity_mark}
use Rattle.router_state.specs.State.{State}
use Rattle.router_state.specs.Well.{IsSound}
use Rattle.router_state.specs.WellQueues.{is_entity_mark, is_service_mark, is_suspension_row}
use Rattle.router_state.specs.declared.rows.EntityMark.{EntityMark}
use Rattle.router_state.specs.declared.rows.Suspension.{Suspension}
use Rattle.rows_sorted.specs.Orders.{pair_before, rises_by}
use Rattle.std.proofs.Common.{List, [], arith, inl, inr, length, refl, true, ℕ, ◌==◌, ◌∷◌, ◌≡◌, ◌⊎◌}
use Rattle.std.proofs.lemmas.Bool.{and_from, and_parts, cases_Bool}
use Rattle.std.proofs.lemmas.Bool.Decides.{nat_tests}
use Rattle.std.specs.List.{list_all, list_any}
use Rattle.std.specs.Prelude.{nat_lt, not}
use Rattle.router_state.specs.declared.change.Change.TheVariants as changes

some_delivered : (marks : List EntityMark) (a : ℕ) → not (is_undelivered marks a) ≡ true → list_any (λ (m : EntityMark). m.activity.0 == a) marks ≡ true
some_delivered [] a some = absurd (cc)
some_delivered (m ∷ marks) a some = elim (cases_Bool (m.activity.0 == a)) [
  | inl here ↦ rw here refl
  | inr other ↦ rw other (some_delivered marks a (rw other at some))
]

delivered_some : (marks : List EntityMark) (a : ℕ) → list_any (λ (m : EntityMark). m.activity.0 == a) marks ≡ true → not (is_undelivered marks a) ≡ true
delivered_some [] a some = absurd (cc)
delivered_some (m ∷ marks) a some = elim (cases_Bool (m.activity.0 == a)) [
  | inl here ↦ rw here refl
  | inr other ↦ rw other (delivered_some marks a (rw other at some))
]

still_delivered : (marks : List EntityMark) (a e b : ℕ) → not (is_undelivered marks b) ≡ true → not (is_undelivered (with_entity_mark marks a e) b) ≡ true
still_delivered marks a e b some =
    delivered_some (with_entity_mark marks a e) b
    (any_put entity_mark_before (λ (m : EntityMark). m.activity.0 == b) (record { activity = record { 0 = a }; entity = record { 0 = e } }) (λ m is. place m.activity.0 m.entity.0 a e b is) marks (some_delivered marks b some))
  where
    place : (x y a e b : ℕ) → (x == b) ≡ true → (pair_before x y a e ≡ true) ⊎ ((pair_before a e x y ≡ true) ⊎ ((a == b) ≡ true))
    place x y a e b is = grind (arith, nat_tests)

-- an entity receives the head event of an activity
pub sound_marked_entity : (s : State) (a e : ℕ) → IsSound s → is_waiting s.events a ≡ true → is_drawn s.next_entity e ≡ true → IsSound (after_change (changes.MarkEntity (record { 0 = a }) (record { 0 = e })) s)
sound_marked_entity s a e sound waits drawn =
    let order = still_ordered (changes.MarkEntity (record { 0 = a }) (record { 0 = e })) s sound in
    let held = and_parts (rises_by suspension_before s.suspensions) (list_all (is_suspension_row s.clock s.events s.delivered) s.suspensions) sound.suspensions in
    record {
      clock = sound.clock;
      inputs = sound.inputs;
      next_entity = sound.next_entity;
      next_activity = sound.next_activity;
      next_timer = sound.next_timer;
      next_event = sound.next_event;
      services = sound.services;
      entities = sound.entities;
      root_names = sound.root_names;
      apart = sound.apart;
      fields = sound.fields;
      activities = sound.activities;
      attributes = sound.attributes;
      links = sound.links;
      masks = sound.masks;
      names = sound.names;
      events = sound.events;
      services_done = sound.services_done;
      delivered = put_sound entity_mark_before (is_entity_mark s.events s.next_entity) (record { activity = record { 0 = a }; entity = record { 0 = e } }) s.delivered order.delivered (and_from (is_waiting s.events a) _ waits drawn) sound.delivered;
      suspensions = and_from (rises_by suspension_before s.suspensions) _ held.0 (tests_weaker (is_suspension_row s.clock s.events s.delivered) (is_suspension_row s.clock s.events (with_entity_mark s.delivered a e)) each s.suspensions held.1);
      timers = sound.timers;
      rows = sound.rows;
    }
  where
    each : (row : Suspension) → is_suspension_row s.clock s.events s.delivered row ≡ true → is_suspension_row s.clock s.events (with_entity_mark s.delivered a e) row ≡ true
    each row is =
        let one = and_parts (is_waiting s.events row.activity.0) _ is in
        let two = and_parts (not (is_undelivered s.delivered row.activity.0)) _ one.1 in
        and_from (is_waiting s.events row.activity.0) _ one.0 (and_from (not (is_undelivered (with_entity_mark s.delivered a e) row.activity.0)) _ (still_delivered s.delivered a e row.activity.0 two.0) two.1)

-- a service has selected for the head event of an activity
pub sound_marked_service : (s : State) (a n : ℕ) → IsSound s → is_waiting s.events a ≡ true → nat_lt n (length s.deployment.services) ≡ true → IsSound (after_change (changes.MarkService (record { 0 = a }) n) s)
sound_marked_service s a n sound waits there =
    let order = still_ordered (changes.MarkService (record { 0 = a }) n) s sound in
    record {
      clock = sound.clock;
      inputs = sound.inputs;
      next_entity = sound.next_entity;
      next_activity = sound.next_activity;
      next_timer = sound.next_timer;
      next_event = sound.next_event;
      services = sound.services;
      entities = sound.entities;
      root_names = sound.root_names;
      apart = sound.apart;
      fields = sound.fields;
      activities = sound.activities;
      attributes = sound.attributes;
      links = sound.links;
      masks = sound.masks;
      names = sound.names;
      events = sound.events;
      services_done = put_sound service_mark_before (is_service_mark s.deployment s.events) (record { activity = record { 0 = a }; service = n }) s.services_done order.services_done (and_from (is_waiting s.events a) _ waits there) sound.services_done;
      delivered = sound.delivered;
      suspensions = sound.suspensions;
      timers = sound.timers;
      rows = sound.rows;
    }
