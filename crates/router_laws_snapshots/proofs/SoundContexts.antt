-- Activities of a sound state fit with all that belongs to them, where its deployment is named; so do its other rows.
use Rattle.std.proofs.Common.{◌≡◌, ℕ, ◌==◌, ◌^◌, ◌<◌, ◌≤◌, true, false, ◌&&◌, ◌||◌, not, List, [], ◌∷◌, length, map, refl, subst, sym, inl, inr, arith, nat_lt, nat_le}
use Rattle.std.specs.Prelude.{Option, Some, None, find, is_some, option_map}
use Rattle.std.specs.Option.{option_map_or}
use Rattle.std.specs.List.{AllByRecursion, list_all}
use Rattle.std.proofs.lemmas.Bool.{and_parts, ltb-true}
use Rattle.slee_value.specs.Bytes.{Fits, FitsOption, FitsText}
use Rattle.slee_value.specs.declared.kind.Kind.{Kind}
use Rattle.slee_value.specs.declared.value.Value.{Value}
use Rattle.deploy_model.specs.Deployed.{attribute_kind, event_fields, is_event, service_key, service_named, table_attributes, table_name, table_named}
use Rattle.router_state.specs.State.{State}
use Rattle.router_state.specs.Contexts.{activity_at, is_active}
use Rattle.router_state.specs.Fits.{are_declared, is_drawn, is_of_kind, is_text, is_value, none_or}
use Rattle.router_state.specs.Initial.{table_activity}
use Rattle.router_state.specs.Masks.{is_mask_of}
use Rattle.router_state.specs.Queues.{is_undelivered, is_waiting, suspended_until}
use Rattle.router_state.specs.Timers.{last_moment}
use Rattle.router_state.specs.Trees.{entity_at}
use Rattle.router_state.specs.Well.{IsSound}
use Rattle.router_state.specs.WellContexts.{is_activity_row, is_attribute_row, is_kind, is_link_row, is_mask_row, is_name_row}
use Rattle.router_state.specs.WellQueues.{has_event_fields, is_entity_mark, is_event_row, is_service_mark, is_suspension_row}
use Rattle.router_state.specs.WellRows.{is_profile_row, is_timer_row}
use Rattle.router_state.specs.declared.rows.AcKind.{AcKind}
use Rattle.router_state.specs.declared.rows.AcKind.TheVariants as kinds
use Rattle.router_state.specs.declared.rows.Activity.{Activity}
use Rattle.router_state.specs.declared.rows.Attribute.{Attribute}
use Rattle.router_state.specs.declared.rows.EntityMark.{EntityMark}
use Rattle.router_state.specs.declared.rows.Event.{Event}
use Rattle.router_state.specs.declared.rows.Mask.{Mask}
use Rattle.router_state.specs.declared.rows.Queued.{Queued}
use Rattle.router_state.specs.declared.rows.ServiceMark.{ServiceMark}
use Rattle.router_state.specs.declared.rows.Suspension.{Suspension}
use Rattle.router_laws_snapshots.specs.Named.{IsNamed}
use Rattle.router_laws_snapshots.proofs.Gathering.{IsAmong}
use Rattle.router_laws_snapshots.proofs.Parts.{FitsPair, HasKey}
use Rattle.router_laws_snapshots.proofs.Fitting.{all_both, all_parts, all_tests, any_among, found_holds, found_among, has_key, name_fits, number_fits, option_fits, option_test, option_there, pairs_fit, text_fits}
use Rattle.router_laws_snapshots.proofs.Activities.{FitsActivity, FitsEvent, FitsKind}
use Rattle.router_laws_snapshots.proofs.Others.{FitsLink, FitsNamed, FitsRow, FitsSuspension, FitsTimer}
use Rattle.router_laws_snapshots.proofs.Parsed.{IsReadable}
use Rattle.router_laws_snapshots.proofs.Sound.{HasRoom, activities_fit, activity_fits, activity_tests, drawn_fits, entity_fits, event_text, held_value, moment_fits, next_fits, readable_entities, readable_services, tested_there}

-- ---- activities

kind_fits : (s : State) (row : Activity) (kind : AcKind) → IsNamed s.deployment → is_kind s.deployment row kind ≡ true → FitsKind s.deployment kind
kind_fits s row (kinds.External name) named is = name_fits name is
kind_fits s row kinds.Null named is = tt
kind_fits s row (kinds.Service service) named is = has_key (service_named s.deployment) (service_key s.deployment service) service (named.services service (ltb-true service (length s.deployment.services) is))
kind_fits s row (kinds.Table table) named is =
    let parts = and_parts (nat_lt table (length s.deployment.tables)) ((row.number.0 == table_activity table) && not row.ending) is in
    has_key (table_named s.deployment) (table_name s.deployment table) table (named.tables table (ltb-true table (length s.deployment.tables) parts.0))

attribute_fits : (s : State) (row : Attribute) → IsNamed s.deployment → IsSound s → is_attribute_row s.deployment s.activities s.next_activity s.next_timer row ≡ true → FitsPair (row.key, row.value)
attribute_fits s row named sound is =
    let one = and_parts (is_some (activity_at s.activities row.activity.0)) _ is in
    let two = and_parts (is_value s.next_activity s.next_timer row.value) (option_map_or (λ (kind : Kind). is_of_kind kind row.value) (attribute_kind s.deployment row.key) false) one.1 in
    let there = option_there (attribute_kind s.deployment row.key) (tested_there (λ (kind : Kind). is_of_kind kind row.value) (attribute_kind s.deployment row.key) two.1) in
    (text_fits row.key (named.keys row.key there.0 there.1), held_value s sound row.value two.0)

attributes_fit : (s : State) → IsNamed s.deployment → IsSound s → AllByRecursion (λ (row : Attribute). FitsPair (row.key, row.value)) s.attributes
attributes_fit s named sound =
    all_tests (is_attribute_row s.deployment s.activities s.next_activity s.next_timer) (λ (row : Attribute). FitsPair (row.key, row.value)) (λ row is. attribute_fits s row named sound is)
    s.attributes (and_parts _ (list_all (is_attribute_row s.deployment s.activities s.next_activity s.next_timer) s.attributes) sound.attributes).1

-- the fields of an event that waits
event_pairs : (s : State) (event : Event) → IsNamed s.deployment → IsSound s → has_event_fields s.deployment s.next_activity s.next_timer event ≡ true → FitsText event.name × AllByRecursion FitsPair event.fields
event_pairs s event named sound is =
    let parts = and_parts (option_map_or (λ declared. are_declared declared event.fields) (event_fields s.deployment event.name) false) (list_all (λ (field : List ℕ × Value). is_value s.next_activity s.next_timer field.1) event.fields) is in
    let found = option_test (λ declared. are_declared declared event.fields) (event_fields s.deployment event.name) parts.0 in
    let own = named.events event.name found.0 found.1 in
    let values = all_tests (λ (field : List ℕ × Value). is_value s.next_activity s.next_timer field.1) (λ (field : List ℕ × Value). Fits field.1) (λ field value. held_value s sound field.1 value) event.fields parts.1 in
    (text_fits event.name own.0, pairs_fit found.0 event.fields found.2 own.1 values)

event_fits : (s : State) (q : Queued) → IsNamed s.deployment → IsSound s → is_event_row s.deployment s.activities s.next_activity s.next_timer s.next_event q ≡ true → FitsEvent s.deployment q.event
event_fits s q named sound is =
    let d = s.deployment in
    let one = and_parts (is_drawn s.next_event q.event.id.0) _ is in
    let two = and_parts (is_some (activity_at s.activities q.activity.0)) _ one.1 in
    let three = and_parts (none_or (λ service. nat_lt service (length d.services)) q.event.target) (has_event_fields d s.next_activity s.next_timer q.event) two.1 in
    let pairs = event_pairs s q.event named sound three.1 in
    record {
      id = (drawn_fits s.next_event q.event.id.0 (next_fits s.next_event sound.next_event) one.0).1;
      name = pairs.0;
      target = option_fits (λ service. HasKey (service_named d) (service_key d service) service) (λ service. nat_lt service (length d.services)) (λ service less. has_key (service_named d) (service_key d service) service (named.services service (ltb-true service (length d.services) less))) q.event.target three.0;
      fields = pairs.1;
    }

-- the tests of all events that wait
event_tests : (s : State) → IsSound s → list_all (is_event_row s.deployment s.activities s.next_activity s.next_timer s.next_event) s.events ≡ true
event_tests s sound = (and_parts (list_all (is_event_row s.deployment s.activities s.next_activity s.next_timer s.next_event) s.events) _ (and_parts _ _ (and_parts _ _ sound.events).1).1).0

events_fit : (s : State) → IsNamed s.deployment → IsSound s → AllByRecursion (λ (q : Queued). FitsEvent s.deployment q.event) s.events
events_fit s named sound =
    all_tests (is_event_row s.deployment s.activities s.next_activity s.next_timer s.next_event) (λ (q : Queued). FitsEvent s.deployment q.event) (λ q is. event_fits s q named sound is) s.events (event_tests s sound)

services_done_fit : (s : State) → IsNamed s.deployment → IsSound s → AllByRecursion (λ (m : ServiceMark). m.service < 2 ^ 32) s.services_done
services_done_fit s named sound =
    all_tests (is_service_mark s.deployment s.events) (λ (m : ServiceMark). m.service < 2 ^ 32)
    (λ m is. small m.service (length s.deployment.services) (ltb-true m.service (length s.deployment.services) (and_parts (is_waiting s.events m.activity.0) (nat_lt m.service (length s.deployment.services)) is).1) named.few)
    s.services_done (and_parts _ (list_all (is_service_mark s.deployment s.events) s.services_done) sound.services_done).1
  where
    small : (n k : ℕ) → n < k → k ≤ 2 ^ 32 → n < 2 ^ 32
    small n k less few = omega (arith, less, few)

delivered_fit : (s : State) → IsSound s → AllByRecursion (λ (m : EntityMark). m.entity.0 < 2 ^ 64) s.delivered
delivered_fit s sound =
    all_tests (is_entity_mark s.events s.next_entity) (λ (m : EntityMark). m.entity.0 < 2 ^ 64)
    (λ m is. (drawn_fits s.next_entity m.entity.0 (next_fits s.next_entity sound.next_entity) (and_parts (is_waiting s.events m.activity.0) (is_drawn s.next_entity m.entity.0) is).1).1)
    s.delivered (and_parts _ (list_all (is_entity_mark s.events s.next_entity) s.delivered) sound.delivered).1

-- what waits on an activity waits on one that is there
pub events_there : (s : State) → IsSound s → AllByRecursion (λ (q : Queued). IsAmong q.activity.0 (map (λ (row : Activity). row.number.0) s.activities)) s.events
events_there s sound =
    all_tests (is_event_row s.deployment s.activities s.next_activity s.next_timer s.next_event) (λ (q : Queued). IsAmong q.activity.0 (map (λ (row : Activity). row.number.0) s.activities))
    (λ q is. found_among (λ (row : Activity). row.number.0) s.activities q.activity.0 (and_parts (is_some (activity_at s.activities q.activity.0)) _ (and_parts (is_drawn s.next_event q.event.id.0) _ is).1).0)
    s.events (event_tests s sound)

pub waiting_there : (s : State) (a : ℕ) → IsSound s → is_waiting s.events a ≡ true → IsAmong a (map (λ (row : Activity). row.number.0) s.activities)
waiting_there s a sound is = any_among (λ (q : Queued). q.activity.0) (map (λ (row : Activity). row.number.0) s.activities) s.events a is (events_there s sound)

among_fits : (rows : List Activity) (a : ℕ) → AllByRecursion (λ (row : Activity). HasRoom row.number.0) rows → IsAmong a (map (λ (row : Activity). row.number.0) rows) → a < 2 ^ 64
among_fits [] a all among = absurd among
among_fits (row ∷ rows) a all among = elim among [
  | inl is ↦ subst (λ n. n < 2 ^ 64) (sym is) all.0.1
  | inr more ↦ among_fits rows a all.1 more
]

suspensions_fit : (s : State) → IsSound s → AllByRecursion FitsSuspension s.suspensions
suspensions_fit s sound =
    all_tests (is_suspension_row s.clock s.events s.delivered) FitsSuspension
    (λ row is.
    let one = and_parts (is_waiting s.events row.activity.0) _ is in
    let two = and_parts (not (is_undelivered s.delivered row.activity.0)) _ one.1 in
    record {
      activity = among_fits s.activities row.activity.0 (activities_fit s sound) (waiting_there s row.activity.0 sound one.0);
      until = moment_fits row.until (and_parts (nat_lt s.clock row.until) (nat_le row.until last_moment) two.1).1;
    })
    s.suspensions (and_parts _ (list_all (is_suspension_row s.clock s.events s.delivered) s.suspensions) sound.suspensions).1

until_fits : (rows : List Suspension) (a : ℕ) → AllByRecursion FitsSuspension rows → FitsOption (λ n. n < 2 ^ 64) (suspended_until rows a)
until_fits rows a all = by (find (λ (row : Suspension). row.activity.0 == a) rows) refl
  where
    by : (o : Option Suspension) → find (λ (row : Suspension). row.activity.0 == a) rows ≡ o → FitsOption (λ n. n < 2 ^ 64) (option_map (λ (row : Suspension). row.until) o)
    by None found = tt
    by (Some row) found = (found_holds FitsSuspension (λ (row : Suspension). row.activity.0 == a) rows row found all).0.until

readable_activities : (s : State) → IsNamed s.deployment → IsSound s → AllByRecursion (FitsActivity s) s.activities
readable_activities s named sound =
    all_both (λ row. HasRoom row.number.0) (λ row. is_activity_row s.deployment s.next_activity row ≡ true) (FitsActivity s)
    (λ row room is. record {
      number = room.1;
      kind = kind_fits s row row.kind named (and_parts (is_drawn s.next_activity row.number.0) (is_kind s.deployment row row.kind) is).1;
      attributes = all_parts (λ (f : Attribute). f.activity.0 == row.number.0) (λ (f : Attribute). (f.key, f.value)) FitsPair s.attributes (attributes_fit s named sound);
      events = all_parts (λ (q : Queued). q.activity.0 == row.number.0) (λ (q : Queued). q.event) (FitsEvent s.deployment) s.events (events_fit s named sound);
      services_done = all_parts (λ (m : ServiceMark). m.activity.0 == row.number.0) (λ (m : ServiceMark). m.service) (λ n. n < 2 ^ 32) s.services_done (services_done_fit s named sound);
      delivered = all_parts (λ (m : EntityMark). m.activity.0 == row.number.0) (λ (m : EntityMark). m.entity.0) (λ n. n < 2 ^ 64) s.delivered (delivered_fit s sound);
      until = until_fits s.suspensions row.number.0 (suspensions_fit s sound);
    })
    s.activities (activities_fit s sound) (activity_tests s sound)

-- ---- attachments, names, timers, rows

masks_fit : (s : State) → IsNamed s.deployment → IsSound s → AllByRecursion (λ (m : Mask). FitsText m.event) s.masks
masks_fit s named sound =
    all_tests (is_mask_row s.deployment s.links) (λ (m : Mask). FitsText m.event) (λ m is. event_text s.deployment m.event named (and_parts _ (is_event s.deployment m.event) is).1)
    s.masks (and_parts _ (list_all (is_mask_row s.deployment s.links) s.masks) sound.masks).1

readable_links : (s : State) → IsNamed s.deployment → IsSound s → AllByRecursion (FitsLink s) s.links
readable_links s named sound =
    all_tests (is_link_row s.entities s.activities) (FitsLink s)
    (λ l is.
    let parts = and_parts (is_some (entity_at s.entities l.entity.0)) (is_some (activity_at s.activities l.activity.0)) is in
    record {
      activity = activity_fits s l.activity.0 sound parts.1;
      entity = entity_fits s l.entity.0 sound parts.0;
      masks = all_parts (is_mask_of l.entity.0 l.activity.0) (λ (m : Mask). m.event) FitsText s.masks (masks_fit s named sound);
    })
    s.links (and_parts _ (list_all (is_link_row s.entities s.activities) s.links) sound.links).1

readable_names : (s : State) → IsSound s → AllByRecursion FitsNamed s.names
readable_names s sound =
    all_tests (is_name_row s.activities) FitsNamed
    (λ row is. let parts = and_parts (is_text row.name) (is_some (activity_at s.activities row.activity.0)) is in record { name = text_fits row.name parts.0; activity = activity_fits s row.activity.0 sound parts.1 })
    s.names (and_parts _ (list_all (is_name_row s.activities) s.names) sound.names).1

readable_timers : (s : State) → IsSound s → AllByRecursion FitsTimer s.timers
readable_timers s sound =
    all_tests (is_timer_row s.activities s.next_timer) FitsTimer
    (λ t is.
    let one = and_parts (is_drawn s.next_timer t.number.0) _ is in
    let two = and_parts (is_active s.activities t.activity.0) _ one.1 in
    let three = and_parts (nat_le t.next last_moment) _ two.1 in
    let four = and_parts (nat_le t.period last_moment) _ three.1 in
    let five = and_parts (nat_le t.left last_moment) (nat_lt 0 t.period || t.left == 1) four.1 in
    record {
      number = (drawn_fits s.next_timer t.number.0 (next_fits s.next_timer sound.next_timer) one.0).1;
      activity = activity_fits s t.activity.0 sound (tested_there (λ (row : Activity). not row.ending) (activity_at s.activities t.activity.0) two.0);
      next = moment_fits t.next three.0;
      period = moment_fits t.period four.0;
      left = moment_fits t.left five.0;
    })
    s.timers (and_parts _ (list_all (is_timer_row s.activities s.next_timer) s.timers) sound.timers).1

readable_rows : (s : State) → IsNamed s.deployment → IsSound s → AllByRecursion (FitsRow s.deployment) s.rows
readable_rows s named sound =
    let d = s.deployment in
    all_tests (is_profile_row d s.next_activity s.next_timer) (FitsRow d)
    (λ row is.
    let one = and_parts (nat_lt row.table (length d.tables)) _ is in
    let two = and_parts (is_text row.row) _ one.1 in
    let three = and_parts (are_declared (table_attributes d row.table) row.attributes) (list_all (λ (field : List ℕ × Value). is_value s.next_activity s.next_timer field.1) row.attributes) two.1 in
    record {
      table = has_key (table_named d) (table_name d row.table) row.table (named.tables row.table (ltb-true row.table (length d.tables) one.0));
      name = text_fits row.row two.0;
      attributes = pairs_fit (table_attributes d row.table) row.attributes three.0 (named.attributes row.table)
          (all_tests (λ (field : List ℕ × Value). is_value s.next_activity s.next_timer field.1) (λ (field : List ℕ × Value). Fits field.1) (λ field value. held_value s sound field.1 value) row.attributes three.1);
    })
    s.rows (and_parts (list_all (is_profile_row d s.next_activity s.next_timer) s.rows) _ (and_parts _ _ sound.rows).1).0

-- all parts of a sound state fit
pub sound_readable : (s : State) → IsNamed s.deployment → IsSound s → IsReadable s
sound_readable s named sound = record {
  clock = moment_fits s.clock sound.clock;
  inputs = number_fits s.inputs sound.inputs;
  next_entity = next_fits s.next_entity sound.next_entity;
  next_activity = next_fits s.next_activity sound.next_activity;
  next_timer = next_fits s.next_timer sound.next_timer;
  next_event = next_fits s.next_event sound.next_event;
  services = readable_services s sound;
  entities = readable_entities s named sound;
  activities = readable_activities s named sound;
  links = readable_links s named sound;
  names = readable_names s sound;
  timers = readable_timers s sound;
  rows = readable_rows s named sound;
  suspensions = suspensions_fit s sound;
}
