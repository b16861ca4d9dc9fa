-- The bytes of a state whose parts fit are parsed as it.
use Rattle.std.proofs.Common.{◌≡◌, ℕ, ◌==◌, ◌^◌, ◌<◌, true, false, List, [], ◌∷◌, ◌++◌, filter, length, map, refl, sym, ap, ◌∙◌, subst, append_assoc, inl, inr}
use Rattle.std.specs.Prelude.{Ok, Option, Some, None, filter_map, find, flat_map, if◌then◌else◌, option_map}
use Rattle.std.specs.List.{AllByRecursion}
use Rattle.std.proofs.lemmas.Bool.{and_parts, cases_Bool, eqb-true}
use Rattle.std.proofs.lemmas.List.{append-nil}
use Rattle.slee_value.specs.Bytes.{spelled_u64}
use Rattle.slee_value.specs.Reading.{Part, ◌>>=◌}
use Rattle.slee_value.proofs.PartLemmas.{reads_u64}
use Rattle.router_state.specs.State.{State}
use Rattle.router_state.specs.Masks.{is_mask_of}
use Rattle.router_state.specs.Queues.{suspended_until}
use Rattle.router_state.specs.Parsing.{ActivityPart, activity_at, entity_at, filled, link_at, list_at, named_at, row_at, service_at, suspension_at, suspensions_at, timer_at, u64_at}
use Rattle.router_state.specs.Restoring.{activity_of, attributes_of, delivered_of, entity_of, events_of, fields_of, link_of, masks_of, parsed, root_name_of, services_done_of, suspension_of}
use Rattle.router_state.specs.Snapshot.{listed, spelled_activity, spelled_activity_2, spelled_before, spelled_behind, spelled_counts, spelled_entity, spelled_link, spelled_name, spelled_row, spelled_service, spelled_state, spelled_state_1, spelled_state_2, spelled_suspension, spelled_suspensions, spelled_timer}
use Rattle.router_state.specs.declared.rows.Activity.{Activity}
use Rattle.router_state.specs.declared.rows.Attribute.{Attribute}
use Rattle.router_state.specs.declared.rows.Entity.{Entity}
use Rattle.router_state.specs.declared.rows.EntityMark.{EntityMark}
use Rattle.router_state.specs.declared.rows.Field.{Field}
use Rattle.router_state.specs.declared.rows.Link.{Link}
use Rattle.router_state.specs.declared.rows.Mask.{Mask}
use Rattle.router_state.specs.declared.rows.Queued.{Queued}
use Rattle.router_state.specs.declared.rows.RootName.{RootName}
use Rattle.router_state.specs.declared.rows.ServiceMark.{ServiceMark}
use Rattle.router_state.specs.declared.rows.Suspension.{Suspension}
use Rattle.router_laws_snapshots.proofs.Again.{Again, again_items, again_list, front, left_short, right_short, step}
use Rattle.router_laws_snapshots.proofs.Gathering.{filter_views, flat_views, found_passes, made_again, option_list, views_made}
use Rattle.router_laws_snapshots.proofs.Keys.{has_number}
use Rattle.router_laws_snapshots.proofs.Entities.{FitsEntity, FitsService, again_entity, again_service, entity_part}
use Rattle.router_laws_snapshots.proofs.Activities.{FitsActivity, activity_part, again_activity_1, again_activity_2}
use Rattle.router_laws_snapshots.proofs.Others.{FitsLink, FitsNamed, FitsRow, FitsSuspension, FitsTimer, again_link, again_named, again_row, again_suspension, again_timer, link_part}

-- the numbers of a state and the rows of its lists fit
pub record IsReadable (s : State) : Type 0 where
  pub clock : s.clock < 2 ^ 64
  pub inputs : s.inputs < 2 ^ 64
  pub next_entity : s.next_entity < 2 ^ 64
  pub next_activity : s.next_activity < 2 ^ 64
  pub next_timer : s.next_timer < 2 ^ 64
  pub next_event : s.next_event < 2 ^ 64
  pub services : AllByRecursion FitsService s.services
  pub entities : AllByRecursion (FitsEntity s) s.entities
  pub activities : AllByRecursion (FitsActivity s) s.activities
  pub links : AllByRecursion (FitsLink s) s.links
  pub names : AllByRecursion FitsNamed s.names
  pub timers : AllByRecursion FitsTimer s.timers
  pub rows : AllByRecursion (FitsRow s.deployment) s.rows
  pub suspensions : AllByRecursion FitsSuspension s.suspensions

-- the numbers of entities and of activities, and the keys of attachments
abbrev pub entity_numbers : State → List ℕ
entity_numbers s = map (λ row. row.number.0) s.entities

abbrev pub activity_numbers : State → List ℕ
activity_numbers s = map (λ row. row.number.0) s.activities

abbrev pub link_keys : State → List (ℕ × ℕ)
link_keys s = map (λ l. (l.activity.0, l.entity.0)) s.links

-- the rows of this number
abbrev pub rows_of : {Row : Type 0} → (Row → ℕ) → List Row → ℕ → List Row
rows_of number rows k = filter (has_number number k) rows

-- Each list that stands beside entities, activities or attachments is that of all of them, one behind another; a root has one
-- convergence name, and an activity has one suspension at most.
pub record IsGathered (s : State) : Type 0 where
  pub fields : flat_map (rows_of (λ (row : Field). row.entity.0) s.fields) (entity_numbers s) ≡ s.fields
  pub root_names : flat_map (rows_of (λ (row : RootName). row.entity.0) s.root_names) (entity_numbers s) ≡ s.root_names
  pub one_name : (k : ℕ) → option_list (find (has_number (λ (row : RootName). row.entity.0) k) s.root_names) ≡ rows_of (λ (row : RootName). row.entity.0) s.root_names k
  pub attributes : flat_map (rows_of (λ (row : Attribute). row.activity.0) s.attributes) (activity_numbers s) ≡ s.attributes
  pub events : flat_map (rows_of (λ (row : Queued). row.activity.0) s.events) (activity_numbers s) ≡ s.events
  pub services_done : flat_map (rows_of (λ (row : ServiceMark). row.activity.0) s.services_done) (activity_numbers s) ≡ s.services_done
  pub delivered : flat_map (rows_of (λ (row : EntityMark). row.activity.0) s.delivered) (activity_numbers s) ≡ s.delivered
  pub suspensions : flat_map (rows_of (λ (row : Suspension). row.activity.0) s.suspensions) (activity_numbers s) ≡ s.suspensions
  pub one_suspension : (k : ℕ) → option_list (find (has_number (λ (row : Suspension). row.activity.0) k) s.suspensions) ≡ rows_of (λ (row : Suspension). row.activity.0) s.suspensions k
  pub masks : flat_map (λ (k : ℕ × ℕ). filter (is_mask_of k.1 k.0) s.masks) (link_keys s) ≡ s.masks

-- ---- what was read is put together

-- the state that is put together of what was read, with what was read of suspensions
abbrev rebuilt : ℕ → State → (Activity → Option ℕ) → List Suspension → State
rebuilt format s until suspensions =
    let entities = map (entity_part s) s.entities in
    let activities : List ActivityPart = map (λ row. activity_part s (until row) row) s.activities in
    let links = map (link_part s) s.links in
    record {
      deployment = s.deployment;
      program = s.program;
      clock = s.clock;
      inputs = s.inputs;
      next_entity = s.next_entity;
      next_activity = s.next_activity;
      next_timer = s.next_timer;
      next_event = s.next_event;
      services = s.services;
      entities = map entity_of entities;
      root_names = filter_map root_name_of entities;
      fields = flat_map fields_of entities;
      activities = map activity_of activities;
      attributes = flat_map attributes_of activities;
      links = map link_of links;
      masks = flat_map masks_of links;
      names = s.names;
      events = flat_map events_of activities;
      services_done = flat_map services_done_of activities;
      delivered = flat_map delivered_of activities;
      suspensions = if format == 2 then filter_map suspension_of activities else suspensions;
      timers = s.timers;
      rows = s.rows;
    }

fields_again : (s : State) → IsGathered s → flat_map fields_of (map (entity_part s) s.entities) ≡ s.fields
fields_again s all =
    flat_views fields_of (entity_part s) (λ (x : Entity). x.number.0) (rows_of (λ (row : Field). row.entity.0) s.fields) s.entities
    (λ x. made_again (has_number (λ (row : Field). row.entity.0) x.number.0) (λ (row : Field). (row.name, row.value)) _ s.fields (λ row is. same x.number.0 row (eqb-true row.entity.0 x.number.0 is)))
    ∙ all.fields
  where
    same : (k : ℕ) (row : Field) → row.entity.0 ≡ k → (let made : Field = record { entity = record { 0 = k }; name = row.name; value = row.value } in made) ≡ row
    same k row is = ap (λ (k : ℕ). let made : Field = record { entity = record { 0 = k }; name = row.name; value = row.value } in made) (sym is)

attributes_again : (s : State) (until : Activity → Option ℕ) → IsGathered s → flat_map attributes_of (map (λ row. activity_part s (until row) row) s.activities) ≡ s.attributes
attributes_again s until all =
    flat_views attributes_of (λ row. activity_part s (until row) row) (λ (x : Activity). x.number.0) (rows_of (λ (row : Attribute). row.activity.0) s.attributes) s.activities
    (λ x. made_again (has_number (λ (row : Attribute). row.activity.0) x.number.0) (λ (row : Attribute). (row.key, row.value)) _ s.attributes (λ row is. same x.number.0 row (eqb-true row.activity.0 x.number.0 is)))
    ∙ all.attributes
  where
    same : (k : ℕ) (row : Attribute) → row.activity.0 ≡ k → (let made : Attribute = record { activity = record { 0 = k }; key = row.key; value = row.value } in made) ≡ row
    same k row is = ap (λ (k : ℕ). let made : Attribute = record { activity = record { 0 = k }; key = row.key; value = row.value } in made) (sym is)

events_again : (s : State) (until : Activity → Option ℕ) → IsGathered s → flat_map events_of (map (λ row. activity_part s (until row) row) s.activities) ≡ s.events
events_again s until all =
    flat_views events_of (λ row. activity_part s (until row) row) (λ (x : Activity). x.number.0) (rows_of (λ (row : Queued). row.activity.0) s.events) s.activities
    (λ x. made_again (has_number (λ (row : Queued). row.activity.0) x.number.0) (λ (row : Queued). row.event) _ s.events (λ row is. same x.number.0 row (eqb-true row.activity.0 x.number.0 is)))
    ∙ all.events
  where
    same : (k : ℕ) (row : Queued) → row.activity.0 ≡ k → (let made : Queued = record { activity = record { 0 = k }; event = row.event } in made) ≡ row
    same k row is = ap (λ (k : ℕ). let made : Queued = record { activity = record { 0 = k }; event = row.event } in made) (sym is)

services_done_again : (s : State) (until : Activity → Option ℕ) → IsGathered s → flat_map services_done_of (map (λ row. activity_part s (until row) row) s.activities) ≡ s.services_done
services_done_again s until all =
    flat_views services_done_of (λ row. activity_part s (until row) row) (λ (x : Activity). x.number.0) (rows_of (λ (row : ServiceMark). row.activity.0) s.services_done) s.activities
    (λ x. made_again (has_number (λ (row : ServiceMark). row.activity.0) x.number.0) (λ (row : ServiceMark). row.service) _ s.services_done (λ row is. same x.number.0 row (eqb-true row.activity.0 x.number.0 is)))
    ∙ all.services_done
  where
    same : (k : ℕ) (row : ServiceMark) → row.activity.0 ≡ k → (let made : ServiceMark = record { activity = record { 0 = k }; service = row.service } in made) ≡ row
    same k row is = ap (λ (k : ℕ). let made : ServiceMark = record { activity = record { 0 = k }; service = row.service } in made) (sym is)

delivered_again : (s : State) (until : Activity → Option ℕ) → IsGathered s → flat_map delivered_of (map (λ row. activity_part s (until row) row) s.activities) ≡ s.delivered
delivered_again s until all =
    flat_views delivered_of (λ row. activity_part s (until row) row) (λ (x : Activity). x.number.0) (rows_of (λ (row : EntityMark). row.activity.0) s.delivered) s.activities
    (λ x. made_again (has_number (λ (row : EntityMark). row.activity.0) x.number.0) (λ (row : EntityMark). row.entity.0) _ s.delivered (λ row is. same x.number.0 row (eqb-true row.activity.0 x.number.0 is)))
    ∙ all.delivered
  where
    same : (k : ℕ) (row : EntityMark) → row.activity.0 ≡ k → (let made : EntityMark = record { activity = record { 0 = k }; entity = record { 0 = row.entity.0 } } in made) ≡ row
    same k row is = ap (λ (k : ℕ). let made : EntityMark = record { activity = record { 0 = k }; entity = record { 0 = row.entity.0 } } in made) (sym is)

masks_again : (s : State) → IsGathered s → flat_map masks_of (map (link_part s) s.links) ≡ s.masks
masks_again s all =
    flat_views masks_of (link_part s) (λ (l : Link). (l.activity.0, l.entity.0)) (λ (k : ℕ × ℕ). filter (is_mask_of k.1 k.0) s.masks) s.links
    (λ l. made_again (is_mask_of l.entity.0 l.activity.0) (λ (m : Mask). m.event) _ s.masks (λ m is. (let parts = and_parts (m.entity.0 == l.entity.0) (m.activity.0 == l.activity.0) is in same l.entity.0 l.activity.0 m (eqb-true m.entity.0 l.entity.0 parts.0) (eqb-true m.activity.0 l.activity.0 parts.1))))
    ∙ all.masks
  where
    same : (e a : ℕ) (m : Mask) → m.entity.0 ≡ e → m.activity.0 ≡ a → (let made : Mask = record { entity = record { 0 = e }; activity = record { 0 = a }; event = m.event } in made) ≡ m
    same e a m one two =
        ap (λ (e : ℕ). let made : Mask = record { entity = record { 0 = e }; activity = record { 0 = a }; event = m.event } in made) (sym one)
        ∙ ap (λ (a : ℕ). let made : Mask = record { entity = m.entity; activity = record { 0 = a }; event = m.event } in made) (sym two)

root_names_again : (s : State) → IsGathered s → filter_map root_name_of (map (entity_part s) s.entities) ≡ s.root_names
root_names_again s all =
    filter_views root_name_of (entity_part s) (λ (x : Entity). x.number.0) (rows_of (λ (row : RootName). row.entity.0) s.root_names) s.entities (λ x. each x.number.0 ∙ all.one_name x.number.0) ∙ all.root_names
  where
    made : ℕ → RootName → RootName
    made k row = record { entity = record { 0 = k }; name = row.name }

    by : (k : ℕ) (o : Option RootName) → ((row : RootName) → o ≡ Some row → made k row ≡ row) → option_list (option_map (λ name. let row : RootName = record { entity = record { 0 = k }; name = name } in row) (option_map (λ (row : RootName). row.name) o)) ≡ option_list o
    by k None same = refl
    by k (Some row) same = ap (λ r. r ∷ []) (same row refl)

    passes : (k : ℕ) (rows : List RootName) (row : RootName) → find (has_number (λ (row : RootName). row.entity.0) k) rows ≡ Some row → row.entity.0 ≡ k
    passes k rows row found = eqb-true row.entity.0 k (found_passes (has_number (λ (row : RootName). row.entity.0) k) rows row found)

    each : (k : ℕ) → option_list (option_map (λ name. let row : RootName = record { entity = record { 0 = k }; name = name } in row) (option_map (λ (row : RootName). row.name) (find (has_number (λ (row : RootName). row.entity.0) k) s.root_names))) ≡ option_list (find (has_number (λ (row : RootName). row.entity.0) k) s.root_names)
    each k = by k (find (has_number (λ (row : RootName). row.entity.0) k) s.root_names) (λ row found. ap (λ (k : ℕ). made k row) (sym (passes k s.root_names row found)))

suspensions_again : (s : State) → IsGathered s → filter_map suspension_of (map (λ row. activity_part s (suspended_until s.suspensions row.number.0) row) s.activities) ≡ s.suspensions
suspensions_again s all =
    filter_views suspension_of (λ row. activity_part s (suspended_until s.suspensions row.number.0) row) (λ (x : Activity). x.number.0) (rows_of (λ (row : Suspension). row.activity.0) s.suspensions) s.activities (λ x. each x.number.0 ∙ all.one_suspension x.number.0)
    ∙ all.suspensions
  where
    made : ℕ → Suspension → Suspension
    made k row = record { activity = record { 0 = k }; until = row.until }

    by : (k : ℕ) (o : Option Suspension) → ((row : Suspension) → o ≡ Some row → made k row ≡ row) → option_list (option_map (λ moment. let row : Suspension = record { activity = record { 0 = k }; until = moment } in row) (option_map (λ (row : Suspension). row.until) o)) ≡ option_list o
    by k None same = refl
    by k (Some row) same = ap (λ r. r ∷ []) (same row refl)

    passes : (k : ℕ) (rows : List Suspension) (row : Suspension) → find (has_number (λ (row : Suspension). row.activity.0) k) rows ≡ Some row → row.activity.0 ≡ k
    passes k rows row found = eqb-true row.activity.0 k (found_passes (has_number (λ (row : Suspension). row.activity.0) k) rows row found)

    each : (k : ℕ) → option_list (option_map (λ moment. let row : Suspension = record { activity = record { 0 = k }; until = moment } in row) (option_map (λ (row : Suspension). row.until) (find (has_number (λ (row : Suspension). row.activity.0) k) s.suspensions))) ≡ option_list (find (has_number (λ (row : Suspension). row.activity.0) k) s.suspensions)
    each k = by k (find (has_number (λ (row : Suspension). row.activity.0) k) s.suspensions) (λ row found. ap (λ (k : ℕ). made k row) (sym (passes k s.suspensions row found)))

-- it is the state itself, where its suspensions are
rebuilt_same : (format : ℕ) (s : State) (until : Activity → Option ℕ) (suspensions : List Suspension) → IsGathered s
    → (if format == 2 then filter_map suspension_of (map (λ row. activity_part s (until row) row) s.activities) else suspensions) ≡ s.suspensions → rebuilt format s until suspensions ≡ s
rebuilt_same format s until suspensions all last =
    rw (
      last,
      root_names_again s all,
      fields_again s all,
      attributes_again s until all,
      events_again s until all,
      services_done_again s until all,
      delivered_again s until all,
      masks_again s all,
      views_made (entity_part s) entity_of s.entities (λ x. refl),
      views_made (λ row. activity_part s (until row) row) activity_of s.activities (λ x. refl),
      views_made (link_part s) link_of s.links (λ l. refl),
    ) refl

-- ---- reading the lists one behind another

abbrev finished : ℕ → State → (Activity → Option ℕ) → List Suspension × List ℕ → Part State
finished format s until suspensions = Ok (rebuilt format s until suspensions.0, suspensions.1)

number_again : (n : ℕ) → n < 2 ^ 64 → (more : List ℕ) → u64_at (spelled_u64 n ++ more) ≡ Ok (n, more)
number_again n less more = reads_u64.again n more less

lists_again : (format : ℕ) (s : State) (spell : Activity → List ℕ) (until : Activity → Option ℕ) (tail : List ℕ) → IsReadable s → Again spell (FitsActivity s) (λ row. activity_part s (until row) row) (activity_at format s.deployment)
    → length (spelled_before s ++ (listed spell s.activities ++ (spelled_behind s ++ tail))) < 2 ^ 64
    → parsed format s.deployment s.program (spelled_before s ++ (listed spell s.activities ++ (spelled_behind s ++ tail))) ≡ (suspensions_at format tail >>= finished format s until)
lists_again format s spell until tail readable again short =
    let d = s.deployment in
    let services = listed spelled_service s.services in
    let entities = listed (spelled_entity s) s.entities in
    let activities = listed spell s.activities in
    let links = listed (spelled_link s) s.links in
    let names = listed spelled_name s.names in
    let timers = listed spelled_timer s.timers in
    let rows = listed (spelled_row d) s.rows in
    let behind = spelled_behind s ++ tail in
    let after = activities ++ behind in
    let short_lists : length (services ++ entities) < 2 ^ 64 = right_short (spelled_counts s) (services ++ entities) (left_short (spelled_before s) after short) in
    let short_after : length after < 2 ^ 64 = right_short (spelled_before s) after short in
    let short_behind : length (spelled_behind s) < 2 ^ 64 = left_short (spelled_behind s) tail (right_short activities behind short_after) in
    let short_names : length (names ++ (timers ++ rows)) < 2 ^ 64 = right_short links (names ++ (timers ++ rows)) short_behind in
    let short_timers : length (timers ++ rows) < 2 ^ 64 = right_short names (timers ++ rows) short_names in
    let c5 = spelled_u64 s.next_event ++ [] in
    let c4 = spelled_u64 s.next_timer ++ c5 in
    let c3 = spelled_u64 s.next_activity ++ c4 in
    let c2 = spelled_u64 s.next_entity ++ c3 in
    let c1 = spelled_u64 s.inputs ++ c2 in
    let rest = (services ++ entities) ++ after in
    ap (parsed format d s.program) (append_assoc (spelled_counts s) (services ++ entities) after)
    ∙ step u64_at _ (spelled_u64 s.clock) c1 rest s.clock (number_again s.clock readable.clock)
    ∙ step u64_at _ (spelled_u64 s.inputs) c2 rest s.inputs (number_again s.inputs readable.inputs)
    ∙ step u64_at _ (spelled_u64 s.next_entity) c3 rest s.next_entity (number_again s.next_entity readable.next_entity)
    ∙ step u64_at _ (spelled_u64 s.next_activity) c4 rest s.next_activity (number_again s.next_activity readable.next_activity)
    ∙ step u64_at _ (spelled_u64 s.next_timer) c5 rest s.next_timer (number_again s.next_timer readable.next_timer)
    ∙ step u64_at _ (spelled_u64 s.next_event) [] rest s.next_event (number_again s.next_event readable.next_event)
    ∙ step (list_at service_at) _ services entities after s.services (λ more. (again_items spelled_service FitsService service_at again_service).back s.services more readable.services (left_short services entities short_lists))
    ∙ front (list_at (entity_at d)) _ entities after (map (entity_part s) s.entities) (λ more. (again_list (spelled_entity s) (FitsEntity s) (entity_part s) (entity_at d) (again_entity s)).back s.entities more readable.entities (right_short services entities short_lists))
    ∙ front (list_at (activity_at format d)) _ activities behind (map (λ row. activity_part s (until row) row) s.activities) (λ more. (again_list spell (FitsActivity s) (λ row. activity_part s (until row) row) (activity_at format d) again).back s.activities more readable.activities (left_short activities behind short_after))
    ∙ step (list_at link_at) _ links (names ++ (timers ++ rows)) tail (map (link_part s) s.links) (λ more. (again_list (spelled_link s) (FitsLink s) (link_part s) link_at (again_link s)).back s.links more readable.links (left_short links (names ++ (timers ++ rows)) short_behind))
    ∙ step (list_at named_at) _ names (timers ++ rows) tail s.names (λ more. (again_items spelled_name FitsNamed named_at again_named).back s.names more readable.names (left_short names (timers ++ rows) short_names))
    ∙ step (list_at timer_at) _ timers rows tail s.timers (λ more. (again_items spelled_timer FitsTimer timer_at again_timer).back s.timers more readable.timers (left_short timers rows short_timers))
    ∙ front (list_at (row_at d)) _ rows tail s.rows (λ more. (again_items (spelled_row d) (FitsRow d) (row_at d) (again_row d)).back s.rows more readable.rows (right_short timers rows short_timers))

tail_again : (format : ℕ) (rows : List Suspension) → (format == 2) ≡ false → AllByRecursion FitsSuspension rows → length (spelled_suspensions rows) < 2 ^ 64 → suspensions_at format (spelled_suspensions rows) ≡ Ok (rows, [])
tail_again format [] one fit short = refl
tail_again format (row ∷ rows) one fit short =
    let back = (again_items spelled_suspension FitsSuspension suspension_at again_suspension).back (row ∷ rows) [] fit short in
    rw one (subst (λ bytes. (list_at suspension_at bytes >>= λ x. filled x.0 x.1) ≡ Ok (row ∷ rows, [])) (append-nil (listed spelled_suspension (row ∷ rows))) (rw back refl))

-- ---- both formats

parsed_1 : (format : ℕ) (s : State) → (format == 2) ≡ false → IsReadable s → IsGathered s → length (spelled_state_1 s) < 2 ^ 64 → parsed format s.deployment s.program (spelled_state_1 s) ≡ Ok (s, [])
parsed_1 format s one readable all short =
    let tail = spelled_suspensions s.suspensions in
    let after = listed (spelled_activity s) s.activities ++ (spelled_behind s ++ tail) in
    let short_tail : length tail < 2 ^ 64 = right_short (spelled_behind s) tail (right_short (listed (spelled_activity s) s.activities) (spelled_behind s ++ tail) (right_short (spelled_before s) after short)) in
    lists_again format s (spelled_activity s) (λ row. None) tail readable (again_activity_1 format s one) short
    ∙ front_tail (tail_again format s.suspensions one readable.suspensions short_tail)
    ∙ ap (λ t. let read : Part State = Ok (t, []) in read) (rebuilt_same format s (λ row. None) s.suspensions all (rw one refl))
  where
    front_tail : suspensions_at format (spelled_suspensions s.suspensions) ≡ Ok (s.suspensions, []) → (suspensions_at format (spelled_suspensions s.suspensions) >>= finished format s (λ row. None)) ≡ finished format s (λ row. None) (s.suspensions, [])
    front_tail is = rw is refl

parsed_2 : (format : ℕ) (s : State) → (format == 2) ≡ true → IsReadable s → IsGathered s → length (spelled_state_2 s) < 2 ^ 64 → parsed format s.deployment s.program (spelled_state_2 s) ≡ Ok (s, [])
parsed_2 format s two readable all short =
    let until : Activity → Option ℕ = λ row. suspended_until s.suspensions row.number.0 in
    let same : spelled_before s ++ (listed (spelled_activity_2 s) s.activities ++ (spelled_behind s ++ [])) ≡ spelled_state_2 s = ap (λ bytes. spelled_before s ++ (listed (spelled_activity_2 s) s.activities ++ bytes)) (append-nil (spelled_behind s)) in
    ap (parsed format s.deployment s.program) (sym same)
    ∙ lists_again format s (spelled_activity_2 s) until [] readable (again_activity_2 format s two) (subst (λ bytes. length bytes < 2 ^ 64) (sym same) short)
    ∙ ap (λ t. let read : Part State = Ok (t, []) in read) (rebuilt_same format s until [] all (rw two (suspensions_again s all)))

pub spelled_1 : (format : ℕ) (s : State) → (format == 2) ≡ false → spelled_state format s ≡ spelled_state_1 s
spelled_1 format s one = ap (λ two. if two then spelled_state_2 s else spelled_state_1 s) one

pub spelled_2 : (format : ℕ) (s : State) → (format == 2) ≡ true → spelled_state format s ≡ spelled_state_2 s
spelled_2 format s two = ap (λ two. if two then spelled_state_2 s else spelled_state_1 s) two

pub parsed_again : (format : ℕ) (s : State) → IsReadable s → IsGathered s → length (spelled_state format s) < 2 ^ 64 → parsed format s.deployment s.program (spelled_state format s) ≡ Ok (s, [])
parsed_again format s readable all short = elim (cases_Bool (format == 2)) [
  | inl two ↦ (
      let same = spelled_2 format s two in
      subst (λ bytes. parsed format s.deployment s.program bytes ≡ Ok (s, [])) (sym same) (parsed_2 format s two readable all (subst (λ bytes. length bytes < 2 ^ 64) same short)))
  | inr one ↦ (
      let same = spelled_1 format s one in
      subst (λ bytes. parsed format s.deployment s.program bytes ≡ Ok (s, [])) (sym same) (parsed_1 format s one readable all (subst (λ bytes. length bytes < 2 ^ 64) same short)))
]
