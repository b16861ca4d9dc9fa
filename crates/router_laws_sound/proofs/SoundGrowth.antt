-- Numbers that come next grow: a timer is set, and an activity starts.
use Rattle.deploy_model.specs.Deployed.{Deployed, DeployedTable, event_type, is_event, table_attributes}
use Rattle.deploy_model.specs.Rules.{table}
use Rattle.router_laws.proofs.Tests.{tests_append, tests_weaker}
use Rattle.router_laws_sound.proofs.SoundBase.{activities_drawn, next_grown, passes_more, still_ordered, there_below, there_more}
use Rattle.router_laws_sound.proofs.SoundEvents.{drawn_more, event_row_more, value_more}
use Rattle.router_state.specs.Changes.{after_change}
use Rattle.router_state.specs.Contexts.{activity_at, attribute_before, is_active, is_of_table, link_before, name_before}
use Rattle.router_state.specs.Fields.{field_before}
use Rattle.router_state.specs.Fits.{are_declared, is_drawn, is_text, is_u64, is_value, none_or}
use Rattle.router_state.specs.Fitting.{is_spec}
use Rattle.router_state.specs.Initial.{table_activity}
use Rattle.router_state.specs.Profiles.{are_unique, row_before}
use Rattle.router_state.specs.Queues.{queue, queued_before}
use Rattle.router_state.specs.State.{State}
use Rattle.router_state.specs.Timers.{with_timer}
use Rattle.router_state.specs.Trees.{entity_at, root_name_before}
use Rattle.router_state.specs.Well.{IsSound}
use Rattle.router_state.specs.WellContexts.{are_attributes, are_links, are_names, are_services_from, differ_in_kind, is_activity_of, is_activity_row, is_attribute_row, is_kind, is_link_row, is_name_row, is_service_row, tables_have_activities}
use Rattle.router_state.specs.WellEntities.{all_differ, are_fields, are_root_names, has_its_fields, is_conv, is_field_row, is_named, is_root_name}
use Rattle.router_state.specs.WellQueues.{are_events, differ_in_number, ends_right, is_event_row}
use Rattle.router_state.specs.WellRows.{are_rows, are_timers, is_profile_row, is_timer_row}
use Rattle.router_state.specs.declared.rows.AcKind.{AcKind}
use Rattle.router_state.specs.declared.rows.Activity.{Activity}
use Rattle.router_state.specs.declared.rows.Attribute.{Attribute}
use Rattle.router_state.specs.declared.rows.Entity.{Entity}
use Rattle.router_state.specs.declared.rows.Field.{Field}
use Rattle.router_state.specs.declared.rows.Link.{Link}
use Rattle.router_state.specs.declared.rows.Named.{Named}
use Rattle.router_state.specs.declared.rows.ProfileRow.{ProfileRow}
use Rattle.router_state.specs.declared.rows.Queued.{Queued}
use Rattle.router_state.specs.declared.rows.RootName.{RootName}
use Rattle.router_state.specs.declared.rows.Service.{Service}
use Rattle.router_state.specs.declared.rows.Timer.{Timer}
use Rattle.router_state.specs.declared.rows.TimerSpec.{TimerSpec}
use Rattle.rows_sorted.specs.Orders.{are_below, rises_by, rises_in}
use Rattle.script_meaning.specs.Meaning.{start}
use Rattle.script_meaning.specs.Observing.{value}
use Rattle.script_meaning.specs.Values.{number}
use Rattle.slee_value.specs.declared.convergence.ConvName.{ConvName}
use Rattle.slee_value.specs.declared.ids.ActivityId.{ActivityId}
use Rattle.slee_value.specs.declared.ids.EventId.{EventId}
use Rattle.slee_value.specs.declared.value.Value.{Value}
use Rattle.std.proofs.Common.{Bool, List, None, Option, Some, [], arith, false, inl, inr, length, refl, true, ℕ, ◌++◌, ◌+◌, ◌==◌, ◌∷◌, ◌≡◌, ◌≤◌}
use Rattle.std.proofs.lemmas.Bool.{and_from, and_parts, or_cases, or_left, or_right}
use Rattle.std.proofs.lemmas.Bool.Decides.{nat_tests}
use Rattle.std.specs.List.{list_all}
use Rattle.std.specs.Option.{option_map_or}
use Rattle.std.specs.Prelude.{is_some, nat_lt, not}
use Rattle.router_state.specs.declared.change.Change.TheVariants as changes

-- rows go on passing where the numbers that come next grow

root_name_grows : (d : Deployed) (rows : List Entity) (n m k l : ℕ) → n ≤ m → k ≤ l → (r : RootName) → is_root_name d rows n k r ≡ true → is_root_name d rows m l r ≡ true
root_name_grows d rows n m k l one two r is =
    let there = and_parts (is_some (entity_at rows r.entity.0)) (is_conv d n k r.name) is in
    and_from (is_some (entity_at rows r.entity.0)) (is_conv d m l r.name) there.0 (conv_grows d n m k l one two r.name there.1)
  where
    drawn_activity : (n m : ℕ) → n ≤ m → (o : Option ActivityId) → none_or (λ a. is_drawn n a.0) o ≡ true → none_or (λ a. is_drawn m a.0) o ≡ true
    drawn_activity n m le None is = refl
    drawn_activity n m le (Some a) is = drawn_more n m a.0 le is

    drawn_event : (n m : ℕ) → n ≤ m → (o : Option EventId) → none_or (λ v. is_drawn n v.0) o ≡ true → none_or (λ v. is_drawn m v.0) o ≡ true
    drawn_event n m le None is = refl
    drawn_event n m le (Some v) is = drawn_more n m v.0 le is

    conv_grows : (d : Deployed) (n m k l : ℕ) → n ≤ m → k ≤ l → (name : ConvName) → is_conv d n k name ≡ true → is_conv d m l name ≡ true
    conv_grows d n m k l one two name is =
        let p = and_parts (none_or (λ a. is_drawn n a.0) name.activity) _ is in
        let q = and_parts (none_or is_text name.address) _ p.1 in
        let r = and_parts (none_or (is_event d) name.event_type) _ q.1 in
        let t = and_parts (none_or (λ v. is_drawn k v.0) name.event) (none_or is_text name.custom) r.1 in
        and_from (none_or (λ a. is_drawn m a.0) name.activity) _ (drawn_activity n m one name.activity p.0)
        (and_from (none_or is_text name.address) _ q.0 (and_from (none_or (is_event d) name.event_type) _ r.0 (and_from (none_or (λ v. is_drawn l v.0) name.event) _ (drawn_event k l two name.event t.0) t.1)))

pub root_names_grow : (d : Deployed) (rows : List Entity) (names : List RootName) (n m k l : ℕ) → n ≤ m → k ≤ l → are_root_names d rows names n k ≡ true → are_root_names d rows names m l ≡ true
root_names_grow d rows names n m k l one two sound =
    let rises = and_parts (rises_by root_name_before names) _ sound in
    let tests = and_parts (list_all (is_root_name d rows n k) names) (list_all (is_named names) rows) rises.1 in
    and_from (rises_by root_name_before names) _ rises.0 (and_from (list_all (is_root_name d rows m l) names) _ (tests_weaker (is_root_name d rows n k) (is_root_name d rows m l) (root_name_grows d rows n m k l one two) names tests.0) tests.1)

pub fields_grow : (d : Deployed) (rows : List Entity) (fields : List Field) (n m k l : ℕ) → n ≤ m → k ≤ l → are_fields d rows fields n k ≡ true → are_fields d rows fields m l ≡ true
fields_grow d rows fields n m k l one two sound =
    let rises = and_parts (rises_by field_before fields) _ sound in
    let tests = and_parts (list_all (is_field_row rows n k) fields) (list_all (has_its_fields d fields) rows) rises.1 in
    and_from (rises_by field_before fields) _ rises.0 (and_from (list_all (is_field_row rows m l) fields) _ (tests_weaker (is_field_row rows n k) (is_field_row rows m l) each fields tests.0) tests.1)
  where
    each : (f : Field) → is_field_row rows n k f ≡ true → is_field_row rows m l f ≡ true
    each f is = let both = and_parts (is_some (entity_at rows f.entity.0)) (is_value n k f.value) is in and_from (is_some (entity_at rows f.entity.0)) (is_value m l f.value) both.0 (value_more n m k l one two f.value both.1)

-- attributes, where activities that were there still are
pub attributes_grow : (d : Deployed) (rows more : List Activity) (attributes : List Attribute) (n m k l : ℕ) → n ≤ m → k ≤ l → ((a : ℕ) → is_some (activity_at rows a) ≡ true → is_some (activity_at more a) ≡ true)
    → are_attributes d rows attributes n k ≡ true → are_attributes d more attributes m l ≡ true
attributes_grow d rows more attributes n m k l one two there sound =
    let rises = and_parts (rises_by attribute_before attributes) (list_all (is_attribute_row d rows n k) attributes) sound in
    and_from (rises_by attribute_before attributes) _ rises.0 (tests_weaker (is_attribute_row d rows n k) (is_attribute_row d more m l) each attributes rises.1)
  where
    each : (x : Attribute) → is_attribute_row d rows n k x ≡ true → is_attribute_row d more m l x ≡ true
    each x is =
        let here = and_parts (is_some (activity_at rows x.activity.0)) _ is in
        let both = and_parts (is_value n k x.value) _ here.1 in
        and_from (is_some (activity_at more x.activity.0)) _ (there x.activity.0 here.0) (and_from (is_value m l x.value) _ (value_more n m k l one two x.value both.0) both.1)

pub rows_grow : (d : Deployed) (rows : List ProfileRow) (n m k l : ℕ) → n ≤ m → k ≤ l → are_rows d rows n k ≡ true → are_rows d rows m l ≡ true
rows_grow d rows n m k l one two sound =
    let rises = and_parts (rises_by row_before rows) _ sound in
    let tests = and_parts (list_all (is_profile_row d n k) rows) (all_differ (are_unique d) rows) rises.1 in
    and_from (rises_by row_before rows) _ rises.0 (and_from (list_all (is_profile_row d m l) rows) _ (tests_weaker (is_profile_row d n k) (is_profile_row d m l) each rows tests.0) tests.1)
  where
    each : (x : ProfileRow) → is_profile_row d n k x ≡ true → is_profile_row d m l x ≡ true
    each x is =
        let p = and_parts (nat_lt x.table (length d.tables)) _ is in
        let q = and_parts (is_text x.row) _ p.1 in
        let r = and_parts (are_declared (table_attributes d x.table) x.attributes) (list_all (λ (field : List ℕ × Value). is_value n k field.1) x.attributes) q.1 in
        and_from (nat_lt x.table (length d.tables)) _ p.0 (and_from (is_text x.row) _ q.0 (and_from (are_declared (table_attributes d x.table) x.attributes) _ r.0
        (tests_weaker (λ (field : List ℕ × Value). is_value n k field.1) (λ (field : List ℕ × Value). is_value m l field.1) (λ field. value_more n m k l one two field.1) x.attributes r.1)))

-- events, where activities that were there still are and their ends stand right
pub events_grow : (d : Deployed) (rows more : List Activity) (events : List Queued) (n m k l i j : ℕ) → n ≤ m → k ≤ l → i ≤ j → ((a : ℕ) → is_some (activity_at rows a) ≡ true → is_some (activity_at more a) ≡ true)
    → list_all (ends_right events) more ≡ true → are_events d rows events n k i ≡ true → are_events d more events m l j ≡ true
events_grow d rows more events n m k l i j one two three there right sound =
    let rises = and_parts (rises_by queued_before events) _ sound in
    let apart = and_parts (all_differ differ_in_number events) _ rises.1 in
    let tests = and_parts (list_all (is_event_row d rows n k i) events) (list_all (ends_right events) rows) apart.1 in
    and_from (rises_by queued_before events) _ rises.0 (and_from (all_differ differ_in_number events) _ apart.0
    (and_from (list_all (is_event_row d more m l j) events) _ (tests_weaker (is_event_row d rows n k i) (is_event_row d more m l j) (event_row_more d rows more n m k l i j one two three there) events tests.0) right))

-- how the ends stand
pub ends_of : (d : Deployed) (rows : List Activity) (events : List Queued) (n k i : ℕ) → are_events d rows events n k i ≡ true → list_all (ends_right events) rows ≡ true
ends_of d rows events n k i sound = (and_parts (list_all (is_event_row d rows n k i) events) _ (and_parts (all_differ differ_in_number events) _ (and_parts (rises_by queued_before events) _ sound).1).1).1

-- a timer is set

pub sound_timer : (s : State) (spec : TimerSpec) → IsSound s → is_active s.activities spec.activity.0 ≡ true → is_spec spec ≡ true → is_u64 (s.next_timer + 1) ≡ true → IsSound (after_change (changes.SetTimer spec) s)
sound_timer s spec sound active fits room =
    let order = still_ordered (changes.SetTimer spec) s sound in
    let row : Timer = record { number = record { 0 = s.next_timer }; activity = spec.activity; next = spec.start; period = spec.period; left = spec.times; keep = spec.keep } in
    let old = and_parts (rises_in (λ (t : Timer). t.number.0) s.timers) (list_all (is_timer_row s.activities s.next_timer) s.timers) sound.timers in
    let drawn : is_drawn (s.next_timer + 1) s.next_timer ≡ true = own s.next_timer (and_parts (nat_lt 0 s.next_timer) _ sound.next_timer).0 in
    record {
      clock = sound.clock;
      inputs = sound.inputs;
      next_entity = sound.next_entity;
      next_activity = sound.next_activity;
      next_timer = next_grown s.next_timer (s.next_timer + 1) sound.next_timer (omega arith) room;
      next_event = sound.next_event;
      services = sound.services;
      entities = sound.entities;
      root_names = sound.root_names;
      apart = sound.apart;
      fields = fields_grow s.deployment s.entities s.fields s.next_activity s.next_activity s.next_timer (s.next_timer + 1) (omega arith) (omega arith) sound.fields;
      activities = sound.activities;
      attributes = attributes_grow s.deployment s.activities s.activities s.attributes s.next_activity s.next_activity s.next_timer (s.next_timer + 1) (omega arith) (omega arith) (λ a is. is) sound.attributes;
      links = sound.links;
      masks = sound.masks;
      names = sound.names;
      events = events_grow s.deployment s.activities s.activities s.events s.next_activity s.next_activity s.next_timer (s.next_timer + 1) s.next_event s.next_event (omega arith) (omega arith) (omega arith) (λ a is. is) (ends_of s.deployment s.activities s.events s.next_activity s.next_timer s.next_event sound.events) sound.events;
      services_done = sound.services_done;
      delivered = sound.delivered;
      suspensions = sound.suspensions;
      timers = and_from (rises_in (λ (t : Timer). t.number.0) (with_timer s.timers s.next_timer spec)) _ order.timers (tests_append (is_timer_row s.activities (s.next_timer + 1)) s.timers (row ∷ []) (tests_weaker (is_timer_row s.activities s.next_timer) (is_timer_row s.activities (s.next_timer + 1)) each s.timers old.1) (and_from (is_timer_row s.activities (s.next_timer + 1) row) _ (and_from (is_drawn (s.next_timer + 1) s.next_timer) _ drawn (and_from (is_active s.activities spec.activity.0) _ active fits)) refl));
      rows = rows_grow s.deployment s.rows s.next_activity s.next_activity s.next_timer (s.next_timer + 1) (omega arith) (omega arith) sound.rows;
    }
  where
    own : (n : ℕ) → nat_lt 0 n ≡ true → is_drawn (n + 1) n ≡ true
    own n is = grind (arith, nat_tests)

    each : (t : Timer) → is_timer_row s.activities s.next_timer t ≡ true → is_timer_row s.activities (s.next_timer + 1) t ≡ true
    each t is =
        let both = and_parts (is_drawn s.next_timer t.number.0) _ is in
        and_from (is_drawn (s.next_timer + 1) t.number.0) _ (drawn_more s.next_timer (s.next_timer + 1) t.number.0 (omega arith) both.0) both.1

-- an activity starts

abbrev new_activity : ℕ → AcKind → Activity
new_activity n kind = record { number = record { 0 = n }; kind = kind; ending = false }

services_more : (rows more : List Activity) (n : ℕ) (services : List Service) → are_services_from rows n services ≡ true → are_services_from (rows ++ more) n services ≡ true
services_more rows more n [] all = refl
services_more rows more n (x ∷ services) all =
    let parts = and_parts (is_service_row rows n x) (are_services_from rows (n + 1) services) all in
    and_from (is_service_row (rows ++ more) n x) _ (elim (or_cases (x.activity.0 == 0) _ parts.0) [
      | inl none ↦ or_left (x.activity.0 == 0) _ none
      | inr own ↦ or_right (x.activity.0 == 0) _ (passes_more (λ (r : Activity). r.number.0 == x.activity.0) (is_activity_of n x) rows more own)
    ]) (services_more rows more (n + 1) services parts.1)

tables_more : (rows more : List Activity) (n : ℕ) (tables : List DeployedTable) → tables_have_activities rows n tables ≡ true → tables_have_activities (rows ++ more) n tables ≡ true
tables_more rows more n [] all = refl
tables_more rows more n (t ∷ tables) all =
    let parts = and_parts (option_map_or (λ (row : Activity). is_of_table n row.kind) (activity_at rows (table_activity n)) false) (tables_have_activities rows (n + 1) tables) all in
    and_from (option_map_or (λ (row : Activity). is_of_table n row.kind) (activity_at (rows ++ more) (table_activity n)) false) _
    (passes_more (λ (r : Activity). r.number.0 == table_activity n) (λ (row : Activity). is_of_table n row.kind) rows more parts.0) (tables_more rows more (n + 1) tables parts.1)

-- rows of which each differs from a new one at their end
pub differ_append : {Row : Type 0} (differ : Row → Row → Bool) (rows : List Row) (row : Row) → all_differ differ rows ≡ true → list_all (λ x. differ x row) rows ≡ true → all_differ differ (rows ++ row ∷ []) ≡ true
differ_append differ [] row all last = refl
differ_append differ (x ∷ rows) row all last =
    let parts = and_parts (list_all (differ x) rows) (all_differ differ rows) all in
    let lasts = and_parts (differ x row) (list_all (λ y. differ y row) rows) last in
    and_from (list_all (differ x) (rows ++ row ∷ [])) _ (tests_append (differ x) rows (row ∷ []) parts.0 (and_from (differ x row) _ lasts.0 refl)) (differ_append differ rows row parts.1 lasts.1)

-- no event waits on an activity that isn't there yet
none_waits : (d : Deployed) (rows : List Activity) (n m k : ℕ) (events : List Queued) → are_below (λ (r : Activity). r.number.0) n rows ≡ true → list_all (is_event_row d rows n m k) events ≡ true → queue events n ≡ []
none_waits d rows n m k [] below all = refl
none_waits d rows n m k (q ∷ events) below all =
    let parts = and_parts (is_event_row d rows n m k q) (list_all (is_event_row d rows n m k) events) all in
    let stands = and_parts (is_some (activity_at rows q.activity.0)) _ (and_parts (is_drawn k q.event.id.0) _ parts.0).1 in
    let other : (q.activity.0 == n) ≡ false = apart q.activity.0 n (there_below (λ (r : Activity). r.number.0) n q.activity.0 rows stands.0 below) in
    rw other (none_waits d rows n m k events below parts.1)
  where
    apart : (x n : ℕ) → nat_lt x n ≡ true → (x == n) ≡ false
    apart x n less = grind (arith, nat_tests)

pub sound_started : (s : State) (kind : AcKind) → IsSound s → is_kind s.deployment (new_activity s.next_activity kind) kind ≡ true → list_all (λ (x : Activity). differ_in_kind x.kind kind) s.activities ≡ true
    → is_u64 (s.next_activity + 1) ≡ true → IsSound (after_change (changes.Start kind) s)
sound_started s kind sound fits differ room =
    let n = s.next_activity in
    let row = new_activity n kind in
    let more = s.activities ++ row ∷ [] in
    let order = still_ordered (changes.Start kind) s sound in
    let old = and_parts (rises_in (λ (r : Activity). r.number.0) s.activities) _ sound.activities in
    let tests = and_parts (list_all (is_activity_row s.deployment n) s.activities) _ old.1 in
    let kinds_differ = and_parts (all_differ (λ (x y : Activity). differ_in_kind x.kind y.kind) s.activities) (tables_have_activities s.activities 0 s.deployment.tables) tests.1 in
    let event_rows = (and_parts (list_all (is_event_row s.deployment s.activities n s.next_timer s.next_event) s.events) _ (and_parts (all_differ differ_in_number s.events) _ (and_parts (rises_by queued_before s.events) _ sound.events).1).1).0 in
    let below = activities_drawn s.deployment s.activities n sound.activities in
    let none = none_waits s.deployment s.activities n s.next_timer s.next_event s.events below event_rows in
    let there : (a : ℕ) → is_some (activity_at s.activities a) ≡ true → is_some (activity_at more a) ≡ true = λ a is. there_more (λ (r : Activity). r.number.0 == a) s.activities (row ∷ []) is in
    record {
      clock = sound.clock;
      inputs = sound.inputs;
      next_entity = sound.next_entity;
      next_activity = next_grown n (n + 1) sound.next_activity (omega arith) room;
      next_timer = sound.next_timer;
      next_event = sound.next_event;
      services = (let own = and_parts (length s.services == length s.deployment.services) (are_services_from s.activities 0 s.services) sound.services in and_from _ _ own.0 (services_more s.activities (row ∷ []) 0 s.services own.1));
      entities = sound.entities;
      root_names = root_names_grow s.deployment s.entities s.root_names n (n + 1) s.next_event s.next_event (omega arith) (omega arith) sound.root_names;
      apart = sound.apart;
      fields = fields_grow s.deployment s.entities s.fields n (n + 1) s.next_timer s.next_timer (omega arith) (omega arith) sound.fields;
      activities = and_from (rises_in (λ (r : Activity). r.number.0) more) _ order.activities (and_from (list_all (is_activity_row s.deployment (n + 1)) more) _ (tests_append (is_activity_row s.deployment (n + 1)) s.activities (row ∷ []) (tests_weaker (is_activity_row s.deployment n) (is_activity_row s.deployment (n + 1)) each s.activities tests.0) (and_from (is_activity_row s.deployment (n + 1) row) _ (and_from (is_drawn (n + 1) n) _ (own n (and_parts (nat_lt 0 n) _ sound.next_activity).0) fits) refl)) (and_from (all_differ (λ (x y : Activity). differ_in_kind x.kind y.kind) more) _ (differ_append (λ (x y : Activity). differ_in_kind x.kind y.kind) s.activities row kinds_differ.0 differ) (tables_more s.activities (row ∷ []) 0 s.deployment.tables kinds_differ.1)));
      attributes = attributes_grow s.deployment s.activities more s.attributes n (n + 1) s.next_timer s.next_timer (omega arith) (omega arith) there sound.attributes;
      links = links_there s.entities s.activities more s.links there sound.links;
      masks = sound.masks;
      names = names_there s.activities more s.names there sound.names;
      events = events_grow s.deployment s.activities more s.events n (n + 1) s.next_timer s.next_timer s.next_event s.next_event (omega arith) (omega arith) (omega arith) there (tests_append (ends_right s.events) s.activities (row ∷ []) (ends_of s.deployment s.activities s.events n s.next_timer s.next_event sound.events) (and_from (ends_right s.events row) _ (rw none refl) refl)) sound.events;
      services_done = sound.services_done;
      delivered = sound.delivered;
      suspensions = sound.suspensions;
      timers = timers_there s.activities more s.timers s.next_timer (λ a is. passes_more (λ (r : Activity). r.number.0 == a) (λ (r : Activity). not r.ending) s.activities (row ∷ []) is) sound.timers;
      rows = rows_grow s.deployment s.rows n (n + 1) s.next_timer s.next_timer (omega arith) (omega arith) sound.rows;
    }
  where
    own : (n : ℕ) → nat_lt 0 n ≡ true → is_drawn (n + 1) n ≡ true
    own n is = grind (arith, nat_tests)

    each : (x : Activity) → is_activity_row s.deployment s.next_activity x ≡ true → is_activity_row s.deployment (s.next_activity + 1) x ≡ true
    each x is =
        let both = and_parts (is_drawn s.next_activity x.number.0) (is_kind s.deployment x x.kind) is in
        and_from (is_drawn (s.next_activity + 1) x.number.0) _ (drawn_more s.next_activity (s.next_activity + 1) x.number.0 (omega arith) both.0) both.1

    links_there : (entities : List Entity) (rows more : List Activity) (links : List Link) → ((a : ℕ) → is_some (activity_at rows a) ≡ true → is_some (activity_at more a) ≡ true) → are_links entities rows links ≡ true → are_links entities more links ≡ true
    links_there entities rows more links there sound =
        let parts = and_parts (rises_by link_before links) (list_all (is_link_row entities rows) links) sound in
        and_from (rises_by link_before links) _ parts.0 (tests_weaker (is_link_row entities rows) (is_link_row entities more)
        (λ l is. let both = and_parts (is_some (entity_at entities l.entity.0)) (is_some (activity_at rows l.activity.0)) is in and_from (is_some (entity_at entities l.entity.0)) _ both.0 (there l.activity.0 both.1)) links parts.1)

    names_there : (rows more : List Activity) (names : List Named) → ((a : ℕ) → is_some (activity_at rows a) ≡ true → is_some (activity_at more a) ≡ true) → are_names rows names ≡ true → are_names more names ≡ true
    names_there rows more names there sound =
        let parts = and_parts (rises_by name_before names) (list_all (is_name_row rows) names) sound in
        and_from (rises_by name_before names) _ parts.0 (tests_weaker (is_name_row rows) (is_name_row more)
        (λ x is. let both = and_parts (is_text x.name) (is_some (activity_at rows x.activity.0)) is in and_from (is_text x.name) _ both.0 (there x.activity.0 both.1)) names parts.1)

    timers_there : (rows more : List Activity) (timers : List Timer) (next : ℕ) → ((a : ℕ) → is_active rows a ≡ true → is_active more a ≡ true) → are_timers rows timers next ≡ true → are_timers more timers next ≡ true
    timers_there rows more timers next active sound =
        let parts = and_parts (rises_in (λ (t : Timer). t.number.0) timers) (list_all (is_timer_row rows next) timers) sound in
        and_from (rises_in (λ (t : Timer). t.number.0) timers) _ parts.0 (tests_weaker (is_timer_row rows next) (is_timer_row more next)
        (λ t is. let drawn = and_parts (is_drawn next t.number.0) _ is in let awake = and_parts (is_active rows t.activity.0) _ drawn.1 in
        and_from (is_drawn next t.number.0) _ drawn.0 (and_from (is_active more t.activity.0) _ (active t.activity.0 awake.0) awake.1)) timers parts.1)
