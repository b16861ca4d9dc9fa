-- A child is made under a relation, and a root for a service: each keeps every part sound.
use Rattle.deploy_model.specs.Deployed.{Deployed, block_fields}
use Rattle.router_laws.proofs.Tests.{tests_append, tests_weaker}
use Rattle.router_laws_sound.proofs.SoundBase.{entities_drawn, next_grown, none_there, passes_more, passes_there, still_ordered, there_below}
use Rattle.router_laws_sound.proofs.SoundCreated.{fields_created, fields_set_alone, new_entity, still_created, with_fields}
use Rattle.router_laws_sound.proofs.SoundEntities.{links_still, name_rows_still, names_stay_apart, still_there}
use Rattle.router_laws_sound.proofs.SoundEvents.{drawn_more}
use Rattle.router_laws_sound.specs.Rooms.{IsDeployed}
use Rattle.router_state.specs.Changes.{after_change, after_create}
use Rattle.router_state.specs.Fits.{is_drawn, is_priority, is_u64}
use Rattle.router_state.specs.Queues.{entity_mark_before, is_waiting}
use Rattle.router_state.specs.State.{State}
use Rattle.router_state.specs.Trees.{entity_at, root_name_at, root_name_before, with_entity}
use Rattle.router_state.specs.Well.{IsSound}
use Rattle.router_state.specs.WellContexts.{are_links}
use Rattle.router_state.specs.WellEntities.{are_entities, are_fields, are_root_names, are_root_names_apart, is_entity_row, is_named, is_root_name, is_stem, leads_to}
use Rattle.router_state.specs.WellQueues.{are_delivered, is_entity_mark}
use Rattle.router_state.specs.WellRows.{is_next_number}
use Rattle.router_state.specs.declared.rows.Entity.{Entity}
use Rattle.router_state.specs.declared.rows.EntityMark.{EntityMark}
use Rattle.router_state.specs.declared.rows.Queued.{Queued}
use Rattle.router_state.specs.declared.rows.RootName.{RootName}
use Rattle.router_state.specs.declared.rows.Stem.{Stem}
use Rattle.router_steps.specs.Creating.{with_child}
use Rattle.router_steps.specs.Steps.{Root}
use Rattle.rows_sorted.specs.Orders.{are_below, rises_by, rises_in}
use Rattle.script_meaning.specs.Running.{Child}
use Rattle.std.proofs.Common.{IsTrue, List, None, [], ap, arith, false, refl, subst, sym, true, ℕ, ◌++◌, ◌+◌, ◌==◌, ◌∷◌, ◌≡◌, ◌≤◌}
use Rattle.std.proofs.lemmas.Bool.{and_from, and_parts}
use Rattle.std.proofs.lemmas.Bool.Decides.{nat_tests}
use Rattle.std.specs.List.{list_all}
use Rattle.std.specs.Option.{option_map_or}
use Rattle.std.specs.Prelude.{is_some, nat_lt, option_map, ℤ}
use Rattle.router_state.specs.declared.change.Change.TheVariants as changes
use Rattle.router_state.specs.declared.rows.Stem.TheVariants as stems

-- entities, of which one is new
pub entities_created : (d : Deployed) (rows : List Entity) (e block : ℕ) (stem : Stem) (priority : ℤ) → nat_lt 0 e ≡ true → is_priority priority ≡ true → is_stem d (rows ++ new_entity e block stem priority ∷ []) e block stem ≡ true
    → rises_in (λ (r : Entity). r.number.0) (rows ++ new_entity e block stem priority ∷ []) ≡ true → are_entities d rows e ≡ true → are_entities d (rows ++ new_entity e block stem priority ∷ []) (e + 1) ≡ true
entities_created d rows e block stem priority some rank stands rises sound =
    let row = new_entity e block stem priority in
    let more = rows ++ row ∷ [] in
    let old = and_parts (rises_in (λ (r : Entity). r.number.0) rows) (list_all (is_entity_row d rows e) rows) sound in
    and_from (rises_in (λ (r : Entity). r.number.0) more) _ rises
    (tests_append (is_entity_row d more (e + 1)) rows (row ∷ []) (tests_weaker (is_entity_row d rows e) (is_entity_row d more (e + 1)) each rows old.1)
    (and_from (is_entity_row d more (e + 1) row) _ (and_from (is_drawn (e + 1) e) _ (own e some) (and_from (is_priority priority) _ rank stands)) refl))
  where
    own : (n : ℕ) → nat_lt 0 n ≡ true → is_drawn (n + 1) n ≡ true
    own n is = grind (arith, nat_tests)

    kept : (number block_of : ℕ) (own : Stem) → is_stem d rows number block_of own ≡ true → is_stem d (rows ++ new_entity e block stem priority ∷ []) number block_of own ≡ true
    kept number block_of (stems.Root service) is = is
    kept number block_of (stems.Child parent relation) is =
        let both = and_parts (nat_lt parent.0 number) _ is in
        and_from (nat_lt parent.0 number) _ both.0 (passes_more (λ (r : Entity). r.number.0 == parent.0) (λ (r : Entity). leads_to d r.block relation block_of) rows (new_entity e block stem priority ∷ []) both.1)

    each : (r : Entity) → is_entity_row d rows e r ≡ true → is_entity_row d (rows ++ new_entity e block stem priority ∷ []) (e + 1) r ≡ true
    each r is =
        let drawn = and_parts (is_drawn e r.number.0) _ is in
        let rest = and_parts (is_priority r.priority) (is_stem d rows r.number.0 r.block r.stem) drawn.1 in
        and_from (is_drawn (e + 1) r.number.0) _ (drawn_more e (e + 1) r.number.0 (omega arith) drawn.0) (and_from (is_priority r.priority) _ rest.0 (kept r.number.0 r.block r.stem rest.1))

-- marks of entities, where there is one number more
pub delivered_grow : (events : List Queued) (marks : List EntityMark) (n m : ℕ) → n ≤ m → are_delivered events marks n ≡ true → are_delivered events marks m ≡ true
delivered_grow events marks n m le sound =
    let parts = and_parts (rises_by entity_mark_before marks) (list_all (is_entity_mark events n) marks) sound in
    and_from (rises_by entity_mark_before marks) _ parts.0 (tests_weaker (is_entity_mark events n) (is_entity_mark events m)
    (λ x is. let both = and_parts (is_waiting events x.activity.0) (is_drawn n x.entity.0) is in and_from (is_waiting events x.activity.0) _ both.0 (drawn_more n m x.entity.0 le both.1)) marks parts.1)

-- no name is that of an entity that isn't there yet
pub no_name : (d : Deployed) (rows : List Entity) (n m e : ℕ) (names : List RootName) → are_below (λ (r : Entity). r.number.0) e rows ≡ true → list_all (is_root_name d rows n m) names ≡ true → are_below (λ (x : RootName). x.entity.0) e names ≡ true
no_name d rows n m e names below all =
    tests_weaker (is_root_name d rows n m) (λ (x : RootName). nat_lt x.entity.0 e)
    (λ x is. there_below (λ (r : Entity). r.number.0) e x.entity.0 rows (and_parts (is_some (entity_at rows x.entity.0)) _ is).0 below) names all

unnamed : (names : List RootName) (e : ℕ) → are_below (λ (x : RootName). x.entity.0) e names ≡ true → root_name_at names e ≡ None
unnamed names e below = ap (option_map (λ (x : RootName). x.name)) (none_there (λ (x : RootName). x.entity.0) e names below)

-- a state with a new child, as one record
abbrev child_state : State → ℕ → List ℕ → ℕ → ℤ → State
child_state s parent relation block priority =
    record (after_create s block (stems.Child (record { 0 = parent }) relation) priority) { fields = with_fields s.fields s.next_entity (block_fields s.deployment block) }

pub sound_child : (s : State) (parent : ℕ) (relation : List ℕ) (block : ℕ) (priority : ℤ) → IsSound s → IsDeployed s.deployment → is_priority priority ≡ true
    → option_map_or (λ (r : Entity). leads_to s.deployment r.block relation block) (entity_at s.entities parent) false ≡ true → is_u64 (s.next_entity + 1) ≡ true → IsSound (with_child s parent relation block priority)
sound_child s parent relation block priority sound deployed rank leads room =
    let e = s.next_entity in
    let stem = stems.Child (record { 0 = parent }) relation in
    let row = new_entity e block stem priority in
    let more = s.entities ++ row ∷ [] in
    let created = changes.CreateChild (record { 0 = parent }) relation block priority in
    let order = still_ordered created s sound in
    let below = entities_drawn s.deployment s.entities e sound.entities in
    let still = still_created s.entities row in
    let there = still_there s.entities more still in
    let lower : nat_lt parent e ≡ true = there_below (λ (r : Entity). r.number.0) e parent s.entities (passes_there (λ (r : Entity). leads_to s.deployment r.block relation block) (entity_at s.entities parent) leads) below in
    let stands : is_stem s.deployment more e block stem ≡ true = and_from (nat_lt parent e) _ lower (passes_more (λ (r : Entity). r.number.0 == parent) (λ (r : Entity). leads_to s.deployment r.block relation block) s.entities (row ∷ []) leads) in
    let names = and_parts (rises_by root_name_before s.root_names) _ sound.root_names in
    let name_tests = and_parts (list_all (is_root_name s.deployment s.entities s.next_activity s.next_event) s.root_names) (list_all (is_named s.root_names) s.entities) names.1 in
    let none = unnamed s.root_names e (no_name s.deployment s.entities s.next_activity s.next_event e s.root_names below name_tests.0) in
    let some = (and_parts (nat_lt 0 e) _ sound.next_entity).0 in
    subst IsSound (sym (fields_set_alone e (block_fields s.deployment block) (after_change created s)))
    (made (entities_created s.deployment s.entities e block stem priority some rank stands order.entities sound.entities)
    (and_from (rises_by root_name_before s.root_names) _ names.0 (and_from (list_all (is_root_name s.deployment more s.next_activity s.next_event) s.root_names) _ (name_rows_still s.deployment s.entities more s.next_activity s.next_event s.root_names there name_tests.0)
    (tests_append (is_named s.root_names) s.entities (row ∷ []) name_tests.1 (and_from (is_named s.root_names row) _ (rw none refl) refl))))
    (names_stay_apart s.deployment s.entities more s.root_names s.next_activity s.next_event still sound.root_names sound.apart)
    (fields_created s.deployment s.entities s.fields s.next_activity s.next_timer e block stem priority below (and_parts (nat_lt 0 s.next_activity) _ sound.next_activity).0 (and_parts (nat_lt 0 s.next_timer) _ sound.next_timer).0 (deployed.fields block) sound.fields)
    (links_still s.entities more s.activities s.links there sound.links) (delivered_grow s.events s.delivered e (e + 1) (omega arith) sound.delivered) (next_grown e (e + 1) sound.next_entity (omega arith) room))
  where
    made : IsTrue (are_entities s.deployment (with_entity s.entities s.next_entity block (stems.Child (record { 0 = parent }) relation) priority) (s.next_entity + 1))
        → IsTrue (are_root_names s.deployment (with_entity s.entities s.next_entity block (stems.Child (record { 0 = parent }) relation) priority) s.root_names s.next_activity s.next_event)
        → IsTrue (are_root_names_apart (with_entity s.entities s.next_entity block (stems.Child (record { 0 = parent }) relation) priority) s.root_names)
        → IsTrue (are_fields s.deployment (with_entity s.entities s.next_entity block (stems.Child (record { 0 = parent }) relation) priority) (with_fields s.fields s.next_entity (block_fields s.deployment block)) s.next_activity s.next_timer)
        → IsTrue (are_links (with_entity s.entities s.next_entity block (stems.Child (record { 0 = parent }) relation) priority) s.activities s.links)
        → IsTrue (are_delivered s.events s.delivered (s.next_entity + 1)) → IsTrue (is_next_number (s.next_entity + 1)) → IsSound (child_state s parent relation block priority)
    made a b c f l m n =
        record {
          clock = sound.clock;
          inputs = sound.inputs;
          next_entity = n;
          next_activity = sound.next_activity;
          next_timer = sound.next_timer;
          next_event = sound.next_event;
          services = sound.services;
          entities = a;
          root_names = b;
          apart = c;
          fields = f;
          activities = sound.activities;
          attributes = sound.attributes;
          links = l;
          masks = sound.masks;
          names = sound.names;
          events = sound.events;
          services_done = sound.services_done;
          delivered = m;
          suspensions = sound.suspensions;
          timers = sound.timers;
          rows = sound.rows;
        }
