-- A new root of a service, with a convergence name that no other root of it has, keeps every part sound.
use Rattle.deploy_model.specs.Deployed.{DeployedService, block_fields, service_at}
use Rattle.router_laws.proofs.OrderedLemmas.{ordered_after}
use Rattle.router_laws.proofs.Tests.{tests_append}
use Rattle.router_laws.specs.Forest.{IsIn}
use Rattle.router_laws_sound.proofs.SoundBase.{entities_drawn, found_more, next_grown, none_there, some_there, still_ordered}
use Rattle.router_laws_sound.proofs.SoundClock.{passes_all}
use Rattle.router_laws_sound.proofs.SoundCreated.{fields_created, fields_set_alone, new_entity, new_found, still_created, with_fields}
use Rattle.router_laws_sound.proofs.SoundEntities.{links_still, name_rows_still, named_is_root, names_stay_apart, passes_in, still_there}
use Rattle.router_laws_sound.proofs.SoundGrowth.{differ_append}
use Rattle.router_laws_sound.proofs.SoundMade.{delivered_grow, entities_created, no_name}
use Rattle.router_laws_sound.specs.Rooms.{IsDeployed}
use Rattle.router_state.specs.Changes.{after_change, after_create}
use Rattle.router_state.specs.Fits.{is_u64}
use Rattle.router_state.specs.State.{State}
use Rattle.router_state.specs.Trees.{entity_at, is_root, is_root_of, root_name_at, root_name_before, service_of, with_entity, with_root_name}
use Rattle.router_state.specs.Well.{IsSound}
use Rattle.router_state.specs.WellContexts.{are_links}
use Rattle.router_state.specs.WellEntities.{are_entities, are_fields, are_root_names, are_root_names_apart, differ_in_name, is_conv, is_named, is_root_name, is_stem}
use Rattle.router_state.specs.WellQueues.{are_delivered}
use Rattle.router_state.specs.WellRows.{is_next_number}
use Rattle.router_state.specs.declared.rows.Entity.{Entity}
use Rattle.router_state.specs.declared.rows.RootName.{RootName}
use Rattle.router_state.specs.declared.rows.Stem.{Stem}
use Rattle.router_steps.specs.Creating.{root_of}
use Rattle.router_steps.specs.Selection.{is_root_named, root_named}
use Rattle.router_steps.specs.Steps.{Root}
use Rattle.rows_sorted.specs.Orders.{are_below, rises_by}
use Rattle.script_meaning.specs.Running.{Child}
use Rattle.script_meaning.specs.Same.{same_name, same_option}
use Rattle.script_meaning.specs.Values.{number}
use Rattle.slee_value.specs.declared.convergence.ConvName.{ConvName}
use Rattle.std.proofs.Common.{Bool, IsTrue, List, None, Option, Some, [], ap, arith, false, filter, inl, inr, refl, subst, sym, true, ℕ, ◌++◌, ◌+◌, ◌==◌, ◌∙◌, ◌∷◌, ◌≡◌}
use Rattle.std.proofs.lemmas.Bool.{and_from, and_parts, cases_Bool, eq-eqb, false≢true}
use Rattle.std.proofs.lemmas.Bool.Decides.{nat_tests}
use Rattle.std.proofs.lemmas.List.Folds.{find-append}
use Rattle.std.specs.List.{list_all}
use Rattle.std.specs.Option.{option_map_or, option_or}
use Rattle.std.specs.Prelude.{find, is_some, nat_lt, not, option_map, ℤ, ◌&&◌}
use Rattle.router_state.specs.declared.change.Change.TheVariants as changes
use Rattle.router_state.specs.declared.rows.Stem.TheVariants as stems

-- a row behind all others is put last
put_last : (names : List RootName) (e : ℕ) (name : ConvName) → are_below (λ (x : RootName). x.entity.0) e names ≡ true → with_root_name names e name ≡ names ++ record { entity = record { 0 = e }; name = name } ∷ []
put_last names e name below = rw (ahead names below, none names below) refl
  where
    front : (x e : ℕ) → nat_lt x e ≡ true → nat_lt e x ≡ false
    front x e less = grind (arith, nat_tests)

    ahead : (names : List RootName) → are_below (λ (x : RootName). x.entity.0) e names ≡ true → filter (λ (x : RootName). nat_lt x.entity.0 e) names ≡ names
    ahead [] below = refl
    ahead (x ∷ names) below = let parts = and_parts (nat_lt x.entity.0 e) (are_below (λ (y : RootName). y.entity.0) e names) below in rw parts.0 (ap (λ xs. x ∷ xs) (ahead names parts.1))

    none : (names : List RootName) → are_below (λ (x : RootName). x.entity.0) e names ≡ true → filter (λ (x : RootName). nat_lt e x.entity.0) names ≡ []
    none [] below = refl
    none (x ∷ names) below = let parts = and_parts (nat_lt x.entity.0 e) (are_below (λ (y : RootName). y.entity.0) e names) below in rw (front x.entity.0 e parts.0) (none names parts.1)

-- names of the entities that were there are found where there is one more
name_more : (names : List RootName) (e : ℕ) (name : ConvName) (b : ℕ) → (e == b) ≡ false → root_name_at (names ++ record { entity = record { 0 = e }; name = name } ∷ []) b ≡ root_name_at names b
name_more names e name b other = ap (option_map (λ (x : RootName). x.name)) (find-append (λ (x : RootName). x.entity.0 == b) names (record { entity = record { 0 = e }; name = name } ∷ []) ∙ rw other (nothing (find (λ (x : RootName). x.entity.0 == b) names)))
  where
    nothing : {X : Type 0} (o : Option X) → option_or o None ≡ o
    nothing None = refl
    nothing (Some x) = refl

name_of_new : (names : List RootName) (e : ℕ) (name : ConvName) → are_below (λ (x : RootName). x.entity.0) e names ≡ true → root_name_at (names ++ record { entity = record { 0 = e }; name = name } ∷ []) e ≡ Some name
name_of_new names e name below =
    let row : RootName = record { entity = record { 0 = e }; name = name } in
    let found : find (λ (x : RootName). x.entity.0 == e) (names ++ row ∷ []) ≡ Some row = find-append (λ (x : RootName). x.entity.0 == e) names (row ∷ []) ∙ rw (none_there (λ (x : RootName). x.entity.0) e names below, eq-eqb e e refl) refl in
    ap (option_map (λ (x : RootName). x.name)) found

-- what isn't found passes the test nowhere
pub not_found : {X : Type 0} (p : X → Bool) (xs : List X) → find p xs ≡ None → (x : X) → IsIn x xs → p x ≡ false
not_found p [] none x there = elim there [ ]
not_found p (y ∷ ys) none x (inl same) = elim (cases_Bool (p y)) [
  | inl is ↦ (let some : Some y ≡ None = rw is at none in absurd (cc))
  | inr isnt ↦ subst (λ z. p z ≡ false) (sym same) isnt
]
not_found p (y ∷ ys) none x (inr more) = elim (cases_Bool (p y)) [
  | inl is ↦ (let some : Some y ≡ None = rw is at none in absurd (cc))
  | inr isnt ↦ not_found p ys (rw isnt at none) x more
]

-- each name that was there differs from the new one
apart_from_new : (s : State) (service : ℕ) (name : ConvName) (block : ℕ) (priority : ℤ) → IsSound s → root_named s service name ≡ None
    → list_all (λ (x : RootName). differ_in_name (s.entities ++ new_entity s.next_entity block (stems.Root service) priority ∷ []) x (record { entity = record { 0 = s.next_entity }; name = name })) s.root_names ≡ true
apart_from_new s service name block priority sound none = passes_all _ s.root_names each
  where
    new : Entity
    new = new_entity s.next_entity block (stems.Root service) priority

    by_stem : (row : Entity) (stem : Stem) → row.stem ≡ stem → is_root stem ≡ true → (same : Bool) → (same && is_root_of service stem) ≡ false
        → not (same_option (λ (a b : ℕ). a == b) (service_of (s.entities ++ new ∷ []) row) (Some service) && same) ≡ true
    by_stem row (stems.Root own) is root same apart = rw is (turned (own == service) same apart)
      where
        turned : (p q : Bool) → (q && p) ≡ false → not (p && q) ≡ true
        turned true true is = absurd (false≢true (sym is))
        turned true false is = refl
        turned false q is = refl
    by_stem row (stems.Child parent relation) is root same apart = absurd (cc)

    each : (x : RootName) → IsIn x s.root_names → differ_in_name (s.entities ++ new ∷ []) x (record { entity = record { 0 = s.next_entity }; name = name }) ≡ true
    each x there =
        let below = entities_drawn s.deployment s.entities s.next_entity sound.entities in
        let tests = and_parts (list_all (is_root_name s.deployment s.entities s.next_activity s.next_event) s.root_names) (list_all (is_named s.root_names) s.entities) (and_parts (rises_by root_name_before s.root_names) _ sound.root_names).1 in
        let row = some_there (entity_at s.entities x.entity.0) (and_parts (is_some (entity_at s.entities x.entity.0)) _ (passes_in (is_root_name s.deployment s.entities s.next_activity s.next_event) s.root_names x there tests.0)).0 in
        let root = named_is_root s.deployment s.entities s.root_names s.next_activity s.next_event sound.root_names x there row.0 row.1 in
        let other : (same_name x.name name && option_map_or (λ (e : Entity). is_root_of service e.stem) (entity_at s.entities x.entity.0) false) ≡ false = not_found (is_root_named s service name) s.root_names none x there in
        rw (found_more (λ (r : Entity). r.number.0 == x.entity.0) s.entities (new ∷ []) row.0 row.1, new_found s.entities s.next_entity block (stems.Root service) priority below)
        (by_stem row.0 row.0.stem refl root (same_name x.name name) (rw row.1 at other))

-- a state with a new root, as one record
abbrev root_state : State → DeployedService → ℕ → ConvName → State
root_state s row service name =
    record (after_create s row.root (stems.Root service) row.priority) { root_names = with_root_name s.root_names s.next_entity name; fields = with_fields s.fields s.next_entity (block_fields s.deployment row.root) }

pub sound_root : (s : State) (row : DeployedService) (service : ℕ) (name : ConvName) → IsSound s → IsDeployed s.deployment → service_at s.deployment service ≡ Some row → is_conv s.deployment s.next_activity s.next_event name ≡ true
    → root_named s service name ≡ None → is_u64 (s.next_entity + 1) ≡ true → IsSound (root_of row s service name)
sound_root s row service name sound deployed found fits alone room =
    let e = s.next_entity in
    let stem = stems.Root service in
    let new = new_entity e row.root stem row.priority in
    let more = s.entities ++ new ∷ [] in
    let begun = after_change (changes.Root (record { 0 = e }) name) (after_change (changes.CreateRoot row.root service row.priority) s) in
    let order = ordered_after (changes.Root (record { 0 = e }) name) (after_change (changes.CreateRoot row.root service row.priority) s) (still_ordered (changes.CreateRoot row.root service row.priority) s sound) in
    let below = entities_drawn s.deployment s.entities e sound.entities in
    let still = still_created s.entities new in
    let there = still_there s.entities more still in
    let stands : is_stem s.deployment more e row.root stem ≡ true = rw found (eq-eqb row.root row.root refl) in
    let names = and_parts (rises_by root_name_before s.root_names) _ sound.root_names in
    let name_tests = and_parts (list_all (is_root_name s.deployment s.entities s.next_activity s.next_event) s.root_names) (list_all (is_named s.root_names) s.entities) names.1 in
    let lower = no_name s.deployment s.entities s.next_activity s.next_event e s.root_names below name_tests.0 in
    let named_row : RootName = record { entity = record { 0 = e }; name = name } in
    let last : with_root_name s.root_names e name ≡ s.root_names ++ named_row ∷ [] = put_last s.root_names e name lower in
    let some = (and_parts (nat_lt 0 e) _ sound.next_entity).0 in
    let here : is_some (entity_at more e) ≡ true = rw (new_found s.entities e row.root stem row.priority below) refl in
    subst IsSound (sym (fields_set_alone e (block_fields s.deployment row.root) begun))
    (made (entities_created s.deployment s.entities e row.root stem row.priority some (deployed.ranks service row found) stands order.entities sound.entities)
    (and_from (rises_by root_name_before (with_root_name s.root_names e name)) _ order.root_names
    (rw last (and_from (list_all (is_root_name s.deployment more s.next_activity s.next_event) (s.root_names ++ named_row ∷ [])) _
    (tests_append (is_root_name s.deployment more s.next_activity s.next_event) s.root_names (named_row ∷ []) (name_rows_still s.deployment s.entities more s.next_activity s.next_event s.root_names there name_tests.0) (and_from (is_root_name s.deployment more s.next_activity s.next_event named_row) _ (and_from (is_some (entity_at more e)) _ here fits) refl))
    (tests_append (is_named (s.root_names ++ named_row ∷ [])) s.entities (new ∷ []) (olds s.entities below name_tests.1) (and_from (is_named (s.root_names ++ named_row ∷ []) new) _ (rw (name_of_new s.root_names e name lower) refl) refl)))))
    (rw last (differ_append (differ_in_name more) s.root_names named_row (names_stay_apart s.deployment s.entities more s.root_names s.next_activity s.next_event still sound.root_names sound.apart) (apart_from_new s service name row.root row.priority sound alone)))
    (fields_created s.deployment s.entities s.fields s.next_activity s.next_timer e row.root stem row.priority below (and_parts (nat_lt 0 s.next_activity) _ sound.next_activity).0 (and_parts (nat_lt 0 s.next_timer) _ sound.next_timer).0 (deployed.fields row.root) sound.fields)
    (links_still s.entities more s.activities s.links there sound.links) (delivered_grow s.events s.delivered e (e + 1) (omega arith) sound.delivered) (next_grown e (e + 1) sound.next_entity (omega arith) room))
  where
    apart : (x n : ℕ) → nat_lt x n ≡ true → (n == x) ≡ false
    apart x n less = grind (arith, nat_tests)

    olds : (some : List Entity) → are_below (λ (r : Entity). r.number.0) s.next_entity some ≡ true → list_all (is_named s.root_names) some ≡ true → list_all (is_named (s.root_names ++ record { entity = record { 0 = s.next_entity }; name = name } ∷ [])) some ≡ true
    olds [] below all = refl
    olds (r ∷ some) below all =
        let lows = and_parts (nat_lt r.number.0 s.next_entity) (are_below (λ (x : Entity). x.number.0) s.next_entity some) below in
        let parts = and_parts (is_named s.root_names r) (list_all (is_named s.root_names) some) all in
        and_from (is_named (s.root_names ++ record { entity = record { 0 = s.next_entity }; name = name } ∷ []) r) _ (rw (name_more s.root_names s.next_entity name r.number.0 (apart r.number.0 s.next_entity lows.0)) parts.0) (olds some lows.1 parts.1)

    made : IsTrue (are_entities s.deployment (with_entity s.entities s.next_entity row.root (stems.Root service) row.priority) (s.next_entity + 1))
        → IsTrue (are_root_names s.deployment (with_entity s.entities s.next_entity row.root (stems.Root service) row.priority) (with_root_name s.root_names s.next_entity name) s.next_activity s.next_event)
        → IsTrue (are_root_names_apart (with_entity s.entities s.next_entity row.root (stems.Root service) row.priority) (with_root_name s.root_names s.next_entity name))
        → IsTrue (are_fields s.deployment (with_entity s.entities s.next_entity row.root (stems.Root service) row.priority) (with_fields s.fields s.next_entity (block_fields s.deployment row.root)) s.next_activity s.next_timer)
        → IsTrue (are_links (with_entity s.entities s.next_entity row.root (stems.Root service) row.priority) s.activities s.links)
        → IsTrue (are_delivered s.events s.delivered (s.next_entity + 1)) → IsTrue (is_next_number (s.next_entity + 1)) → IsSound (root_state s row service name)
    made a b c f l m n =
        record {
          clock = sound.clock;
          inputs = sound.inputs;
          next_entity = n;
          next_activity = sound.next_activity;
          next_timer = sound.next_timer;
          next_event = sound.next_event;
          services = sound.services;
          entities = a;
          root_names = b;
          apart = c;
          fields = f;
          activities = sound.activities;
          attributes = sound.attributes;
          links = l;
          masks = sound.masks;
          names = sound.names;
          events = sound.events;
          services_done = sound.services_done;
          delivered = m;
          suspensions = sound.suspensions;
          timers = sound.timers;
          rows = sound.rows;
        }
