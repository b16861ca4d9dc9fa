-- The parts of a sound state fit, where its deployment is named.
use Rattle.std.proofs.Common.{◌≡◌, ℕ, ◌+◌, ◌==◌, ◌^◌, ◌<◌, ◌≤◌, Bool, true, false, List, [], ◌∷◌, length, refl, ap, subst, inl, inr, arith, nat_lt, nat_le}
use Rattle.std.specs.Prelude.{Option, Some, None, find, if◌then◌else◌, is_some, is_none, option_map}
use Rattle.std.specs.Option.{option_map_or}
use Rattle.std.specs.List.{AllByRecursion, list_all}
use Rattle.std.proofs.lemmas.Bool.{and_parts, eqb-true, leb-true, or_cases}
use Rattle.std.proofs.lemmas.Option.{same_Some, slice_get_within}
use Rattle.slee_value.specs.Bytes.{Fits, FitsText}
use Rattle.slee_value.specs.declared.convergence.ConvName.{ConvName}
use Rattle.slee_value.specs.declared.ids.ActivityId.{ActivityId}
use Rattle.slee_value.specs.declared.ids.EventId.{EventId}
use Rattle.slee_value.specs.declared.value.Value.{Value}
use Rattle.script_types.specs.declared.codes.EventCode.{EventCode}
use Rattle.script_types.specs.declared.codes.RelationCode.{RelationCode}
use Rattle.deploy_model.specs.Deployed.{Deployed, DeployedService, block_fields, block_key, block_named, event_type, is_event, relation_of, service_at, service_key, service_named}
use Rattle.router_state.specs.State.{State}
use Rattle.router_state.specs.Contexts.{activity_at}
use Rattle.router_state.specs.Fields.{fields_of}
use Rattle.router_state.specs.Fits.{is_drawn, is_priority, is_text, is_u64, is_value, none_or}
use Rattle.router_state.specs.Timers.{last_moment}
use Rattle.router_state.specs.Trees.{entity_at, is_root, root_name_at}
use Rattle.router_state.specs.Well.{IsSound}
use Rattle.router_state.specs.WellContexts.{are_services_from, is_activity_of, is_activity_row, is_kind, is_service_row}
use Rattle.router_state.specs.WellEntities.{has_its_fields, is_conv, is_entity_row, is_field_row, is_named, is_root_name, is_stem, leads_to}
use Rattle.router_state.specs.WellRows.{is_next_number}
use Rattle.router_state.specs.declared.rows.Activity.{Activity}
use Rattle.router_state.specs.declared.rows.Entity.{Entity}
use Rattle.router_state.specs.declared.rows.Field.{Field}
use Rattle.router_state.specs.declared.rows.RootName.{RootName}
use Rattle.router_state.specs.declared.rows.Service.{Service}
use Rattle.router_state.specs.declared.rows.Stem.{Stem}
use Rattle.router_state.specs.declared.rows.Stem.TheVariants as stems
use Rattle.router_laws_snapshots.specs.Named.{IsNamed}
use Rattle.router_laws_snapshots.proofs.Gathering.{all_weaker}
use Rattle.router_laws_snapshots.proofs.Parts.{FitsConv, FitsPair}
use Rattle.router_laws_snapshots.proofs.Fitting.{all_both, all_parts, all_tests, drawn_parts, found_holds, has_key, number_fits, option_fits, option_test, option_there, pairs_fit, priority_fits, text_fits, value_fits}
use Rattle.router_laws_snapshots.proofs.Entities.{FitsEntity, FitsName, FitsService, FitsStem}

-- ---- numbers

pub next_fits : (n : ℕ) → is_next_number n ≡ true → n < 2 ^ 64
next_fits n is = number_fits n (and_parts (nat_lt 0 n) (is_u64 n) is).1

pub moment_fits : (n : ℕ) → nat_le n last_moment ≡ true → n < 2 ^ 64
moment_fits n le = small n (leb-true n last_moment le)
  where
    small : (n : ℕ) → n ≤ 4000000000000000 → n < 2 ^ 64
    small n le = omega (arith, le)

-- numbers of entities and activities that were drawn
abbrev pub HasRoom : ℕ → Type 0
HasRoom n = (1 ≤ n) × (n < 2 ^ 64)

pub drawn_fits : (next n : ℕ) → next < 2 ^ 64 → is_drawn next n ≡ true → HasRoom n
drawn_fits next n room is = (let parts = drawn_parts next n is in (parts.0, omega (arith, room, parts.1)))

pub entities_fit : (s : State) → IsSound s → AllByRecursion (λ (row : Entity). HasRoom row.number.0) s.entities
entities_fit s sound =
    all_tests (is_entity_row s.deployment s.entities s.next_entity) (λ (row : Entity). HasRoom row.number.0)
    (λ row is. drawn_fits s.next_entity row.number.0 (next_fits s.next_entity sound.next_entity) (and_parts (is_drawn s.next_entity row.number.0) _ is).0)
    s.entities (and_parts _ (list_all (is_entity_row s.deployment s.entities s.next_entity) s.entities) sound.entities).1

pub activity_tests : (s : State) → IsSound s → AllByRecursion (λ (row : Activity). is_activity_row s.deployment s.next_activity row ≡ true) s.activities
activity_tests s sound =
    let more = (and_parts _ _ sound.activities).1 in
    all_tests (is_activity_row s.deployment s.next_activity) (λ row. is_activity_row s.deployment s.next_activity row ≡ true) (λ row is. is) s.activities (and_parts (list_all (is_activity_row s.deployment s.next_activity) s.activities) _ more).0

pub activities_fit : (s : State) → IsSound s → AllByRecursion (λ (row : Activity). HasRoom row.number.0) s.activities
activities_fit s sound =
    all_weaker (λ (row : Activity). is_activity_row s.deployment s.next_activity row ≡ true) (λ row. HasRoom row.number.0) s.activities
    (λ row is. drawn_fits s.next_activity row.number.0 (next_fits s.next_activity sound.next_activity) (and_parts (is_drawn s.next_activity row.number.0) (is_kind s.deployment row row.kind) is).0)
    (activity_tests s sound)

-- an entity or an activity that is there has a number that fits
pub entity_fits : (s : State) (e : ℕ) → IsSound s → is_some (entity_at s.entities e) ≡ true → e < 2 ^ 64
entity_fits s e sound is =
    let row = option_there (entity_at s.entities e) is in
    let held = found_holds (λ (row : Entity). HasRoom row.number.0) (λ (row : Entity). row.number.0 == e) s.entities row.0 row.1 (entities_fit s sound) in
    subst (λ n. n < 2 ^ 64) (eqb-true row.0.number.0 e held.1) held.0.1

pub activity_fits : (s : State) (a : ℕ) → IsSound s → is_some (activity_at s.activities a) ≡ true → a < 2 ^ 64
activity_fits s a sound is =
    let row = option_there (activity_at s.activities a) is in
    let held = found_holds (λ (row : Activity). HasRoom row.number.0) (λ (row : Activity). row.number.0 == a) s.activities row.0 row.1 (activities_fit s sound) in
    subst (λ n. n < 2 ^ 64) (eqb-true row.0.number.0 a held.1) held.0.1

pub tested_there : {A : Type 0} (p : A → Bool) (o : Option A) → option_map_or p o false ≡ true → is_some o ≡ true
tested_there p None is = is
tested_there p (Some x) is = refl

pub held_value : (s : State) → IsSound s → (v : Value) → is_value s.next_activity s.next_timer v ≡ true → Fits v
held_value s sound v is = value_fits s.next_activity s.next_timer (next_fits s.next_activity sound.next_activity) (next_fits s.next_timer sound.next_timer) v is

-- ---- services

services_from : (s : State) (n : ℕ) (rows : List Service) → IsSound s → are_services_from s.activities n rows ≡ true → AllByRecursion FitsService rows
services_from s n [] sound is = tt
services_from s n (row ∷ rows) sound is =
    let parts = and_parts (is_service_row s.activities n row) (are_services_from s.activities (n + 1) rows) is in (
      elim (or_cases (row.activity.0 == 0) _ parts.0) [
        | inl none ↦ none_fits row.activity.0 (eqb-true row.activity.0 0 none)
        | inr own ↦ activity_fits s row.activity.0 sound (tested_there (is_activity_of n row) (activity_at s.activities row.activity.0) own)
      ],
      services_from s (n + 1) rows sound parts.1,
    )
  where
    none_fits : (n : ℕ) → n ≡ 0 → n < 2 ^ 64
    none_fits n is = omega (arith, is)

pub readable_services : (s : State) → IsSound s → AllByRecursion FitsService s.services
readable_services s sound = services_from s 0 s.services sound (and_parts (length s.services == length s.deployment.services) _ sound.services).1

-- ---- entities

-- where an entity stands, and its block
pub record Stands (d : Deployed) (block : ℕ) (stem : Stem) : Type 0 where
  pub fits : FitsStem d stem
  pub there : block < length d.blocks

stem_stands : (s : State) (number block : ℕ) (stem : Stem) → IsNamed s.deployment → IsSound s → is_stem s.deployment s.entities number block stem ≡ true → Stands s.deployment block stem
stem_stands s number block (stems.Root service) named sound is =
    let d = s.deployment in
    let found = option_test (λ (v : DeployedService). v.root == block) (service_at d service) is in
    let root = named.roots service found.0 found.1 in
    record {
      fits = has_key (service_named d) (service_key d service) service (named.services service (slice_get_within d.services service found.0 found.1));
      there = subst (λ n. n < length d.blocks) (eqb-true found.0.root block found.2) root;
    }
stem_stands s number block (stems.Child parent relation) named sound is =
    let d = s.deployment in
    let parts = and_parts (nat_lt parent.0 number) _ is in
    let above = option_test (λ (row : Entity). leads_to d row.block relation block) (entity_at s.entities parent.0) parts.1 in
    let held = found_holds (λ (row : Entity). HasRoom row.number.0) (λ (row : Entity). row.number.0 == parent.0) s.entities above.0 above.1 (entities_fit s sound) in
    let room : HasRoom parent.0 = subst HasRoom (eqb-true above.0.number.0 parent.0 held.1) held.0 in
    let found = option_test (λ (r : RelationCode). r.block == block) (relation_of d above.0.block relation) above.2 in
    let own = named.relations above.0.block relation found.0 found.1 in
    record {
      fits = (room.0, room.1, text_fits relation own.0);
      there = subst (λ n. n < length d.blocks) (eqb-true found.0.block block found.2) own.1;
    }

-- what a test of an entity's row says
pub record StandsWell (d : Deployed) (row : Entity) : Type 0 where
  pub number : row.number.0 < 2 ^ 64
  pub stands : Stands d row.block row.stem
  pub priority : is_priority row.priority ≡ true

stand_well : (s : State) → IsNamed s.deployment → IsSound s → AllByRecursion (StandsWell s.deployment) s.entities
stand_well s named sound =
    let d = s.deployment in
    all_tests (is_entity_row d s.entities s.next_entity) (StandsWell d)
    (λ row is.
    let one = and_parts (is_drawn s.next_entity row.number.0) _ is in
    let two = and_parts (is_priority row.priority) (is_stem d s.entities row.number.0 row.block row.stem) one.1 in
    record {
      number = (drawn_fits s.next_entity row.number.0 (next_fits s.next_entity sound.next_entity) one.0).1;
      stands = stem_stands s row.number.0 row.block row.stem named sound two.1;
      priority = two.0;
    })
    s.entities (and_parts _ (list_all (is_entity_row d s.entities s.next_entity) s.entities) sound.entities).1

pub event_text : (d : Deployed) (name : List ℕ) → IsNamed d → is_event d name ≡ true → FitsText name
event_text d name named is =
    let found = option_there (event_type d name) is in
    text_fits name (named.events name found.0.fields (ap (λ o. option_map (λ (e : EventCode). e.fields) o) found.1)).0

conv_fits : (s : State) (name : ConvName) → IsNamed s.deployment → IsSound s → is_conv s.deployment s.next_activity s.next_event name ≡ true → FitsConv name
conv_fits s name named sound is =
    let d = s.deployment in
    let one = and_parts (none_or (λ (a : ActivityId). is_drawn s.next_activity a.0) name.activity) _ is in
    let two = and_parts (none_or is_text name.address) _ one.1 in
    let three = and_parts (none_or (is_event d) name.event_type) _ two.1 in
    let four = and_parts (none_or (λ (v : EventId). is_drawn s.next_event v.0) name.event) (none_or is_text name.custom) three.1 in
    record {
      activity = option_fits (λ (a : ActivityId). a.0 < 2 ^ 64) (λ a. is_drawn s.next_activity a.0) (λ a drawn. (drawn_fits s.next_activity a.0 (next_fits s.next_activity sound.next_activity) drawn).1) name.activity one.0;
      address = option_fits FitsText is_text text_fits name.address two.0;
      event_type = option_fits FitsText (is_event d) (λ x there. event_text d x named there) name.event_type three.0;
      event = option_fits (λ (v : EventId). v.0 < 2 ^ 64) (λ v. is_drawn s.next_event v.0) (λ v drawn. (drawn_fits s.next_event v.0 (next_fits s.next_event sound.next_event) drawn).1) name.event four.0;
      custom = option_fits FitsText is_text text_fits name.custom four.1;
    }

-- the convergence names of all roots fit
convs_fit : (s : State) → IsNamed s.deployment → IsSound s → AllByRecursion (λ (row : RootName). FitsConv row.name) s.root_names
convs_fit s named sound =
    let d = s.deployment in
    let more = (and_parts _ _ sound.root_names).1 in
    all_tests (is_root_name d s.entities s.next_activity s.next_event) (λ (row : RootName). FitsConv row.name)
    (λ row is. conv_fits s row.name named sound (and_parts (is_some (entity_at s.entities row.entity.0)) (is_conv d s.next_activity s.next_event row.name) is).1)
    s.root_names (and_parts (list_all (is_root_name d s.entities s.next_activity s.next_event) s.root_names) _ more).0

name_by : (stem : Stem) (o : Option ConvName) → (if is_root stem then is_some o else is_none o) ≡ true → ((name : ConvName) → o ≡ Some name → FitsConv name) → FitsName stem o
name_by (stems.Root service) None is fits = absurd (cc)
name_by (stems.Root service) (Some name) is fits = fits name refl
name_by (stems.Child parent relation) None is fits = tt
name_by (stems.Child parent relation) (Some name) is fits = absurd (cc)

named_conv : (rows : List RootName) (e : ℕ) (name : ConvName) → AllByRecursion (λ (row : RootName). FitsConv row.name) rows → root_name_at rows e ≡ Some name → FitsConv name
named_conv rows e name all is = by (find (λ (row : RootName). row.entity.0 == e) rows) refl is
  where
    by : (o : Option RootName) → find (λ (row : RootName). row.entity.0 == e) rows ≡ o → option_map (λ (row : RootName). row.name) o ≡ Some name → FitsConv name
    by None found is = absurd (cc)
    by (Some row) found is =
        subst FitsConv (same_Some row.name name is) (found_holds (λ (row : RootName). FitsConv row.name) (λ (row : RootName). row.entity.0 == e) rows row found all).0

names_fit : (s : State) → IsNamed s.deployment → IsSound s → AllByRecursion (λ (row : Entity). FitsName row.stem (root_name_at s.root_names row.number.0)) s.entities
names_fit s named sound =
    let d = s.deployment in
    let more = (and_parts _ _ sound.root_names).1 in
    all_tests (is_named s.root_names) (λ (row : Entity). FitsName row.stem (root_name_at s.root_names row.number.0))
    (λ row is. name_by row.stem (root_name_at s.root_names row.number.0) is (λ name there. named_conv s.root_names row.number.0 name (convs_fit s named sound) there))
    s.entities (and_parts _ (list_all (is_named s.root_names) s.entities) more).1

fields_fit : (s : State) → IsNamed s.deployment → IsSound s → AllByRecursion (λ (row : Entity). AllByRecursion FitsPair (fields_of s.fields row.number.0)) s.entities
fields_fit s named sound =
    let d = s.deployment in
    let more = (and_parts _ _ sound.fields).1 in
    let parts = and_parts (list_all (is_field_row s.entities s.next_activity s.next_timer) s.fields) (list_all (has_its_fields d s.fields) s.entities) more in
    let values = all_tests (is_field_row s.entities s.next_activity s.next_timer) (λ (row : Field). Fits row.value) (λ row is. held_value s sound row.value (and_parts (is_some (entity_at s.entities row.entity.0)) (is_value s.next_activity s.next_timer row.value) is).1) s.fields parts.0 in
    all_tests (has_its_fields d s.fields) (λ (row : Entity). AllByRecursion FitsPair (fields_of s.fields row.number.0))
    (λ row are. pairs_fit (block_fields d row.block) (fields_of s.fields row.number.0) are (named.fields row.block)
    (all_parts (λ (f : Field). f.entity.0 == row.number.0) (λ (f : Field). (f.name, f.value)) (λ (p : List ℕ × Value). Fits p.1) s.fields values))
    s.entities parts.1

pub readable_entities : (s : State) → IsNamed s.deployment → IsSound s → AllByRecursion (FitsEntity s) s.entities
readable_entities s named sound =
    let d = s.deployment in
    all_both (StandsWell d) (λ row. FitsName row.stem (root_name_at s.root_names row.number.0) × AllByRecursion FitsPair (fields_of s.fields row.number.0)) (FitsEntity s)
    (λ row stands more. record {
      number = stands.number;
      block = has_key (block_named d) (block_key d row.block) row.block (named.blocks row.block stands.stands.there);
      stem = stands.stands.fits;
      priority = priority_fits row.priority stands.priority;
      name = more.0;
      fields = more.1;
    })
    s.entities (stand_well s named sound)
    (all_both (λ (row : Entity). FitsName row.stem (root_name_at s.root_names row.number.0)) (λ row. AllByRecursion FitsPair (fields_of s.fields row.number.0)) (λ row. FitsName row.stem (root_name_at s.root_names row.number.0) × AllByRecursion FitsPair (fields_of s.fields row.number.0))
    (λ row one two. (one, two)) s.entities (names_fit s named sound) (fields_fit s named sound))
