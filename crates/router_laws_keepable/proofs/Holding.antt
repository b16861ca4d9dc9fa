-- In a deployment whose names are names, what its states name has names.
use Rattle.std.proofs.Common.{◌≡◌, ℕ, true, List, [], ◌∷◌, ◌++◌, map, refl, sym, subst}
use Rattle.std.specs.Prelude.{Option, Some, None, bytes_eq, option_and_then, option_map, slice_get}
use Rattle.std.specs.Option.{option_map_or}
use Rattle.std.specs.List.{AllByRecursion, list_all}
use Rattle.std.proofs.lemmas.Bool.{and_from, and_parts}
use Rattle.std.proofs.lemmas.Option.{same_Some}
use Rattle.std.proofs.lemmas.Slice.Eq.{bytes_eq-Decides}
use Rattle.slee_value.specs.Name.{is_name}
use Rattle.slee_value.specs.declared.kind.Kind.{Kind}
use Rattle.script_types.specs.Codes.{built_in, named}
use Rattle.script_types.specs.declared.codes.EventCode.{EventCode}
use Rattle.script_types.specs.declared.codes.FieldCode.{FieldCode}
use Rattle.script_types.specs.declared.codes.RelationCode.{RelationCode}
use Rattle.deploy_model.specs.Deployed.{DeployedBlock, DeployedProfile, DeployedTable, block_fields, event_fields, relation_of, table_at, table_attributes}
use Rattle.deploy_model.specs.Resolving as resolving
use Rattle.deploy_model.specs.Resolving.{deployed_of}
use Rattle.deploy_model.specs.Tables.{key_number}
use Rattle.deploy_model.specs.declared.parts.Block.{Block}
use Rattle.deploy_model.specs.declared.parts.EventType.{EventType}
use Rattle.deploy_model.specs.declared.parts.Parts.{Parts}
use Rattle.deploy_model.specs.declared.parts.ProfileSpec.{ProfileSpec}
use Rattle.deploy_model.specs.declared.parts.Relation.{Relation}
use Rattle.router_laws_named.proofs.Places.{made_there, place_holds}
use Rattle.router_laws_named.specs.Names.{AreNames, IsNamedBlock, IsNamedEvent, have_names}
use Rattle.router_laws_reading.specs.Holding.{HaveNames, has_name}
use Rattle.router_laws_snapshots.proofs.Fitting.{all_tests, found_holds}
use Rattle.router_laws_snapshots.proofs.Gathering.{all_weaker}

all_mapped : {A B : Type 0} (f : A → B) (P : B → Type 0) (xs : List A) → AllByRecursion (λ x. P (f x)) xs → AllByRecursion P (map f xs)
all_mapped f P [] all = tt
all_mapped f P (x ∷ xs) all = (all.0, all_mapped f P xs all.1)

all_append : {A : Type 0} (P : A → Type 0) (xs ys : List A) → AllByRecursion P xs → AllByRecursion P ys → AllByRecursion P (xs ++ ys)
all_append P [] ys one two = two
all_append P (x ∷ xs) ys one two = (one.0, all_append P xs ys one.1 two)

option_map_some : {A B : Type 0} (f : A → B) (o : Option A) (y : B) → option_map f o ≡ Some y → (x : A) × (o ≡ Some x) × (f x ≡ y)
option_map_some f None y is = absurd (cc)
option_map_some f (Some x) y is = (x, refl, same_Some (f x) y is)

and_then_some : {A B : Type 0} (f : A → Option B) (o : Option A) (y : B) → option_and_then f o ≡ Some y → (x : A) × (o ≡ Some x) × (f x ≡ Some y)
and_then_some f None y is = absurd (cc)
and_then_some f (Some x) y is = (x, refl, is)

fields_named : (fields : List (List ℕ × Kind)) → have_names fields ≡ true → list_all has_name (map resolving.field_of fields) ≡ true
fields_named [] names = refl
fields_named (f ∷ fields) names = (let parts = and_parts (is_name f.0) (have_names fields) names in and_from (is_name f.0) _ parts.0 (fields_named fields parts.1))

events_named : (p : Parts) → AreNames p → AllByRecursion (λ (e : EventCode). list_all has_name e.fields ≡ true) (built_in ++ map resolving.event_of p.events)
events_named p names =
    all_append (λ (e : EventCode). list_all has_name e.fields ≡ true) built_in (map resolving.event_of p.events)
    (all_tests (λ (e : EventCode). list_all has_name e.fields) (λ e. list_all has_name e.fields ≡ true) (λ e is. is) built_in refl)
    (all_mapped resolving.event_of (λ (e : EventCode). list_all has_name e.fields ≡ true) p.events
    (all_weaker IsNamedEvent (λ (e : EventType). list_all has_name (resolving.event_of e).fields ≡ true) p.events (λ e own. fields_named e.fields own.fields) names.events))

event_named : (p : Parts) → AreNames p → (name : List ℕ) (declared : List FieldCode) → event_fields (deployed_of p) name ≡ Some declared → list_all has_name declared ≡ true
event_named p names name declared is =
    let events = built_in ++ map resolving.event_of p.events in
    let found = option_map_some (λ (e : EventCode). e.fields) (named (λ (e : EventCode). e.name) name events) declared is in
    let held = found_holds (λ (e : EventCode). list_all has_name e.fields ≡ true) (λ (e : EventCode). bytes_eq e.name name) events found.0 found.1 (events_named p names) in
    subst (λ fields. list_all has_name fields ≡ true) found.2 held.0

relation_named : (p : Parts) → AreNames p → (n : ℕ) (name : List ℕ) (r : RelationCode) → relation_of (deployed_of p) n name ≡ Some r → is_name name ≡ true
relation_named p names n name r is =
    let numbers = key_number (λ (b : Block). b.key) p.blocks in
    let f = resolving.relation_of numbers in
    let block = and_then_some (λ (b : DeployedBlock). named (λ (r : RelationCode). r.name) name b.relations) (slice_get (map (resolving.block_of numbers) p.blocks) n) r is in
    let made = made_there (resolving.block_of numbers) p.blocks n block.0 block.1 in
    let own = place_holds IsNamedBlock p.blocks n made.0 made.1 names.blocks in
    let here = subst (λ (b : DeployedBlock). named (λ (r : RelationCode). r.name) name b.relations ≡ Some r) (sym made.2) block.2 in
    let good = all_mapped f (λ (x : RelationCode). is_name x.name ≡ true) made.0.relations (all_tests (λ (x : Relation). is_name x.name) (λ x. is_name (f x).name ≡ true) (λ x is. is) made.0.relations own.relations) in
    let held = found_holds (λ (x : RelationCode). is_name x.name ≡ true) (λ (x : RelationCode). bytes_eq x.name name) (map f made.0.relations) r here good in
    subst (λ q. is_name q ≡ true) ((bytes_eq-Decides r.name name).0 held.1) held.0

block_named : (p : Parts) → AreNames p → (n : ℕ) → list_all has_name (block_fields (deployed_of p) n) ≡ true
block_named p names n = by (slice_get (map (resolving.block_of (key_number (λ (b : Block). b.key) p.blocks)) p.blocks) n) refl
  where
    by : (o : Option DeployedBlock) → slice_get (map (resolving.block_of (key_number (λ (b : Block). b.key) p.blocks)) p.blocks) n ≡ o → list_all has_name (option_map_or (λ (b : DeployedBlock). b.fields) o []) ≡ true
    by None is = refl
    by (Some b) is =
        let made = made_there (resolving.block_of (key_number (λ (b : Block). b.key) p.blocks)) p.blocks n b is in
        subst (λ (b : DeployedBlock). list_all has_name b.fields ≡ true) made.2 (fields_named made.0.fields (place_holds IsNamedBlock p.blocks n made.0 made.1 names.blocks).fields)

profiles_named : (p : Parts) → AreNames p → AllByRecursion (λ (q : DeployedProfile). list_all has_name q.attributes ≡ true) (map resolving.profile_of p.profiles)
profiles_named p names =
    all_mapped resolving.profile_of (λ (q : DeployedProfile). list_all has_name q.attributes ≡ true) p.profiles
    (all_tests (λ (q : ProfileSpec). have_names q.attributes) (λ q. list_all has_name (resolving.profile_of q).attributes ≡ true) (λ q own. fields_named q.attributes own) p.profiles names.profiles)

table_named : (p : Parts) → AreNames p → (n : ℕ) → list_all has_name (table_attributes (deployed_of p) n) ≡ true
table_named p names n = by (table_at (deployed_of p) n)
  where
    profile : (o : Option DeployedProfile) (k : ℕ) → slice_get (map resolving.profile_of p.profiles) k ≡ o → list_all has_name (option_map_or (λ (q : DeployedProfile). q.attributes) o []) ≡ true
    profile None k is = refl
    profile (Some q) k is = place_holds (λ (q : DeployedProfile). list_all has_name q.attributes ≡ true) (map resolving.profile_of p.profiles) k q is (profiles_named p names)

    by : (o : Option DeployedTable) → list_all has_name (option_map_or (λ (q : DeployedProfile). q.attributes) (option_and_then (λ (t : DeployedTable). slice_get (map resolving.profile_of p.profiles) t.profile) o) []) ≡ true
    by None = refl
    by (Some t) = profile (slice_get (map resolving.profile_of p.profiles) t.profile) t.profile refl

pub parts_have_names : (p : Parts) → AreNames p → HaveNames (deployed_of p)
parts_have_names p names = record { relations = relation_named p names; fields = block_named p names; events = event_named p names; attributes = table_named p names }
