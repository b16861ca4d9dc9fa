-- A deployment without fault whose names are names is named.
use Rattle.std.proofs.Common.{◌≡◌, ℕ, ◌+◌, ◌^◌, ◌<◌, ◌≤◌, true, List, [], ◌∷◌, ◌++◌, length, map, refl, sym, ap, subst, arith}
use Rattle.std.specs.Prelude.{◌&&◌, Option, Some, None, bytes_eq, codes, find, flat_map, is_some, option_and_then, option_map, slice_get}
use Rattle.std.specs.Option.{option_map_or, unwrap_or}
use Rattle.std.specs.List.{AllByRecursion, list_all}
use Rattle.std.proofs.lemmas.Bool.{and_from, and_parts}
use Rattle.std.proofs.lemmas.List.{length-map}
use Rattle.std.proofs.lemmas.Option.{same_Some}
use Rattle.std.proofs.lemmas.Slice.Eq.{bytes_eq-Decides}
use Rattle.slee_value.specs.Name.{is_name}
use Rattle.slee_value.specs.declared.component.ComponentId.{ComponentId}
use Rattle.slee_value.specs.declared.kind.Kind.{Kind}
use Rattle.script_types.specs.Codes.{built_in, named}
use Rattle.script_types.specs.declared.codes.AttributeCode.{AttributeCode}
use Rattle.script_types.specs.declared.codes.EventCode.{EventCode}
use Rattle.script_types.specs.declared.codes.FieldCode.{FieldCode}
use Rattle.script_types.specs.declared.codes.RelationCode.{RelationCode}
use Rattle.deploy_model.proofs.Faultless.{blocks_none, each_rule, under_none, unless_none}
use Rattle.deploy_model.specs.Deployed.{DeployedBlock, DeployedProfile, DeployedService, DeployedTable, attribute_kind, block_fields, event_fields, relation_of, service_at, table_at, table_attributes}
use Rattle.deploy_model.specs.Resolving as resolving
use Rattle.deploy_model.specs.Resolving.{deployed_of, number_of}
use Rattle.deploy_model.specs.Rules.{Numbering, alias, entries, fresh, is_number, items, known, member}
use Rattle.deploy_model.specs.Tables.{IdNumbering, Known, block, block_event, block_members, component, event_type, id_number, identity, key_number, kind_of, known_in, method, parts_fault, profile_spec, relation, service, tables}
use Rattle.deploy_model.specs.declared.fault.DeployBad.TheVariants as bad
use Rattle.deploy_model.specs.declared.parts.Block.{Block}
use Rattle.deploy_model.specs.declared.parts.Parts.{Parts}
use Rattle.deploy_model.specs.declared.parts.ProfileSpec.{ProfileSpec}
use Rattle.deploy_model.specs.declared.parts.Relation.{Relation}
use Rattle.deploy_model.specs.declared.parts.Service.{Service}
use Rattle.deploy_model.specs.declared.parts.Table.{Table}
use Rattle.router_state.specs.Fits.{is_text}
use Rattle.router_laws_named.specs.Names.{AreNames, IsNamedBlock, IsNamedEvent, have_names}
use Rattle.router_laws_named.proofs.Places.{dotted_text, each_entry, is_plain, item_rule, leads_back, made_there, name_text, number_is, number_within, place_holds, plain_text, table_number}
use Rattle.router_laws_snapshots.specs.Named.{IsNamed, has_text}
use Rattle.router_laws_snapshots.proofs.Gathering.{all_weaker}
use Rattle.router_laws_snapshots.proofs.Fitting.{all_both, all_tests, found_holds, option_there}

-- ---- numbers of keys

component_key : {A : Type 0} (key : A → List ℕ) (keys : Numbering) (ids : IdNumbering) (id : A → ComponentId) (n : ℕ) (x : A) → component key id keys ids n x ≡ None → keys (key x) ≡ Some n
component_key key keys ids id n x none =
    let own = each_rule (member (codes "key") key (λ k. fresh (keys k) n) ∷ (λ y. identity ids n (id y)) ∷ []) x none in
    number_is n (keys (key x)) (unless_none (is_number n (keys (key x))) bad.Repeated (under_none (codes "key") (fresh (keys (key x)) n) own.0))

block_number : (p : Parts) → parts_fault p ≡ None → (n : ℕ) (b : Block) → slice_get p.blocks n ≡ Some b → key_number (λ (b : Block). b.key) p.blocks b.key ≡ Some n
block_number p h n b there =
    let all = known_in p in
    let ids = id_number (λ (b : Block). b.id) p.blocks in
    let none = item_rule (block all ids) 0 n n p.blocks b (from_none n) (blocks_none p h) there in
    let parts = each_rule (component (λ (x : Block). x.key) (λ x. x.id) all.blocks ids n ∷ block_members all ∷ []) b none in
    component_key (λ (x : Block). x.key) all.blocks ids (λ x. x.id) n b parts.0
  where
    from_none : (n : ℕ) → n ≡ 0 + n
    from_none n = omega arith

-- what is found of the services of parts without fault
services_none : (p : Parts) → parts_fault p ≡ None → items (service (known_in p) (key_number (λ (s : Service). s.key) p.services) (id_number (λ (s : Service). s.id) p.services)) p.services ≡ None
services_none p h =
    let all = known_in p in
    let found = each_rule
    (member (codes "events") (λ x. x.events) (items (event_type all.events (id_number (λ e. e.id) p.events)))
    ∷ member (codes "profiles") (λ x. x.profiles) (items (profile_spec all.profiles (id_number (λ q. q.id) p.profiles)))
    ∷ member (codes "tables") (λ x. x.tables) (tables all)
    ∷ member (codes "blocks") (λ x. x.blocks) (items (block all (id_number (λ b. b.id) p.blocks)))
    ∷ member (codes "services") (λ x. x.services) (items (service all (key_number (λ s. s.key) p.services) (id_number (λ s. s.id) p.services)))
    ∷ []) p h in
    under_none (codes "services") (items (service all (key_number (λ s. s.key) p.services) (id_number (λ s. s.id) p.services)) p.services) found.1.1.1.1.0

-- a service has its own key, and its root is a block
pub record Serves (p : Parts) (n : ℕ) (s : Service) : Type 0 where
  pub key : key_number (λ (s : Service). s.key) p.services s.key ≡ Some n
  pub root : number_of (key_number (λ (b : Block). b.key) p.blocks) s.root < length p.blocks

-- what is known has a number that is one of the list
known_within : (p : Parts) (q : List ℕ) → known (key_number (λ (b : Block). b.key) p.blocks q) ≡ None → number_of (key_number (λ (b : Block). b.key) p.blocks) q < length p.blocks
known_within p q none =
    let found = option_there (key_number (λ (b : Block). b.key) p.blocks q) (unless_none (is_some (key_number (λ (b : Block). b.key) p.blocks q)) bad.UnknownName none) in
    subst (λ n. n < length p.blocks) (sym (ap (λ o. unwrap_or o 0) found.1)) (number_within (λ (b : Block). b.key) p.blocks q found.0 found.1)

serves : (p : Parts) → parts_fault p ≡ None → (n : ℕ) (s : Service) → slice_get p.services n ≡ Some s → Serves p n s
serves p h n s there =
    let all = known_in p in
    let keys = key_number (λ (s : Service). s.key) p.services in
    let ids = id_number (λ (s : Service). s.id) p.services in
    let none = item_rule (service all keys ids) 0 n n p.services s (from_none n) (services_none p h) there in
    let parts = each_rule (component (λ (x : Service). x.key) (λ x. x.id) keys ids n ∷ member (codes "root") (λ x. x.root) (λ key. known (all.blocks key)) ∷ []) s none in
    record {
      key = component_key (λ (x : Service). x.key) keys ids (λ x. x.id) n s parts.0;
      root = known_within p s.root (under_none (codes "root") (known (all.blocks s.root)) parts.1.0);
    }
  where
    from_none : (n : ℕ) → n ≡ 0 + n
    from_none n = omega arith

-- the relations of a block lead to blocks
relations_none : (all : Known) (ids : IdNumbering) (n : ℕ) (b : Block) → block all ids n b ≡ None → entries (λ (r : Relation). r.name) (relation all) b.relations ≡ None
relations_none all ids n b h =
    let parts = each_rule (component (λ (x : Block). x.key) (λ x. x.id) all.blocks ids n ∷ block_members all ∷ []) b h in
    let members = each_rule
    (member (codes "aliases") (λ x. x.aliases) (entries (λ a. a.0) (λ a. alias (kind_of b.attributes a.0) (all.alias_kind a.1)))
    ∷ member (codes "relations") (λ x. x.relations) (entries (λ r. r.name) (relation all))
    ∷ member (codes "events") (λ x. x.events) (items (block_event all (key_number (λ h. h.event) b.events)))
    ∷ member (codes "methods") (λ x. x.methods) (entries (λ m. m.name) method)
    ∷ []) b parts.1.0 in
    under_none (codes "relations") (entries (λ r. r.name) (relation all) b.relations) members.1.0

relations_lead : (p : Parts) → parts_fault p ≡ None → (n : ℕ) (b : Block) → slice_get p.blocks n ≡ Some b → AllByRecursion (λ (r : Relation). number_of (key_number (λ (b : Block). b.key) p.blocks) r.block < length p.blocks) b.relations
relations_lead p h n b there =
    let all = known_in p in
    let ids = id_number (λ (b : Block). b.id) p.blocks in
    let none = item_rule (block all ids) 0 n n p.blocks b (from_none n) (blocks_none p h) there in
    each_entry (λ (r : Relation). r.name) (relation all) (λ (r : Relation). number_of (key_number (λ (b : Block). b.key) p.blocks) r.block < length p.blocks)
    (λ r fine. known_within p r.block (under_none (codes "block") (known (all.blocks r.block)) fine)) b.relations (relations_none all ids n b none)
  where
    from_none : (n : ℕ) → n ≡ 0 + n
    from_none n = omega arith

-- ---- what is declared

all_mapped : {A B : Type 0} (f : A → B) (P : B → Type 0) (xs : List A) → AllByRecursion (λ x. P (f x)) xs → AllByRecursion P (map f xs)
all_mapped f P [] all = tt
all_mapped f P (x ∷ xs) all = (all.0, all_mapped f P xs all.1)

all_append : {A : Type 0} (P : A → Type 0) (xs ys : List A) → AllByRecursion P xs → AllByRecursion P ys → AllByRecursion P (xs ++ ys)
all_append P [] ys one two = two
all_append P (x ∷ xs) ys one two = (one.0, all_append P xs ys one.1 two)

fields_texts : (fields : List (List ℕ × Kind)) → have_names fields ≡ true → list_all has_text (map resolving.field_of fields) ≡ true
fields_texts [] names = refl
fields_texts (f ∷ fields) names = (let parts = and_parts (is_name f.0) (have_names fields) names in and_from (is_text f.0) _ (name_text f.0 parts.0) (fields_texts fields parts.1))

same_key : (x y : List ℕ) → bytes_eq x y ≡ true → x ≡ y
same_key x y is = (bytes_eq-Decides x y).0 is

-- an event whose name and fields are texts
pub record IsTexts (e : EventCode) : Type 0 where
  pub name : is_text e.name ≡ true
  pub fields : list_all has_text e.fields ≡ true

plain_fields : (fields : List FieldCode) → list_all (λ (f : FieldCode). is_plain f.name) fields ≡ true → list_all has_text fields ≡ true
plain_fields [] plain = refl
plain_fields (f ∷ fields) plain =
    (let parts = and_parts (is_plain f.name) (list_all (λ (f : FieldCode). is_plain f.name) fields) plain in and_from (is_text f.name) _ (plain_text f.name parts.0) (plain_fields fields parts.1))

built_in_texts : AllByRecursion IsTexts built_in
built_in_texts =
    all_tests (λ (e : EventCode). is_plain e.name && list_all (λ (f : FieldCode). is_plain f.name) e.fields) IsTexts
    (λ e plain. let parts = and_parts (is_plain e.name) (list_all (λ (f : FieldCode). is_plain f.name) e.fields) plain in record { name = plain_text e.name parts.0; fields = plain_fields e.fields parts.1 }) built_in refl

events_texts : (p : Parts) → AreNames p → AllByRecursion IsTexts (built_in ++ map resolving.event_of p.events)
events_texts p names =
    all_append IsTexts built_in (map resolving.event_of p.events) built_in_texts
    (all_mapped resolving.event_of IsTexts p.events (all_weaker IsNamedEvent (λ e. IsTexts (resolving.event_of e)) p.events (λ e own. record { name = name_text e.key own.key; fields = fields_texts e.fields own.fields }) names.events))

option_map_some : {A B : Type 0} (f : A → B) (o : Option A) (y : B) → option_map f o ≡ Some y → (x : A) × (o ≡ Some x) × (f x ≡ y)
option_map_some f None y is = absurd (cc)
option_map_some f (Some x) y is = (x, refl, same_Some (f x) y is)

and_then_some : {A B : Type 0} (f : A → Option B) (o : Option A) (y : B) → option_and_then f o ≡ Some y → (x : A) × (o ≡ Some x) × (f x ≡ Some y)
and_then_some f None y is = absurd (cc)
and_then_some f (Some x) y is = (x, refl, is)

event_texts : (p : Parts) → AreNames p → (name : List ℕ) (declared : List FieldCode) → event_fields (deployed_of p) name ≡ Some declared → (is_text name ≡ true) × (list_all has_text declared ≡ true)
event_texts p names name declared is =
    let events = built_in ++ map resolving.event_of p.events in
    let found = option_map_some (λ (e : EventCode). e.fields) (named (λ (e : EventCode). e.name) name events) declared is in
    let held = found_holds IsTexts (λ (e : EventCode). bytes_eq e.name name) events found.0 found.1 (events_texts p names) in
    (subst (λ n. is_text n ≡ true) (same_key found.0.name name held.1) held.0.name, subst (λ fs. list_all has_text fs ≡ true) found.2 held.0.fields)

-- the relations of a block are texts and lead to blocks
relation_named : (p : Parts) → parts_fault p ≡ None → AreNames p → (n : ℕ) (name : List ℕ) (r : RelationCode) → relation_of (deployed_of p) n name ≡ Some r → (is_text name ≡ true) × (r.block < length (deployed_of p).blocks)
relation_named p h names n name r is =
    let numbers = key_number (λ (b : Block). b.key) p.blocks in
    let f = resolving.relation_of numbers in
    let block = and_then_some (λ (b : DeployedBlock). named (λ (r : RelationCode). r.name) name b.relations) (slice_get (map (resolving.block_of numbers) p.blocks) n) r is in
    let made = made_there (resolving.block_of numbers) p.blocks n block.0 block.1 in
    let own = place_holds IsNamedBlock p.blocks n made.0 made.1 names.blocks in
    let texts = all_tests (λ (x : Relation). is_name x.name) (λ x. is_text x.name ≡ true) (λ x good. name_text x.name good) made.0.relations own.relations in
    let both = all_both (λ (x : Relation). is_text x.name ≡ true) (λ x. number_of numbers x.block < length p.blocks) (λ x. (is_text (f x).name ≡ true) × ((f x).block < length p.blocks)) (λ x one two. (one, two)) made.0.relations texts (relations_lead p h n made.0 made.1) in
    let here = subst (λ (b : DeployedBlock). named (λ (r : RelationCode). r.name) name b.relations ≡ Some r) (sym made.2) block.2 in
    let held = found_holds (λ (x : RelationCode). (is_text x.name ≡ true) × (x.block < length p.blocks)) (λ (x : RelationCode). bytes_eq x.name name) (map f made.0.relations) r here (all_mapped f (λ (x : RelationCode). (is_text x.name ≡ true) × (x.block < length p.blocks)) made.0.relations both) in
    (subst (λ q. is_text q ≡ true) (same_key r.name name held.1) held.0.0, subst (λ k. r.block < k) (sym (length-map p.blocks (resolving.block_of numbers))) held.0.1)

-- the fields of blocks, and the attributes of tables

block_texts : (p : Parts) → AreNames p → (n : ℕ) → list_all has_text (block_fields (deployed_of p) n) ≡ true
block_texts p names n = by (slice_get (map (resolving.block_of numbers) p.blocks) n) refl
  where
    numbers : Numbering
    numbers = key_number (λ (b : Block). b.key) p.blocks

    by : (o : Option DeployedBlock) → slice_get (map (resolving.block_of (key_number (λ (b : Block). b.key) p.blocks)) p.blocks) n ≡ o → list_all has_text (option_map_or (λ (b : DeployedBlock). b.fields) o []) ≡ true
    by None is = refl
    by (Some b) is =
        let made = made_there (resolving.block_of (key_number (λ (b : Block). b.key) p.blocks)) p.blocks n b is in
        subst (λ (b : DeployedBlock). list_all has_text b.fields ≡ true) made.2 (fields_texts made.0.fields (place_holds IsNamedBlock p.blocks n made.0 made.1 names.blocks).fields)

profiles_texts : (p : Parts) → AreNames p → AllByRecursion (λ (q : DeployedProfile). list_all has_text q.attributes ≡ true) (map resolving.profile_of p.profiles)
profiles_texts p names =
    all_mapped resolving.profile_of (λ (q : DeployedProfile). list_all has_text q.attributes ≡ true) p.profiles
    (all_tests (λ (q : ProfileSpec). have_names q.attributes) (λ q. list_all has_text (resolving.profile_of q).attributes ≡ true) (λ q own. fields_texts q.attributes own) p.profiles names.profiles)

table_texts : (p : Parts) → AreNames p → (n : ℕ) → list_all has_text (table_attributes (deployed_of p) n) ≡ true
table_texts p names n = by (table_at (deployed_of p) n)
  where
    profile : (o : Option DeployedProfile) (k : ℕ) → slice_get (map resolving.profile_of p.profiles) k ≡ o → list_all has_text (option_map_or (λ (q : DeployedProfile). q.attributes) o []) ≡ true
    profile None k is = refl
    profile (Some q) k is = place_holds (λ (q : DeployedProfile). list_all has_text q.attributes ≡ true) (map resolving.profile_of p.profiles) k q is (profiles_texts p names)

    by : (o : Option DeployedTable) → list_all has_text (option_map_or (λ (q : DeployedProfile). q.attributes) (option_and_then (λ (t : DeployedTable). slice_get (map resolving.profile_of p.profiles) t.profile) o) []) ≡ true
    by None = refl
    by (Some t) = profile (slice_get (map resolving.profile_of p.profiles) t.profile) t.profile refl

-- the keys of attributes

key_text : (b : Block) (name : List ℕ) → IsNamedBlock b → is_name name ≡ true → is_text (resolving.attribute_key b name) ≡ true
key_text b name own good = by (find (λ (a : List ℕ × List ℕ). bytes_eq name a.0) b.aliases) refl
  where
    by : (o : Option (List ℕ × List ℕ)) → find (λ (a : List ℕ × List ℕ). bytes_eq name a.0) b.aliases ≡ o → is_text (option_map_or (λ (a : List ℕ × List ℕ). a.1) o (b.key ++ codes "." ++ name)) ≡ true
    by None is = dotted_text b.key name own.key good
    by (Some a) is = (found_holds (λ (a : List ℕ × List ℕ). is_text a.1 ≡ true) (λ (a : List ℕ × List ℕ). bytes_eq name a.0) b.aliases a is (all_tests (λ (a : List ℕ × List ℕ). is_name a.1) (λ a. is_text a.1 ≡ true) (λ a good. name_text a.1 good) b.aliases own.aliases)).0

attributes_texts : (numbers : Numbering) (blocks : List Block) → AllByRecursion IsNamedBlock blocks → AllByRecursion (λ (a : AttributeCode). is_text a.key ≡ true) (flat_map (λ (b : DeployedBlock). b.attributes) (map (resolving.block_of numbers) blocks))
attributes_texts numbers [] all = tt
attributes_texts numbers (b ∷ blocks) all =
    all_append (λ (a : AttributeCode). is_text a.key ≡ true) (map (resolving.attribute_of b) b.attributes) (flat_map (λ (b : DeployedBlock). b.attributes) (map (resolving.block_of numbers) blocks))
    (all_mapped (resolving.attribute_of b) (λ (a : AttributeCode). is_text a.key ≡ true) b.attributes
    (all_tests (λ (a : List ℕ × Kind). is_name a.0) (λ a. is_text (resolving.attribute_key b a.0) ≡ true) (λ a good. key_text b a.0 all.0 good) b.attributes all.0.attributes))
    (attributes_texts numbers blocks all.1)

attribute_texts : (p : Parts) → AreNames p → (key : List ℕ) (kind : Kind) → attribute_kind (deployed_of p) key ≡ Some kind → is_text key ≡ true
attribute_texts p names key kind is =
    let numbers = key_number (λ (b : Block). b.key) p.blocks in
    let attributes = flat_map (λ (b : DeployedBlock). b.attributes) (map (resolving.block_of numbers) p.blocks) in
    let found = option_map_some (λ (a : AttributeCode). a.kind) (named (λ (a : AttributeCode). a.key) key attributes) kind is in
    let held = found_holds (λ (a : AttributeCode). is_text a.key ≡ true) (λ (a : AttributeCode). bytes_eq a.key key) attributes found.0 found.1 (attributes_texts numbers p.blocks names.blocks) in
    subst (λ q. is_text q ≡ true) (same_key found.0.key key held.1) held.0

-- ---- all in one

root_there : (p : Parts) → parts_fault p ≡ None → (n : ℕ) (s : DeployedService) → service_at (deployed_of p) n ≡ Some s → s.root < length (deployed_of p).blocks
root_there p h n s is =
    let numbers = key_number (λ (b : Block). b.key) p.blocks in
    let made = made_there (resolving.service_of numbers) p.services n s is in
    let root = (serves p h n made.0 made.1).root in
    subst (λ (s : DeployedService). s.root < length (deployed_of p).blocks) made.2 (subst (λ k. number_of numbers made.0.root < k) (sym (length-map p.blocks (resolving.block_of numbers))) root)

pub named_parts : (p : Parts) → parts_fault p ≡ None → AreNames p → length p.services ≤ 2 ^ 32 → IsNamed (deployed_of p)
named_parts p h names few =
    let blocks = key_number (λ (b : Block). b.key) p.blocks in
    let profiles = key_number (λ (q : ProfileSpec). q.key) p.profiles in
    record {
      blocks = leads_back (resolving.block_of blocks) (λ (b : DeployedBlock). b.key) p.blocks (block_number p h) (all_weaker IsNamedBlock (λ b. is_name b.key ≡ true) p.blocks (λ b own. own.key) names.blocks);
      services = leads_back (resolving.service_of blocks) (λ (s : DeployedService). s.key) p.services (λ n s there. (serves p h n s there).key) (all_tests (λ (s : Service). is_name s.key) (λ s. is_name s.key ≡ true) (λ s is. is) p.services names.services);
      tables = leads_back (resolving.table_of profiles) (λ (t : DeployedTable). t.name) p.tables (table_number p.tables names.rise) (all_tests (λ (t : Table). is_name t.name) (λ t. is_name t.name ≡ true) (λ t is. is) p.tables names.tables);
      roots = root_there p h;
      relations = relation_named p h names;
      events = event_texts p names;
      fields = block_texts p names;
      attributes = table_texts p names;
      keys = attribute_texts p names;
      few = subst (λ k. k ≤ 2 ^ 32) (sym (length-map p.services (resolving.service_of blocks))) few;
    }
