-- What was deployed, as its codes and its parts have it.
use Rattle.std.proofs.Common.{◌≡◌, ℕ, arith, suc, ◌+◌, ◌<◌, ◌==◌, Bool, true, false, List, [], ◌∷◌, ◌++◌, cond, drop, get_or, length, map, flat_map, Option, Some, None, refl, sym, ap, ◌∙◌, find, is_some, slice_get, inl, inr, bytes_eq}
use Rattle.std.specs.Prelude.{option_map, option_and_then, ◌||◌, ◌&&◌, position}
use Rattle.std.specs.List.{position_from}
use Rattle.std.specs.Option.{option_map_or, option_or}
use Rattle.std.proofs.lemmas.Bool.{cases_Bool}
use Rattle.std.proofs.lemmas.Bool.Decides.{nat_tests}
use Rattle.std.proofs.lemmas.Iterator.Adapters.{position_from-zero}
use Rattle.std.proofs.lemmas.List.{drop_more, length-map}
use Rattle.std.proofs.lemmas.List.Folds.{find-append}
use Rattle.std.proofs.lemmas.Option.{slice_get-map}
use Rattle.slee_value.specs.declared.kind.Kind.{Kind}
use Rattle.slee_value.specs.declared.value.Value.{Value}
use Rattle.built_in_events.specs.declared.built_in.BuiltInEvent.{BuiltInEvent}
use Rattle.built_in_events.specs.BuiltIn.{all_events, event_named, fields_of, name_of as built_in_name}
use Rattle.script_types.specs.Codes.{built_in, built_in_code, named}
use Rattle.script_types.specs.declared.codes.Codes.{Codes}
use Rattle.script_types.specs.declared.codes.BlockCode.{BlockCode}
use Rattle.script_types.specs.declared.codes.EventCode.{EventCode}
use Rattle.script_types.specs.declared.codes.TableCode.{TableCode}
use Rattle.script_types.specs.declared.codes.FieldCode.{FieldCode}
use Rattle.script_types.specs.declared.codes.AttributeCode.{AttributeCode}
use Rattle.script_types.specs.declared.codes.RelationCode.{RelationCode}
use Rattle.script_types.specs.declared.checked_script.BlockSteps.{BlockSteps}
use Rattle.slee_descriptor.specs.CodesOfParts.{block_code, codes_in, table_code}
use Rattle.deploy_model.proofs.Noting.{turned}
use Rattle.deploy_model.specs.Deployed.{DeployedBlock, DeployedProfile, DeployedService, DeployedTable, attribute_kind, block_fields, event_fields, is_event, relation_of, service_at, table_attributes, table_unique}
use Rattle.deploy_model.specs.Resolving.{block_of, deployed_of, field_of, number_of, profile_of, service_of, table_of}
use Rattle.deploy_model.specs.Rules.{Numbering}
use Rattle.deploy_model.specs.Tables.{key_number}
use Rattle.deploy_model.specs.declared.parts.Block.{Block}
use Rattle.deploy_model.specs.declared.parts.Parts.{Parts}
use Rattle.deploy_model.specs.declared.parts.ProfileSpec.{ProfileSpec}
use Rattle.deploy_model.specs.declared.parts.Service.{Service}
use Rattle.deploy_model.specs.declared.parts.Table.{Table}
use Rattle.router_state.specs.Fits.{are_declared, is_of_kind}

-- the numbers of blocks and of profile specifications by their keys
abbrev numbering : Parts → Numbering
numbering p = key_number (λ b. b.key) p.blocks

abbrev profile_numbers : Parts → Numbering
profile_numbers p = key_number (λ q. q.key) p.profiles

-- a block's code, and the same block as deployed
code_at : (p : Parts) (programs : List BlockSteps) (n : ℕ) → slice_get (codes_in p programs).blocks n ≡ option_map (block_code (numbering p)) (slice_get p.blocks n)
code_at p programs n = slice_get-map (block_code (numbering p)) p.blocks n

block_there : (p : Parts) (n : ℕ) → slice_get (deployed_of p).blocks n ≡ option_map (block_of (numbering p)) (slice_get p.blocks n)
block_there p n = slice_get-map (block_of (numbering p)) p.blocks n

pub fields_are : (p : Parts) (programs : List BlockSteps) (codes : Codes) (n : ℕ) → codes ≡ codes_in p programs
    → option_map_or (λ (b : BlockCode). b.fields) (slice_get codes.blocks n) [] ≡ block_fields (deployed_of p) n
fields_are p programs codes n coded = rw coded (rw (code_at p programs n, block_there p n) (each (slice_get p.blocks n)))
  where
    each : (o : Option Block) → option_map_or (λ (b : BlockCode). b.fields) (option_map (block_code (numbering p)) o) [] ≡ option_map_or (λ (b : DeployedBlock). b.fields) (option_map (block_of (numbering p)) o) []
    each None = refl
    each (Some b) = refl

pub relation_is : (p : Parts) (programs : List BlockSteps) (codes : Codes) (n : ℕ) (name : List ℕ) → codes ≡ codes_in p programs
    → option_and_then (λ (b : BlockCode). named (λ (r : RelationCode). r.name) name b.relations) (slice_get codes.blocks n) ≡ relation_of (deployed_of p) n name
relation_is p programs codes n name coded = rw coded (rw (code_at p programs n, block_there p n) (each (slice_get p.blocks n)))
  where
    each : (o : Option Block) → option_and_then (λ (b : BlockCode). named (λ (r : RelationCode). r.name) name b.relations) (option_map (block_code (numbering p)) o)
        ≡ option_and_then (λ (b : DeployedBlock). named (λ (r : RelationCode). r.name) name b.relations) (option_map (block_of (numbering p)) o)
    each None = refl
    each (Some b) = refl

-- attributes of activities

attributes_alike : (blocks : Numbering) (bs : List Block) → flat_map (λ (b : BlockCode). b.attributes) (map (block_code blocks) bs) ≡ flat_map (λ (b : DeployedBlock). b.attributes) (map (block_of blocks) bs)
attributes_alike blocks [] = refl
attributes_alike blocks (b ∷ bs) = ap (λ (more : List AttributeCode). (block_code blocks b).attributes ++ more) (attributes_alike blocks bs)

pub kind_is : (p : Parts) (programs : List BlockSteps) (codes : Codes) (key : List ℕ) → codes ≡ codes_in p programs
    → option_map (λ (a : AttributeCode). a.kind) (named (λ (a : AttributeCode). a.key) key (flat_map (λ (b : BlockCode). b.attributes) codes.blocks)) ≡ attribute_kind (deployed_of p) key
kind_is p programs codes key coded =
    rw coded (ap (λ (all : List AttributeCode). option_map (λ (a : AttributeCode). a.kind) (named (λ (a : AttributeCode). a.key) key all)) (attributes_alike (numbering p) p.blocks))

-- the attributes of blocks
abbrev attributes_of : List BlockCode → List AttributeCode
attributes_of blocks = flat_map (λ (b : BlockCode). b.attributes) blocks

-- the attribute of this key
abbrev pub keyed : List ℕ → List AttributeCode → Option AttributeCode
keyed key xs = named (λ (a : AttributeCode). a.key) key xs

-- the blocks from a place on
from_place : (blocks : List BlockCode) (i : ℕ) (b : BlockCode) → i < length blocks → b ≡ get_or blocks i b → drop i blocks ≡ b ∷ drop (i + 1) blocks
from_place blocks i b within is = drop_more blocks i b within ∙ ap (λ (x : BlockCode). x ∷ drop (i + 1) blocks) (sym is)

here_or_behind : (blocks : List BlockCode) (i : ℕ) (b : BlockCode) (key : List ℕ) → i < length blocks → b ≡ get_or blocks i b
    → keyed key (attributes_of (drop i blocks)) ≡ option_or (keyed key b.attributes) (keyed key (attributes_of (drop (i + 1) blocks)))
here_or_behind blocks i b key within is =
    ap (λ (bs : List BlockCode). keyed key (attributes_of bs)) (from_place blocks i b within is) ∙ find-append (λ (a : AttributeCode). bytes_eq a.key key) b.attributes (attributes_of (drop (i + 1) blocks))

-- what is found in this block is found among all
pub found_here : (blocks : List BlockCode) (i : ℕ) (b : BlockCode) (key : List ℕ) (a : AttributeCode) (whole : Option AttributeCode) → i < length blocks → b ≡ get_or blocks i b → Some a ≡ keyed key b.attributes
    → keyed key (attributes_of (drop i blocks)) ≡ whole → Some a.kind ≡ option_map (λ (x : AttributeCode). x.kind) whole
found_here blocks i b key a whole within is found so =
    ap (option_map (λ (x : AttributeCode). x.kind)) (ap (λ (o : Option AttributeCode). option_or o (keyed key (attributes_of (drop (i + 1) blocks)))) found ∙ sym (here_or_behind blocks i b key within is) ∙ so)

-- what isn't found in this block is found behind it or nowhere
pub found_behind : (blocks : List BlockCode) (i : ℕ) (b : BlockCode) (key : List ℕ) (whole : Option AttributeCode) → i < length blocks → b ≡ get_or blocks i b → None ≡ keyed key b.attributes
    → keyed key (attributes_of (drop i blocks)) ≡ whole → keyed key (attributes_of (drop (i + 1) blocks)) ≡ whole
found_behind blocks i b key whole within is none so =
    ap (λ (o : Option AttributeCode). option_or o (keyed key (attributes_of (drop (i + 1) blocks)))) none ∙ sym (here_or_behind blocks i b key within is) ∙ so

-- events

built_in_found : (name : List ℕ) (es : List BuiltInEvent) → find (λ (e : EventCode). bytes_eq e.name name) (map built_in_code es) ≡ option_map built_in_code (find (λ e. bytes_eq (built_in_name e) name) es)
built_in_found name [] = refl
built_in_found name (e ∷ es) = elim (cases_Bool (bytes_eq (built_in_name e) name)) [
  | inl own ↦ rw own refl
  | inr other ↦ rw other (built_in_found name es)
]

-- an event type is built in or declared
event_there : (name : List ℕ) (es : List EventCode) → named (λ (e : EventCode). e.name) name (built_in ++ es) ≡ option_or (option_map built_in_code (event_named name)) (named (λ (e : EventCode). e.name) name es)
event_there name es =
    find-append (λ (e : EventCode). bytes_eq e.name name) built_in es
    ∙ ap (λ (o : Option EventCode). option_or o (named (λ (e : EventCode). e.name) name es)) (built_in_found name all_events)

either : (o : Option BuiltInEvent) (y : Option EventCode) → (is_some o || is_some y) ≡ is_some (option_or (option_map built_in_code o) y)
either None y = refl
either (Some x) y = refl

pub event_known : (p : Parts) (programs : List BlockSteps) (codes : Codes) (name : List ℕ) → codes ≡ codes_in p programs
    → (is_some (event_named name) || is_some (named (λ (e : EventCode). e.name) name codes.events)) ≡ is_event (deployed_of p) name
event_known p programs codes name coded =
    rw coded (either (event_named name) (named (λ (e : EventCode). e.name) name (deployed_of p).events) ∙ sym (ap (λ (o : Option EventCode). is_some o) (event_there name (deployed_of p).events)))

pub fields_built_in : (p : Parts) (name : List ℕ) (event : BuiltInEvent) → Some event ≡ event_named name → event_fields (deployed_of p) name ≡ Some (built_in_code event).fields
fields_built_in p name event is =
    ap (option_map (λ (e : EventCode). e.fields)) (event_there name (deployed_of p).events ∙ ap (λ (o : Option BuiltInEvent). option_or (option_map built_in_code o) (named (λ (e : EventCode). e.name) name (deployed_of p).events)) (sym is))

pub fields_declared : (p : Parts) (programs : List BlockSteps) (codes : Codes) (name : List ℕ) → codes ≡ codes_in p programs → None ≡ event_named name
    → event_fields (deployed_of p) name ≡ option_map (λ (e : EventCode). e.fields) (named (λ (e : EventCode). e.name) name codes.events)
fields_declared p programs codes name coded is =
    rw coded (ap (option_map (λ (e : EventCode). e.fields)) (event_there name (deployed_of p).events ∙ ap (λ (o : Option BuiltInEvent). option_or (option_map built_in_code o) (named (λ (e : EventCode). e.name) name (deployed_of p).events)) (sym is)))

-- services

numbered : {A B : Type 0} → (made : A → B) (name : B → List ℕ) (q : List ℕ) (xs : List A) (n : ℕ) → position_from (λ b. bytes_eq (name b) q) n (map made xs) ≡ position_from (λ x. bytes_eq q (name (made x))) n xs
numbered made name q [] n = refl
numbered made name q (x ∷ xs) n = λ i. cond (turned (name (made x)) q i) (Some n) (numbered made name q xs (n + 1) i)

-- a block and a profile specification have the same number among the parts and in the deployment
pub block_placed : (p : Parts) (q : List ℕ) → position (λ (b : DeployedBlock). bytes_eq b.key q) (deployed_of p).blocks ≡ key_number (λ (b : Block). b.key) p.blocks q
block_placed p q = position_from-zero (λ (b : DeployedBlock). bytes_eq b.key q) (deployed_of p).blocks ∙ numbered (block_of (numbering p)) (λ (b : DeployedBlock). b.key) q p.blocks 0

pub profile_placed : (p : Parts) (q : List ℕ) → position (λ (x : DeployedProfile). bytes_eq x.key q) (deployed_of p).profiles ≡ key_number (λ (x : ProfileSpec). x.key) p.profiles q
profile_placed p q = position_from-zero (λ (x : DeployedProfile). bytes_eq x.key q) (deployed_of p).profiles ∙ numbered profile_of (λ (x : DeployedProfile). x.key) q p.profiles 0

pub service_is : (p : Parts) (services : List Service) (n block : ℕ) → services ≡ p.services
    → option_map_or (λ (s : Service). number_of (key_number (λ (b : Block). b.key) p.blocks) s.root == block) (slice_get services n) false ≡ option_map_or (λ (v : DeployedService). v.root == block) (service_at (deployed_of p) n) false
service_is p services n block same = rw same (rw (slice_get-map (service_of (numbering p)) p.services n) (each (slice_get p.services n)))
  where
    each : (o : Option Service) → option_map_or (λ (s : Service). number_of (numbering p) s.root == block) o false ≡ option_map_or (λ (v : DeployedService). v.root == block) (option_map (service_of (numbering p)) o) false
    each None = refl
    each (Some s) = refl

pub services_counted : (p : Parts) (services : List Service) → services ≡ p.services → length services ≡ length (deployed_of p).services
services_counted p services same = rw same (sym (length-map p.services (service_of (numbering p))))

-- tables

pub tables_counted : (p : Parts) (tables : List Table) → tables ≡ p.tables → length tables ≡ length (deployed_of p).tables
tables_counted p tables same = rw same (sym (length-map p.tables (table_of (profile_numbers p))))

-- what is seen of the profile specification of a number
seen : {A : Type 0} (f : ProfileSpec → A) (g : DeployedProfile → A) → ((x : ProfileSpec) → f x ≡ g (profile_of x)) → (profiles : List ProfileSpec) (n : ℕ) (other : A)
    → option_map_or f (slice_get profiles n) other ≡ option_map_or g (slice_get (map profile_of profiles) n) other
seen f g alike profiles n other = rw (slice_get-map profile_of profiles n) (each (slice_get profiles n))
  where
    each : (o : Option ProfileSpec) → option_map_or f o other ≡ option_map_or g (option_map profile_of o) other
    each None = refl
    each (Some x) = alike x

pub attributes_are : (p : Parts) (programs : List BlockSteps) (codes : Codes) (n : ℕ) → codes ≡ codes_in p programs
    → option_map_or (λ (t : TableCode). t.attributes) (slice_get codes.tables n) [] ≡ table_attributes (deployed_of p) n
attributes_are p programs codes n coded =
    rw coded (rw (slice_get-map (table_code (profile_numbers p) p.profiles) p.tables n, slice_get-map (table_of (profile_numbers p)) p.tables n) (each (slice_get p.tables n)))
  where
    each : (o : Option Table) → option_map_or (λ (t : TableCode). t.attributes) (option_map (table_code (profile_numbers p) p.profiles) o) []
        ≡ option_map_or (λ (x : DeployedProfile). x.attributes) (option_and_then (λ (t : DeployedTable). slice_get (deployed_of p).profiles t.profile) (option_map (table_of (profile_numbers p)) o)) []
    each None = refl
    each (Some t) = seen (λ (x : ProfileSpec). map field_of x.attributes) (λ (x : DeployedProfile). x.attributes) (λ x. refl) p.profiles (number_of (profile_numbers p) t.profile) []

unique_from : (p : Parts) (n : ℕ) (o : Option Table) → slice_get p.tables n ≡ o
    → table_unique (deployed_of p) n ≡ option_map_or (λ (t : Table). option_map_or (λ (x : ProfileSpec). x.unique) (slice_get p.profiles (number_of (profile_numbers p) t.profile)) []) o []
unique_from p n o is = rw (slice_get-map (table_of (profile_numbers p)) p.tables n, is) (each o)
  where
    each : (o : Option Table) → option_map_or (λ (x : DeployedProfile). x.unique) (option_and_then (λ (t : DeployedTable). slice_get (deployed_of p).profiles t.profile) (option_map (table_of (profile_numbers p)) o)) []
        ≡ option_map_or (λ (t : Table). option_map_or (λ (x : ProfileSpec). x.unique) (slice_get p.profiles (number_of (profile_numbers p) t.profile)) []) o []
    each None = refl
    each (Some t) = sym (seen (λ (x : ProfileSpec). x.unique) (λ (x : DeployedProfile). x.unique) (λ x. refl) p.profiles (number_of (profile_numbers p) t.profile) [])

pub unique_are : (p : Parts) (tables : List Table) (profiles : List ProfileSpec) (n : ℕ) (t : Table) → tables ≡ p.tables → profiles ≡ p.profiles → slice_get tables n ≡ Some t
    → option_map_or (λ (x : ProfileSpec). x.unique) (slice_get profiles (number_of (key_number (λ (x : ProfileSpec). x.key) p.profiles) t.profile)) [] ≡ table_unique (deployed_of p) n
unique_are p tables profiles n t same also is =
    rw also (sym (unique_from p n (Some t) (ap (λ (all : List Table). slice_get all n) (sym same) ∙ is)))

pub none_unique : (p : Parts) (tables : List Table) (n : ℕ) → tables ≡ p.tables → slice_get tables n ≡ None → [] ≡ table_unique (deployed_of p) n
none_unique p tables n same is = sym (unique_from p n None (ap (λ (all : List Table). slice_get all n) (sym same) ∙ is))

-- the fields of a built-in event
pub built_in_fields : (event : BuiltInEvent) (fields : List (List ℕ × Kind)) → fields_of event ≡ fields → (built_in_code event).fields ≡ map (λ (f : List ℕ × Kind). record { name = f.0; kind = f.1 }) fields
built_in_fields event fields is = ap (map (λ (f : List ℕ × Kind). record { name = f.0; kind = f.1 })) is

-- no fields, and one field

pub none_declared : (fields : List (List ℕ × Value)) → (length fields == 0) ≡ are_declared [] fields
none_declared [] = refl
none_declared (f ∷ fs) = some (length fs)
  where
    some : (n : ℕ) → (suc n == 0) ≡ false
    some n = grind (arith, nat_tests)

grouped : (a b c : Bool) → ((a && b) && c) ≡ (a && (b && c))
grouped true b c = refl
grouped false b c = refl

pub one_declared : (d : FieldCode) (field : List ℕ × Value) (rest : List (List ℕ × Value)) → ((bytes_eq d.name field.0 && is_of_kind d.kind field.1) && are_declared [] rest) ≡ are_declared (d ∷ []) (field ∷ rest)
one_declared d field rest = grouped (bytes_eq d.name field.0) (is_of_kind d.kind field.1) (are_declared [] rest)
