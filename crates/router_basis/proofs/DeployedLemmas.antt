-- What was deployed, as its codes have it.
use Rattle.std.proofs.Common.{◌≡◌, ℕ, List, [], ◌∷◌, ◌++◌, map, filter, flat_map, Option, Some, None, refl, sym, ◌∙◌, ap, find, is_some, slice_get, inl, inr, bytes_eq}
use Rattle.std.specs.Prelude.{option_map, option_and_then, ◌||◌}
use Rattle.std.specs.Option.{option_map_or, option_or}
use Rattle.std.proofs.lemmas.Bool.{cases_Bool}
use Rattle.std.proofs.lemmas.Option.{slice_get-map}
use Rattle.std.proofs.lemmas.List.Folds.{find-append}
use Rattle.built_in_events.specs.declared.built_in.BuiltInEvent.{BuiltInEvent}
use Rattle.built_in_events.specs.BuiltIn.{all_events, event_named, name_of as built_in_name}
use Rattle.script_types.specs.Codes.{built_in, built_in_code, named}
use Rattle.script_types.specs.declared.codes.Codes.{Codes}
use Rattle.script_types.specs.declared.codes.BlockCode.{BlockCode}
use Rattle.script_types.specs.declared.codes.EventCode.{EventCode}
use Rattle.script_types.specs.declared.codes.FieldCode.{FieldCode}
use Rattle.script_types.specs.declared.codes.AttributeCode.{AttributeCode}
use Rattle.script_types.specs.declared.codes.RelationCode.{RelationCode}
use Rattle.script_types.specs.declared.checked_script.BlockSteps.{BlockSteps}
use Rattle.slee_descriptor.specs.CodesOfParts.{block_code, codes_in, handler_code}
use Rattle.slee_descriptor.specs.declared.deployment.Deployment.{Deployment}
use Rattle.deploy_model.specs.Deployed.{Deployed, DeployedBlock, DeployedService, Handling, service_key, attribute_kind, block_fields, in_order, is_event, masked_on_attach, relation_of}
use Rattle.deploy_model.specs.Resolving.{block_of, deployed_of, handling_of, service_of}
use Rattle.deploy_model.specs.Rules.{Numbering}
use Rattle.deploy_model.specs.Tables.{key_number}
use Rattle.deploy_model.specs.declared.parts.Block.{Block}
use Rattle.deploy_model.specs.declared.parts.BlockEvent.{BlockEvent}
use Rattle.deploy_model.specs.declared.parts.Parts.{Parts}
use Rattle.deploy_model.specs.declared.parts.Service.{Service}
use Rattle.router_state.specs.State.{State}
use Rattle.router_basis.specs.Deploying.{IsDeployed}

-- the numbers of blocks by their keys
abbrev numbering : Parts → Numbering
numbering p = key_number (λ b. b.key) p.blocks

-- a block's code, and the same block as deployed
code_at : (p : Parts) (programs : List BlockSteps) (n : ℕ) → slice_get (codes_in p programs).blocks n ≡ option_map (block_code (numbering p)) (slice_get p.blocks n)
code_at p programs n = slice_get-map (block_code (numbering p)) p.blocks n

block_there : (p : Parts) (n : ℕ) → slice_get (deployed_of p).blocks n ≡ option_map (block_of (numbering p)) (slice_get p.blocks n)
block_there p n = slice_get-map (block_of (numbering p)) p.blocks n

-- what is seen of a code and of the block is the same
seen_alike : {A : Type 0} (f : BlockCode → A) (g : DeployedBlock → A) (p : Parts) (programs : List BlockSteps) (n : ℕ) (other : A)
    → ((b : Block) → f (block_code (numbering p) b) ≡ g (block_of (numbering p) b))
    → option_map_or f (slice_get (codes_in p programs).blocks n) other ≡ option_map_or g (slice_get (deployed_of p).blocks n) other
seen_alike f g p programs n other alike =
    rw (code_at p programs n, block_there p n) (each (slice_get p.blocks n))
  where
    each : (o : Option Block) → option_map_or f (option_map (block_code (numbering p)) o) other ≡ option_map_or g (option_map (block_of (numbering p)) o) other
    each None = refl
    each (Some b) = alike b

found_alike : {A : Type 0} (f : BlockCode → Option A) (g : DeployedBlock → Option A) (p : Parts) (programs : List BlockSteps) (n : ℕ)
    → ((b : Block) → f (block_code (numbering p) b) ≡ g (block_of (numbering p) b))
    → option_and_then f (slice_get (codes_in p programs).blocks n) ≡ option_and_then g (slice_get (deployed_of p).blocks n)
found_alike f g p programs n alike =
    rw (code_at p programs n, block_there p n) (each (slice_get p.blocks n))
  where
    each : (o : Option Block) → option_and_then f (option_map (block_code (numbering p)) o) ≡ option_and_then g (option_map (block_of (numbering p)) o)
    each None = refl
    each (Some b) = alike b

-- fields and relations

pub fields_are : (d : Deployment) (s : State) (codes : Codes) (n : ℕ) → IsDeployed d s → codes ≡ codes_in d.parts d.codes.programs
    → option_map_or (λ (b : BlockCode). b.fields) (slice_get codes.blocks n) [] ≡ block_fields s.deployment n
fields_are d s codes n own coded =
    rw (coded, sym own.parts) (seen_alike (λ (b : BlockCode). b.fields) (λ (b : DeployedBlock). b.fields) d.parts d.codes.programs n [] (λ b. refl))

no_field : (name : List ℕ) (o : Option BlockCode) → option_and_then (λ (b : BlockCode). named (λ (f : FieldCode). f.name) name b.fields) o ≡ named (λ (f : FieldCode). f.name) name (option_map_or (λ (b : BlockCode). b.fields) o [])
no_field name None = refl
no_field name (Some b) = refl

pub field_is : (d : Deployment) (s : State) (codes : Codes) (n : ℕ) (name : List ℕ) → IsDeployed d s → codes ≡ codes_in d.parts d.codes.programs
    → option_and_then (λ (b : BlockCode). named (λ (f : FieldCode). f.name) name b.fields) (slice_get codes.blocks n) ≡ named (λ (f : FieldCode). f.name) name (block_fields s.deployment n)
field_is d s codes n name own coded = no_field name (slice_get codes.blocks n) ∙ ap (named (λ (f : FieldCode). f.name) name) (fields_are d s codes n own coded)

pub relation_is : (d : Deployment) (s : State) (codes : Codes) (n : ℕ) (name : List ℕ) → IsDeployed d s → codes ≡ codes_in d.parts d.codes.programs
    → option_and_then (λ (b : BlockCode). named (λ (r : RelationCode). r.name) name b.relations) (slice_get codes.blocks n) ≡ relation_of s.deployment n name
relation_is d s codes n name own coded =
    rw (coded, sym own.parts) (found_alike (λ (b : BlockCode). named (λ (r : RelationCode). r.name) name b.relations) (λ (b : DeployedBlock). named (λ (r : RelationCode). r.name) name b.relations) d.parts d.codes.programs n (λ b. refl))

-- attributes

attributes_alike : (blocks : Numbering) (bs : List Block) → flat_map (λ (b : BlockCode). b.attributes) (map (block_code blocks) bs) ≡ flat_map (λ (b : DeployedBlock). b.attributes) (map (block_of blocks) bs)
attributes_alike blocks [] = refl
attributes_alike blocks (b ∷ bs) = ap (λ (more : List AttributeCode). (block_code blocks b).attributes ++ more) (attributes_alike blocks bs)

pub kind_is : (d : Deployment) (s : State) (codes : Codes) (key : List ℕ) → IsDeployed d s → codes ≡ codes_in d.parts d.codes.programs
    → option_map (λ (a : AttributeCode). a.kind) (named (λ (a : AttributeCode). a.key) key (flat_map (λ (b : BlockCode). b.attributes) codes.blocks)) ≡ attribute_kind s.deployment key
kind_is d s codes key own coded =
    rw (coded, sym own.parts) (ap (λ (all : List AttributeCode). option_map (λ (a : AttributeCode). a.kind) (named (λ (a : AttributeCode). a.key) key all)) (attributes_alike (numbering d.parts) d.parts.blocks))

-- events

pub events_are : (d : Deployment) (s : State) (codes : Codes) → IsDeployed d s → codes ≡ codes_in d.parts d.codes.programs → codes.events ≡ s.deployment.events
events_are d s codes own coded = rw (coded, sym own.parts) refl

built_in_found : (name : List ℕ) (es : List BuiltInEvent) → is_some (find (λ (e : EventCode). bytes_eq e.name name) (map built_in_code es)) ≡ is_some (find (λ e. bytes_eq (built_in_name e) name) es)
built_in_found name [] = refl
built_in_found name (e ∷ es) = elim (cases_Bool (bytes_eq (built_in_name e) name)) [
  | inl own ↦ rw own refl
  | inr other ↦ rw other (built_in_found name es)
]

either : {A : Type 0} (x y : Option A) → is_some (option_or x y) ≡ (is_some x || is_some y)
either None y = refl
either (Some x) y = refl

pub event_known : (d : Deployment) (s : State) (codes : Codes) (name : List ℕ) → IsDeployed d s → codes ≡ codes_in d.parts d.codes.programs
    → (is_some (event_named name) || is_some (named (λ (e : EventCode). e.name) name codes.events)) ≡ is_event s.deployment name
event_known d s codes name own coded =
    let parted = find-append (λ (e : EventCode). bytes_eq e.name name) built_in s.deployment.events in
    rw (events_are d s codes own coded, parted, either (find (λ (e : EventCode). bytes_eq e.name name) built_in) (find (λ (e : EventCode). bytes_eq e.name name) s.deployment.events), built_in_found name all_events) refl

-- masks

masks_alike : (hs : List BlockEvent) → map (λ h. h.event) (filter (λ h. h.mask) (map handler_code hs)) ≡ map (λ (h : Handling). h.event) (filter (λ (h : Handling). h.mask) (map handling_of hs))
masks_alike [] = refl
masks_alike (h ∷ hs) = elim (cases_Bool h.mask) [
  | inl on ↦ rw on (ap (λ (more : List (List ℕ)). h.event ∷ more) (masks_alike hs))
  | inr off ↦ rw off (masks_alike hs)
]

pub masks_are : (d : Deployment) (s : State) (codes : Codes) (n : ℕ) → IsDeployed d s → codes ≡ codes_in d.parts d.codes.programs
    → option_map_or (λ (b : BlockCode). in_order (map (λ h. h.event) (filter (λ h. h.mask) b.handlers))) (slice_get codes.blocks n) [] ≡ masked_on_attach s.deployment n
masks_are d s codes n own coded =
    rw (coded, sym own.parts) (seen_alike (λ (b : BlockCode). in_order (map (λ h. h.event) (filter (λ h. h.mask) b.handlers))) (λ (b : DeployedBlock). in_order (map (λ h. h.event) (filter (λ h. h.mask) b.events))) d.parts d.codes.programs n [] (λ b. ap in_order (masks_alike b.events)))

-- keys of services

key_alike : (blocks : Numbering) (services : List Service) (n : ℕ) → option_map_or (λ (x : Service). x.key) (slice_get services n) [] ≡ option_map_or (λ (x : DeployedService). x.key) (slice_get (map (service_of blocks) services) n) []
key_alike blocks services n = rw (slice_get-map (service_of blocks) services n) (each (slice_get services n))
  where
    each : (o : Option Service) → option_map_or (λ (x : Service). x.key) o [] ≡ option_map_or (λ (x : DeployedService). x.key) (option_map (service_of blocks) o) []
    each None = refl
    each (Some x) = refl

pub key_is : (d : Deployment) (s : State) (n : ℕ) → IsDeployed d s → option_map_or (λ (x : Service). x.key) (slice_get d.parts.services n) [] ≡ service_key s.deployment n
key_is d s n own = key_alike (numbering d.parts) d.parts.services n ∙ ap (λ (x : Deployed). service_key x n) own.parts
