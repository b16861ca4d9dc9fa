-- The bytes of a deployment determine the state in which nothing has happened.
use Rattle.std.proofs.Common.{◌≡◌, ℕ, ◌+◌, List, [], ◌∷◌, ◌++◌, map, filter_map, find, refl, sym, ◌∙◌, ap, Option, Some, option_map, option_and_then, Result, Ok}
use Rattle.std.specs.List.{position_from}
use Rattle.std.specs.Prelude.{bytes_eq, codes}
use Rattle.std.specs.Option.{option_map_or, unwrap_or}
use Rattle.script_tree.specs.Tree.{Bytes}
use Rattle.script_types.specs.ProgramOf.{kept_program}
use Rattle.script_types.specs.declared.codes.AttributeCode.{AttributeCode}
use Rattle.script_types.specs.declared.codes.RelationCode.{RelationCode}
use Rattle.slee_value.specs.declared.kind.Kind.{Kind}
use Rattle.deploy_model.specs.Deployed.{Deployed, DeployedBlock, DeployedService, DeployedTable, Handling}
use Rattle.deploy_model.specs.Resolving.{attribute_of, block_of, custom_of, deployed_of, event_of, field_of, handling_of, profile_of, relation_of, service_of, table_of}
use Rattle.deploy_model.specs.Rules.{Numbering, variable_of}
use Rattle.deploy_model.specs.Tables.{key_number}
use Rattle.deploy_model.specs.declared.parts.Block.{Block}
use Rattle.deploy_model.specs.declared.parts.BlockEvent.{BlockEvent}
use Rattle.deploy_model.specs.declared.parts.Parts.{Parts}
use Rattle.deploy_model.specs.declared.parts.Relation.{Relation}
use Rattle.deploy_model.specs.declared.parts.Service.{Service}
use Rattle.deploy_json.specs.Checking.{Reading, reading_of, read_as}
use Rattle.deploy_json.specs.Rows.{BlockRow, HandlerRow, PartsRow, block_row, handler_row, parts_row}
use Rattle.deploy_json.specs.declared.fault.ReadFault.{ReadFault}
use Rattle.slee_descriptor.specs.declared.deployment.Deployment.{Deployment}
use Rattle.router_state.specs.Initial.{initial}
use Rattle.router_state.specs.State.{State}
use Rattle.slee_run.specs.Given.{Document, IsDocument, start_of}

-- the same, of rows

abbrev key_in : BlockRow → Bytes → Bytes
key_in b name = option_map_or (λ a. a.1) (find (λ a. bytes_eq name a.0) b.aliases) (b.key ++ codes "." ++ name)

abbrev attribute_in : BlockRow → Bytes × Kind → AttributeCode
attribute_in b a = record { name = a.0; key = key_in b a.0; kind = a.1 }

abbrev handling_in : HandlerRow → Handling
handling_in h = record { event = h.event; initial = option_map (filter_map variable_of) h.initial; custom = option_and_then custom_of h.custom; mask = h.mask }

abbrev block_in : Numbering → BlockRow → DeployedBlock
block_in blocks b = record {
  key = b.key;
  fields = map field_of b.fields;
  attributes = map (attribute_in b) b.attributes;
  relations = map (relation_of blocks) b.relations;
  events = map handling_in b.events;
}

abbrev numbers_in : PartsRow → Numbering
numbers_in r = key_number (λ (b : BlockRow). b.key) r.blocks

abbrev deployed_in : PartsRow → Deployed
deployed_in r = record {
  events = map event_of r.events;
  profiles = map profile_of r.profiles;
  tables = map (table_of (key_number (λ p. p.key) r.profiles)) r.tables;
  blocks = map (block_in (numbers_in r)) r.blocks;
  services = map (service_of (numbers_in r)) r.services;
}

-- numbers of blocks are those of their rows

place_in : (q : Bytes) (n : ℕ) (bs : List Block) → position_from (λ (b : Block). bytes_eq q b.key) n bs ≡ position_from (λ (b : BlockRow). bytes_eq q b.key) n (map block_row bs)
place_in q n [] = refl
place_in q n (b ∷ bs) = rw (place_in q (n + 1) bs) refl

handlings : (hs : List BlockEvent) → map handling_of hs ≡ map handling_in (map handler_row hs)
handlings [] = refl
handlings (h ∷ hs) = ap (λ (more : List Handling). handling_of h ∷ more) (handlings hs)

relations : (f g : Numbering) → ((q : Bytes) → f q ≡ g q) → (rs : List Relation) → map (relation_of f) rs ≡ map (relation_of g) rs
relations f g same [] = refl
relations f g same (r ∷ rs) =
    ap (λ (more : List RelationCode). relation_of f r ∷ more) (relations f g same rs)
    ∙ ap (λ (n : Option ℕ). record { name = r.name; block = unwrap_or n 0; priority = r.priority } ∷ map (relation_of g) rs) (same r.block)

services : (f g : Numbering) → ((q : Bytes) → f q ≡ g q) → (ss : List Service) → map (service_of f) ss ≡ map (service_of g) ss
services f g same [] = refl
services f g same (s ∷ ss) =
    ap (λ (more : List DeployedService). service_of f s ∷ more) (services f g same ss)
    ∙ ap (λ (n : Option ℕ). record { key = s.key; root = unwrap_or n 0; priority = s.priority; active = s.active } ∷ map (service_of g) ss) (same s.root)

one_block : (f g : Numbering) → ((q : Bytes) → f q ≡ g q) → (b : Block) → block_of f b ≡ block_in g (block_row b)
one_block f g same b =
    ap (λ (rs : List RelationCode). record { key = b.key; fields = map field_of b.fields; attributes = map (attribute_of b) b.attributes; relations = rs; events = map handling_of b.events }) (relations f g same b.relations)
    ∙ ap (λ (hs : List Handling). record { key = b.key; fields = map field_of b.fields; attributes = map (attribute_of b) b.attributes; relations = map (relation_of g) b.relations; events = hs }) (handlings b.events)

blocks : (f g : Numbering) → ((q : Bytes) → f q ≡ g q) → (bs : List Block) → map (block_of f) bs ≡ map (block_in g) (map block_row bs)
blocks f g same [] = refl
blocks f g same (b ∷ bs) =
    ap (λ (first : DeployedBlock). first ∷ map (block_of f) bs) (one_block f g same b)
    ∙ ap (λ (more : List DeployedBlock). block_in g (block_row b) ∷ more) (blocks f g same bs)

pub deployed_by_rows : (p : Parts) → deployed_of p ≡ deployed_in (parts_row p)
deployed_by_rows p =
    ap (λ (bs : List DeployedBlock). record { events = map event_of p.events; profiles = map profile_of p.profiles; tables = tables; blocks = bs; services = map (service_of old) p.services }) (blocks old new same p.blocks)
    ∙ ap (λ (ss : List DeployedService). record { events = map event_of p.events; profiles = map profile_of p.profiles; tables = tables; blocks = map (block_in new) (map block_row p.blocks); services = ss }) (services old new same p.services)
  where
    old : Numbering
    old = key_number (λ (b : Block). b.key) p.blocks

    new : Numbering
    new = numbers_in (parts_row p)

    tables : List DeployedTable
    tables = map (table_of (key_number (λ p. p.key) p.profiles)) p.tables

    same : (q : Bytes) → old q ≡ new q
    same q = place_in q 0 p.blocks

-- the state in which nothing has happened, of what was read
abbrev start_in : Reading → State
start_in r = initial (deployed_in r.parts) r.program

start_read : (d : Deployment) → start_of d ≡ start_in (read_as d)
start_read d = ap (λ (x : Deployed). initial x (kept_program d.codes)) (deployed_by_rows d.parts)

same_reading : (x y : Reading) → ◌≡◌ {A = Result Reading ReadFault} (Ok x) (Ok y) → x ≡ y
same_reading x y is = cc

pub same_deployed : (bytes : List ℕ) (d e : Deployment) → reading_of bytes ≡ Ok (read_as d) → reading_of bytes ≡ Ok (read_as e) → deployed_of d.parts ≡ deployed_of e.parts
same_deployed bytes d e one other =
    deployed_by_rows d.parts ∙ ap (λ (r : Reading). deployed_in r.parts) (same_reading (read_as d) (read_as e) (sym one ∙ other)) ∙ sym (deployed_by_rows e.parts)

-- two deployments of the same bytes begin in the same state
pub one_start : (bytes : List ℕ) (d e : Deployment) → reading_of bytes ≡ Ok (read_as d) → reading_of bytes ≡ Ok (read_as e) → start_of d ≡ start_of e
one_start bytes d e one other = start_read d ∙ ap start_in (same_reading (read_as d) (read_as e) (sym one ∙ other)) ∙ sym (start_read e)

-- there is one document of the bytes that a source told
pub one_document : (bytes : List ℕ) (x y : Document) → IsDocument (Some bytes) x → IsDocument (Some bytes) y → x ≡ y
one_document bytes x y is other =
    let same : x.bytes ≡ y.bytes = is.told ∙ sym other.told in
    let started : x.start ≡ y.start =
    is.start ∙ one_start bytes is.deployment other.deployment (sym (ap reading_of is.told) ∙ is.given.read) (sym (ap reading_of other.told) ∙ other.given.read) ∙ sym other.start in
    ap (λ (b : List ℕ). record { bytes = b; start = x.start }) same ∙ ap (λ (s : State). record { bytes = y.bytes; start = s }) started
