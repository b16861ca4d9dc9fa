-- In what was read the names are names, and tables rise by theirs.
use Rattle.std.proofs.Common.{◌≡◌, ℕ, Bool, true, List, [], ◌∷◌, map, refl, ap, ◌∙◌, sym, subst}
use Rattle.std.specs.Prelude.{Ok, codes}
use Rattle.std.specs.List.{AllByRecursion, list_all}
use Rattle.std.proofs.lemmas.Bool.{and_from}
use Rattle.serde_json.specs.Data.{Data, Items, Members, item, member, no_items, no_members}
use Rattle.slee_value.specs.Name.{is_name}
use Rattle.slee_value.specs.Order.{rises}
use Rattle.slee_value.specs.declared.kind.Kind.{Kind}
use Rattle.script_tree.specs.Tree.{Bytes}
use Rattle.deploy_model.specs.declared.parts.Block.{Block}
use Rattle.deploy_model.specs.declared.parts.EventType.{EventType}
use Rattle.deploy_model.specs.declared.parts.Parts.{Parts}
use Rattle.deploy_model.specs.declared.parts.ProfileSpec.{ProfileSpec}
use Rattle.deploy_model.specs.declared.parts.Relation.{Relation}
use Rattle.deploy_model.specs.declared.parts.Service.{Service}
use Rattle.deploy_model.specs.declared.parts.Table.{Table}
use Rattle.deploy_schema.specs.Names.{members_at}
use Rattle.deploy_schema.specs.Numbers.{items_at}
use Rattle.deploy_json.proofs.Shaped.{shaped}
use Rattle.deploy_json.specs.Documents.{block_of, parts_in}
use Rattle.deploy_json.specs.Reading.{parts_of}
use Rattle.deploy_json.specs.Rows.{BlockRow, PartsRow, block_row, parts_row}
use Rattle.deploy_json.specs.Shapes.{EachItem, EachMember, IsBlock, IsDocument, IsEventType, IsField, IsNamePair, IsProfile, IsRelation, IsService}
use Rattle.deploy_json.specs.Values.{alias_of, entries, event_type_of, field_of, listed, profile_of, relation_of, service_of, table_of}
use Rattle.router_laws_deployed.proofs.Declared.{members_rise_at, read_document}
use Rattle.router_laws_deployed.proofs.WholeDeployments.{all_each}
use Rattle.router_laws_deployed.specs.Ordered.{IsOrdered, names}
use Rattle.router_laws_named.specs.Names.{AreNames, IsNamedBlock, IsNamedEvent, have_names}

each_listed : {A : Type 0} (P : Data → Type 0) (of_item : Data → A) (Q : A → Type 0) (ds : Items) → ((d : Data) → P d → Q (of_item d)) → EachItem P ds → AllByRecursion Q (listed of_item ds)
each_listed P of_item Q no_items each all = tt
each_listed P of_item Q (item d ds) each all = (each d all.0, each_listed P of_item Q ds each all.1)

each_unmapped : {A B : Type 0} (f : A → B) (P : B → Type 0) (Q : A → Type 0) → ((x : A) → P (f x) → Q x) → (xs : List A) → AllByRecursion P (map f xs) → AllByRecursion Q xs
each_unmapped f P Q each [] all = tt
each_unmapped f P Q each (x ∷ xs) all = (each x all.0, each_unmapped f P Q each xs all.1)

all_entries : {A : Type 0} (P : Bytes → Data → Type 0) (of_member : Bytes → Data → A) (p : A → Bool) (ms : Members) → ((k : Bytes) (d : Data) → P k d → p (of_member k d) ≡ true) → EachMember P ms → list_all p (entries of_member ms) ≡ true
all_entries P of_member p no_members each all = refl
all_entries P of_member p (member k d ms) each all = and_from (p (of_member k d)) _ (each k d all.0) (all_entries P of_member p ms each all.1)

fields_named : (ms : Members) → EachMember IsField ms → have_names (entries field_of ms) ≡ true
fields_named ms all = all_entries IsField field_of (λ (f : Bytes × Kind). is_name f.0) ms (λ k d field. field.name) all

-- the names in a block of what was read
record IsNamedRow (b : BlockRow) : Type 0 where
  key : is_name b.key ≡ true
  fields : have_names b.fields ≡ true
  attributes : have_names b.attributes ≡ true
  aliases : list_all (λ (a : Bytes × Bytes). is_name a.1) b.aliases ≡ true
  relations : list_all (λ (r : Relation). is_name r.name) b.relations ≡ true

block_named : (d : Data) → IsBlock d → IsNamedRow (block_of d)
block_named d block = record {
  key = block.key;
  fields = fields_named (members_at (codes "fields") d) block.fields;
  attributes = fields_named (members_at (codes "attributes") d) block.attributes;
  aliases = all_entries IsNamePair alias_of (λ (a : Bytes × Bytes). is_name a.1) (members_at (codes "aliases") d) (λ k d alias. alias.other) block.aliases;
  relations = all_entries IsRelation relation_of (λ (r : Relation). is_name r.name) (members_at (codes "relations") d) (λ k d relation. relation.name) block.relations;
}

row_named : (b : Block) → IsNamedRow (block_row b) → IsNamedBlock b
row_named b row = record { key = row.key; fields = row.fields; attributes = row.attributes; aliases = row.aliases; relations = row.relations }

event_named : (d : Data) → IsEventType d → IsNamedEvent (event_type_of d)
event_named d event = record { key = event.key; fields = fields_named (members_at (codes "fields") d) event.fields }

table_names : (ms : Members) → map (λ (t : Table). t.name) (entries table_of ms) ≡ names ms
table_names no_members = refl
table_names (member k d ms) = ap (λ ks. k ∷ ks) (table_names ms)

document_named : (d : Data) (parts : Parts) → IsOrdered d → IsDocument d → parts_in d ≡ parts_row parts → AreNames parts
document_named d parts ordered document is = record {
  events = subst (λ (p : PartsRow). AllByRecursion IsNamedEvent p.events) is (each_listed IsEventType event_type_of IsNamedEvent (items_at (codes "events") d) event_named document.events);
  profiles = subst (λ (p : PartsRow). list_all (λ (q : ProfileSpec). have_names q.attributes) p.profiles ≡ true) is
      (all_each IsProfile profile_of (λ (q : ProfileSpec). have_names q.attributes) (items_at (codes "profiles") d) (λ x profile. fields_named (members_at (codes "attributes") x) profile.attributes) document.profiles);
  tables = subst (λ (p : PartsRow). list_all (λ (t : Table). is_name t.name) p.tables ≡ true) is
      (all_entries IsNamePair table_of (λ (t : Table). is_name t.name) (members_at (codes "tables") d) (λ k x table. table.name) document.tables);
  rise = subst (λ (p : PartsRow). rises (map (λ (t : Table). t.name) p.tables) ≡ true) is
      (ap rises (table_names (members_at (codes "tables") d)) ∙ members_rise_at (codes "tables") d ordered);
  blocks = each_unmapped block_row IsNamedRow IsNamedBlock row_named parts.blocks
      (subst (λ (p : PartsRow). AllByRecursion IsNamedRow p.blocks) is (each_listed IsBlock block_of IsNamedRow (items_at (codes "blocks") d) block_named document.blocks));
  services = subst (λ (p : PartsRow). list_all (λ (s : Service). is_name s.key) p.services ≡ true) is
      (all_each IsService service_of (λ (s : Service). is_name s.key) (items_at (codes "services") d) (λ x service. service.key) document.services);
}

pub read_names : (bytes : List ℕ) (parts : Parts) → parts_of bytes ≡ Ok (parts_row parts) → AreNames parts
read_names bytes parts is = let read = read_document bytes (parts_row parts) is in document_named read.0 parts read.1 (shaped read.0 read.3) read.2
