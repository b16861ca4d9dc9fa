-- The priorities that relations give to new children lie in their range.
use Rattle.std.proofs.Common.{◌≡◌, ℕ, zero, suc, Bool, true, List, [], ◌∷◌, map, Some, refl, ap, subst}
use Rattle.std.specs.Prelude.{Ok, codes, option_and_then, slice_get}
use Rattle.std.specs.List.{list_all}
use Rattle.std.specs.Str.{bytes_eq}
use Rattle.std.proofs.lemmas.Bool.{and_from, and_parts}
use Rattle.serde_json.specs.Data.{Data, Members, no_members, member}
use Rattle.script_types.specs.Codes.{named}
use Rattle.script_types.specs.declared.codes.RelationCode.{RelationCode}
use Rattle.deploy_model.specs.Deployed.{DeployedBlock, relation_of}
use Rattle.deploy_model.specs.Resolving as resolving
use Rattle.deploy_model.specs.Resolving.{deployed_of}
use Rattle.deploy_model.specs.Rules.{Numbering}
use Rattle.deploy_model.specs.Tables.{key_number}
use Rattle.deploy_model.specs.declared.parts.Block.{Block}
use Rattle.deploy_model.specs.declared.parts.Parts.{Parts}
use Rattle.deploy_model.specs.declared.parts.Relation.{Relation}
use Rattle.deploy_schema.specs.Names.{members_at}
use Rattle.deploy_schema.specs.Numbers.{items_at}
use Rattle.deploy_json.proofs.Shaped.{shaped}
use Rattle.deploy_json.specs.Documents.{block_of}
use Rattle.deploy_json.specs.Reading.{parts_of}
use Rattle.deploy_json.specs.Rows.{BlockRow, PartsRow, block_row, parts_row}
use Rattle.deploy_json.specs.Shapes.{EachMember, IsBlock, IsRelation}
use Rattle.deploy_json.specs.Values.{entries}
use Rattle.deploy_json.specs.Values as values
use Rattle.router_laws_deployed.proofs.Declared.{all_mapped, all_unmapped, read_document}
use Rattle.router_laws_deployed.proofs.WholeDeployments.{all_each, written_fits}
use Rattle.router_laws_sound.proofs.SoundBase.{found_passes}
use Rattle.router_state.specs.Fits.{is_priority}

all_entries : {A : Type 0} (P : List ℕ → Data → Type 0) (of_member : List ℕ → Data → A) (p : A → Bool) (ms : Members) → ((k : List ℕ) (d : Data) → P k d → p (of_member k d) ≡ true) → EachMember P ms → list_all p (entries of_member ms) ≡ true
all_entries P of_member p no_members each all = refl
all_entries P of_member p (member k d ms) each all = and_from (p (of_member k d)) _ (each k d all.0) (all_entries P of_member p ms each all.1)

-- the priorities of a list of relations lie in their range
abbrev are_ranks : List Relation → Bool
are_ranks relations = list_all (λ (r : Relation). is_priority r.priority) relations

relation_by : (blocks : Numbering) (rows : List Block) (n : ℕ) (name : List ℕ) (r : RelationCode) → list_all (λ (b : Block). are_ranks b.relations) rows ≡ true
    → option_and_then (λ (b : DeployedBlock). named (λ (x : RelationCode). x.name) name b.relations) (slice_get (map (resolving.block_of blocks) rows) n) ≡ Some r → is_priority r.priority ≡ true
relation_by blocks [] n name r all found = absurd (cc)
relation_by blocks (b ∷ rows) zero name r all found =
    (found_passes (λ (x : RelationCode). is_priority x.priority) (λ (x : RelationCode). bytes_eq x.name name) (map (resolving.relation_of blocks) b.relations) r found
    (all_mapped (resolving.relation_of blocks) (λ (x : Relation). is_priority x.priority) (λ (x : RelationCode). is_priority x.priority) (λ x is. is) b.relations (and_parts (are_ranks b.relations) (list_all (λ (b : Block). are_ranks b.relations) rows) all).0)).0
relation_by blocks (b ∷ rows) (suc n) name r all found = relation_by blocks rows n name r (and_parts (are_ranks b.relations) (list_all (λ (b : Block). are_ranks b.relations) rows) all).1 found

pub relation_ranks : (bytes : List ℕ) (parts : Parts) → parts_of bytes ≡ Ok (parts_row parts) → (n : ℕ) (name : List ℕ) (r : RelationCode) → relation_of (deployed_of parts) n name ≡ Some r → is_priority r.priority ≡ true
relation_ranks bytes parts is n name r found =
    let read = read_document bytes (parts_row parts) is in
    let document = shaped read.0 read.3 in
    let rows : list_all (λ (b : BlockRow). are_ranks b.relations) (map block_row parts.blocks) ≡ true =
    subst (λ bs. list_all (λ (b : BlockRow). are_ranks b.relations) bs ≡ true) (ap (λ (p : PartsRow). p.blocks) read.2) (all_each IsBlock block_of (λ (b : BlockRow). are_ranks b.relations) (items_at (codes "blocks") read.0)
    (λ d block. all_entries IsRelation values.relation_of (λ (x : Relation). is_priority x.priority) (members_at (codes "relations") d) (λ k e x. written_fits (values.relation_of k e).priority x.priority) block.relations) document.blocks) in
    relation_by (key_number (λ (b : Block). b.key) parts.blocks) parts.blocks n name r (all_unmapped block_row (λ (b : BlockRow). are_ranks b.relations) parts.blocks rows) found
