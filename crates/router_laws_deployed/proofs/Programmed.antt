-- A deployment that was read has the program of its own scripts: what they may name is declared as the deployment has it.
use Rattle.std.proofs.Common.{◌≡◌, ℕ, zero, suc, ◌+◌, ◌&&◌, Bool, true, false, inl, inr, List, [], ◌∷◌, length, map, Option, Some, None, refl, sym, ap, ◌∙◌, subst}
use Rattle.std.specs.Prelude.{Ok, codes, is_some, option_and_then, slice_get}
use Rattle.std.specs.List.{list_all, list_any, position_from}
use Rattle.std.specs.Option.{option_map_or}
use Rattle.std.specs.Str.{bytes_eq}
use Rattle.std.proofs.lemmas.Bool.{and_from, and_parts, cases_Bool, false≢true}
use Rattle.std.proofs.lemmas.Iterator.Adapters.{position_from-zero}
use Rattle.std.proofs.lemmas.Slice.Eq.{bytes_eq-Decides}
use Rattle.serde_json.specs.Data.{Data, Members, no_members, member}
use Rattle.slee_value.specs.Name.{is_name}
use Rattle.slee_value.specs.Order.{rises}
use Rattle.script_tree.specs.Tree.{Bytes}
use Rattle.script_types.specs.Codes.{Block as BlockCodes, named}
use Rattle.script_types.specs.CodesOf.{block_of_code, codes_of}
use Rattle.script_types.specs.ProgramOf.{kept_program}
use Rattle.script_types.specs.Programs.{program_of}
use Rattle.script_types.specs.declared.codes.EventCode.{EventCode}
use Rattle.script_types.specs.declared.codes.FieldCode.{FieldCode}
use Rattle.script_types.specs.declared.codes.RelationCode.{RelationCode}
use Rattle.deploy_json.proofs.Codes.{codes_same}
use Rattle.deploy_json.proofs.NoFault.{sound}
use Rattle.deploy_json.proofs.Shaped.{shaped}
use Rattle.deploy_json.specs.Checking.{read_as, reading_of}
use Rattle.deploy_json.specs.Documents.{block_of}
use Rattle.deploy_json.specs.Reading.{parts_of}
use Rattle.deploy_json.specs.Rows.{BlockRow, PartsRow, block_row, parts_row}
use Rattle.deploy_json.specs.Shapes.{EachMember, IsBlock, IsNamePair}
use Rattle.deploy_json.specs.Values.{alias_of, entries}
use Rattle.deploy_model.specs.Deployed.{DeployedBlock, DeployedService}
use Rattle.deploy_model.specs.Resolving as resolving
use Rattle.deploy_model.specs.Resolving.{deployed_of}
use Rattle.deploy_model.specs.Rules.{Numbering}
use Rattle.deploy_model.specs.Tables.{key_number, parts_fault}
use Rattle.deploy_model.specs.declared.parts.Block.{Block}
use Rattle.deploy_model.specs.declared.parts.Parts.{Parts}
use Rattle.deploy_model.specs.declared.parts.Service.{Service}
use Rattle.deploy_schema.specs.Names.{members_at}
use Rattle.deploy_schema.specs.Numbers.{items_at}
use Rattle.slee_descriptor.specs.CodesOfParts.{block_code, codes_in}
use Rattle.slee_descriptor.specs.declared.deployment.Deployment.{Deployment}
use Rattle.router_laws_deployed.proofs.AttributeKeys.{attribute_kinds, has_names}
use Rattle.router_laws_deployed.proofs.Declared.{all_unmapped, declared_rise, read_document}
use Rattle.router_laws_deployed.proofs.Ranks.{relation_ranks}
use Rattle.router_laws_deployed.proofs.Readings.{reading_parts, reading_program}
use Rattle.router_laws_deployed.proofs.WholeDeployments.{all_each}
use Rattle.router_laws_sound.proofs.SoundBase.{found_passes}
use Rattle.router_laws_suiting.specs.Declared.{Declares, IsProgrammed}

some_same : {A : Type 0} {x y : A} → Some x ≡ Some y → x ≡ y
some_same same = cc

nth_mapped : {A B C : Type 0} (f : A → B) (g : B → C) (xs : List A) (n : ℕ) (y : C) → slice_get (map g (map f xs)) n ≡ Some y → (x : A) × (slice_get xs n ≡ Some x) × (g (f x) ≡ y)
nth_mapped f g [] n y is = absurd (cc)
nth_mapped f g (x ∷ xs) zero y is = (x, refl, some_same is)
nth_mapped f g (x ∷ xs) (suc n) y is = nth_mapped f g xs n y is

nth_of : {A B : Type 0} (f : A → B) (xs : List A) (n : ℕ) (x : A) → slice_get xs n ≡ Some x → slice_get (map f xs) n ≡ Some (f x)
nth_of f [] n x is = absurd (cc)
nth_of f (y ∷ ys) zero x is = ap (λ z. Some (f z)) (some_same is)
nth_of f (y ∷ ys) (suc n) x is = nth_of f ys n x is

same_length : {A B C : Type 0} (f : A → B) (g : A → C) (xs : List A) → length (map f xs) ≡ length (map g xs)
same_length f g [] = refl
same_length f g (x ∷ xs) = ap suc (same_length f g xs)

-- names of blocks

all_entries : (p : Bytes × Bytes → Bool) (ms : Members) → ((k : Bytes) (d : Data) → IsNamePair k d → p (alias_of k d) ≡ true) → EachMember IsNamePair ms → list_all p (entries alias_of ms) ≡ true
all_entries p no_members each all = refl
all_entries p (member k d ms) each all = and_from (p (alias_of k d)) _ (each k d all.0) (all_entries p ms each all.1)

block_names : (bytes : List ℕ) (p : Parts) → parts_of bytes ≡ Ok (parts_row p) → list_all has_names p.blocks ≡ true
block_names bytes p is =
    let read = read_document bytes (parts_row p) is in
    let document = shaped read.0 read.3 in
    all_unmapped block_row (λ (b : BlockRow). is_name b.key && list_all (λ (a : Bytes × Bytes). is_name a.1) b.aliases) p.blocks
    (subst (λ bs. list_all (λ (b : BlockRow). is_name b.key && list_all (λ (a : Bytes × Bytes). is_name a.1) b.aliases) bs ≡ true) (ap (λ (x : PartsRow). x.blocks) read.2)
    (all_each IsBlock block_of (λ (b : BlockRow). is_name b.key && list_all (λ (a : Bytes × Bytes). is_name a.1) b.aliases) (items_at (codes "blocks") read.0)
    (λ d x. and_from (is_name (block_of d).key) _ x.key (all_entries (λ (a : Bytes × Bytes). is_name a.1) (members_at (codes "aliases") d) (λ k e pair. pair.other) x.aliases)) document.blocks))

-- what the codes of parts declare

service_there : (key : List ℕ) (blocks : Numbering) (n : ℕ) (rows : List Service) → list_any (bytes_eq key) (map (λ (s : Service). s.key) rows) ≡ true → is_some (position_from (λ (s : DeployedService). bytes_eq s.key key) n (map (resolving.service_of blocks) rows)) ≡ true
service_there key blocks n [] there = absurd (false≢true there)
service_there key blocks n (s ∷ rows) there = elim (cases_Bool (bytes_eq s.key key)) [
  | inl mine ↦ rw mine refl
  | inr other ↦ rw other (service_there key blocks (n + 1) rows (rw (apart other) at there))
]
  where
    apart : bytes_eq s.key key ≡ false → bytes_eq key s.key ≡ false
    apart other = elim (cases_Bool (bytes_eq key s.key)) [
      | inl same ↦ absurd (false≢true (sym other ∙ (bytes_eq-Decides s.key key).1 (sym ((bytes_eq-Decides key s.key).0 same))))
      | inr isnt ↦ isnt
    ]

pub programmed : (bytes : List ℕ) (d : Deployment) → reading_of bytes ≡ Ok (read_as d) → IsProgrammed (deployed_of d.parts) (kept_program d.codes)
programmed bytes d is =
    let p : Parts = d.parts in
    let read : parts_of bytes ≡ Ok (parts_row p) = reading_parts bytes d is in
    let document = read_document bytes (parts_row p) read in
    let fine : parts_fault p ≡ None = sound document.0 p document.3 (sym document.2) in
    let names = block_names bytes p read in
    let rise = and_parts (list_all (λ (e : EventCode). rises (map (λ (f : FieldCode). f.name) e.fields)) (deployed_of p).events) _ (declared_rise bytes p read) in
    record {
      codes = codes_of (codes_in p []);
      made = subst (λ all. program_of all ≡ Ok (kept_program d.codes)) (sym (codes_same p)) (reading_program bytes d is);
      blocks = λ n block there. block_declares bytes p read fine names n block there;
      declares = record {
        events = refl;
        services = λ key there. ap is_some (position_from-zero (λ (s : DeployedService). bytes_eq s.key key) (deployed_of p).services) ∙ service_there key (key_number (λ (b : Block). b.key) p.blocks) 0 p.services there;
        rise = λ name event there. (found_passes (λ (e : EventCode). rises (map (λ (f : FieldCode). f.name) e.fields)) (λ (e : EventCode). bytes_eq e.name name) (deployed_of p).events event there rise.0).0;
      };
      tables = same_length _ _ p.tables;
    }
  where
    block_declares : (bytes : List ℕ) (p : Parts) → parts_of bytes ≡ Ok (parts_row p) → parts_fault p ≡ None → list_all has_names p.blocks ≡ true → (n : ℕ) (block : BlockCodes) → slice_get (codes_of (codes_in p [])).blocks n ≡ Some block → Declares (deployed_of p) n block
    block_declares bytes p read fine names n block there =
        let ns : Numbering = key_number (λ (b : Block). b.key) p.blocks in
        let row = nth_mapped (block_code ns) block_of_code p.blocks n block there in
        let place : slice_get (map (resolving.block_of ns) p.blocks) n ≡ Some (resolving.block_of ns row.0) = nth_of (resolving.block_of ns) p.blocks n row.0 row.1 in
        subst (Declares (deployed_of p) n) row.2 (record {
          fields = ap (λ (o : Option DeployedBlock). option_map_or (λ (b : DeployedBlock). b.fields) o []) place;
          relations = λ name. ap (option_and_then (λ (b : DeployedBlock). named (λ (r : RelationCode). r.name) name b.relations)) place;
          ranks = λ name r found. relation_ranks bytes p read n name r (ap (option_and_then (λ (b : DeployedBlock). named (λ (r : RelationCode). r.name) name b.relations)) place ∙ found);
          attributes = λ name x found. attribute_kinds p fine names n row.0 name x row.1 found;
        })
