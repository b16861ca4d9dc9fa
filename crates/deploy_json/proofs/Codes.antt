-- What scripts may name is the same by parts and by their rows: each script is the one that its text is.
use Rattle.std.proofs.Common.{◌≡◌, ℕ, List, [], ◌∷◌, ◌++◌, Option, Some, None, refl, sym, ap, ◌∙◌, map}
use Rattle.std.specs.Prelude.{bytes_eq, flat_map, option_map}
use Rattle.script_tree.specs.declared.script.Script.{Script}
use Rattle.script_tree.specs.Script.{tree_of_script}
use Rattle.script_tree.specs.Tree.{Bytes, Statements}
use Rattle.script_print.proofs.Texts.{text_again}
use Rattle.script_types.specs.declared.codes.RelationCode.{RelationCode}
use Rattle.script_types.specs.declared.codes.AttributeCode.{AttributeCode}
use Rattle.script_types.specs.declared.codes.FieldCode.{FieldCode}
use Rattle.script_types.specs.declared.codes.EventCode.{EventCode}
use Rattle.script_types.specs.Codes.{Handler, Method, Block, Codes}
use Rattle.script_types.specs.CodesOf.{handler_of_code, method_of_code, block_of_code, codes_of}
use Rattle.deploy_model.specs.declared.parts.Relation.{Relation}
use Rattle.deploy_model.specs.declared.parts.Block.{Block as BlockPart}
use Rattle.deploy_model.specs.declared.parts.Parts.{Parts}
use Rattle.deploy_model.specs.Resolving.{relation_of, field_of, attribute_of}
use Rattle.deploy_model.specs.Rules.{Numbering}
use Rattle.deploy_model.specs.Tables.{key_number}
use Rattle.slee_descriptor.specs.CodesOfParts.{handler_code, method_code, block_code, block_names, table_names, names_in, codes_in}
use Rattle.deploy_json.specs.Rows.{handler_row, method_row, block_row, parts_row}
use Rattle.deploy_json.proofs.LookUps.{position_mapped}
use Rattle.deploy_json.specs.Scripts.{statements_or_none, bare_block, script_in, handler_in, method_in, block_in, codes_in_rows}

script_same : (s : Script) → tree_of_script s ≡ script_in s.text
script_same s = sym (ap statements_or_none (text_again s.text (tree_of_script s) s.written.whole s.written.spelled))

callback_same : (o : Option Script) → option_map tree_of_script o ≡ option_map script_in (option_map (λ (s : Script). s.text) o)
callback_same None = refl
callback_same (Some s) = ap (λ (x : Statements). Some x) (script_same s)

-- two ways from the items of one list
mapped_same : {A B C D : Type 0} (g : A → B) (f : B → D) (k : A → C) (h : C → D) → ((x : A) → f (g x) ≡ h (k x)) → (xs : List A) → map f (map g xs) ≡ map h (map k xs)
mapped_same g f k h same [] = refl
mapped_same g f k h same (x ∷ xs) = ap (λ y. y ∷ map f (map g xs)) (same x) ∙ ap (λ l. h (k x) ∷ l) (mapped_same g f k h same xs)

relations_same : (ours theirs : Numbering) → ((q : Bytes) → ours q ≡ theirs q) → (rs : List Relation) → map (relation_of ours) rs ≡ map (relation_of theirs) rs
relations_same ours theirs same [] = refl
relations_same ours theirs same (r ∷ rs) =
    let with : Option ℕ → RelationCode = λ o. relation_of (λ q. o) r in
    ap (λ o. with o ∷ map (relation_of ours) rs) (same r.block) ∙ ap (λ l. relation_of theirs r ∷ l) (relations_same ours theirs same rs)

block_same : (ours theirs : Numbering) → ((q : Bytes) → ours q ≡ theirs q) → (b : BlockPart) → block_of_code (block_code ours b) ≡ block_in theirs (block_row b)
block_same ours theirs same b =
    let with : List RelationCode → List Handler → List Method → Option Statements → Option Statements → Option Statements → Block = λ r h m e o v. record {
      key = b.key;
      fields = map field_of b.fields;
      attributes = map (attribute_of b) b.attributes;
      relations = r;
      handlers = h;
      methods = m;
      exception = e;
      rolled_back = o;
      remove = v;
    } in
    let hs : List Handler = map handler_in (map handler_row b.events) in
    let ms : List Method = map method_in (map method_row b.methods) in
    let rs : List RelationCode = map (relation_of theirs) b.relations in
    let e : Option Statements = option_map tree_of_script b.exception in
    let o : Option Statements = option_map tree_of_script b.rolled_back in
    let v : Option Statements = option_map tree_of_script b.remove in
    let ee : Option Statements = option_map script_in (option_map (λ (s : Script). s.text) b.exception) in
    let oo : Option Statements = option_map script_in (option_map (λ (s : Script). s.text) b.rolled_back) in
    ap (λ x. with x (map handler_of_code (map handler_code b.events)) (map method_of_code (map method_code b.methods)) e o v) (relations_same ours theirs same b.relations)
    ∙ ap (λ x. with rs x (map method_of_code (map method_code b.methods)) e o v) (mapped_same handler_code handler_of_code handler_row handler_in (λ h. ap (λ (t : Statements). let z : Handler = record { event = h.event; mask = h.mask; script = t } in z) (script_same h.on)) b.events)
    ∙ ap (λ x. with rs hs x e o v) (mapped_same method_code method_of_code method_row method_in (λ m. ap (λ (t : Statements). let z : Method = record { name = m.name; parameters = map field_of m.params; result = m.returns; script = t } in z) (script_same m.body)) b.methods)
    ∙ ap (λ x. with rs hs ms x o v) (callback_same b.exception)
    ∙ ap (λ x. with rs hs ms ee x v) (callback_same b.rolled_back)
    ∙ ap (λ x. with rs hs ms ee oo x) (callback_same b.remove)

relation_names_same : (ours theirs : Numbering) (rs : List Relation) → map (λ (r : RelationCode). r.name) (map (relation_of ours) rs) ≡ map (λ (r : RelationCode). r.name) (map (relation_of theirs) rs)
relation_names_same ours theirs [] = refl
relation_names_same ours theirs (r ∷ rs) = ap (λ (l : List Bytes). r.name ∷ l) (relation_names_same ours theirs rs)

-- no name is a script's, nor says a number of a block
block_names_same : (ours theirs : Numbering) (b : BlockPart) → block_names (block_code ours b) ≡ block_names (block_code theirs (bare_block (block_row b)))
block_names_same ours theirs b =
    let fields : List Bytes = map (λ (f : FieldCode). f.name) (map field_of b.fields) in
    let keys : List Bytes = map (λ (a : AttributeCode). a.key) (map (attribute_of b) b.attributes) in
    ap (λ (l : List Bytes). fields ++ l ++ keys) (relation_names_same ours theirs b.relations)

names_same : (ours theirs : Numbering) (bs : List BlockPart) → flat_map block_names (map (block_code ours) bs) ≡ flat_map block_names (map (block_code theirs) (map bare_block (map block_row bs)))
names_same ours theirs [] = refl
names_same ours theirs (b ∷ bs) =
    ap (λ (l : List Bytes). l ++ flat_map block_names (map (block_code ours) bs)) (block_names_same ours theirs b)
    ∙ ap (λ (l : List Bytes). block_names (block_code theirs (bare_block (block_row b))) ++ l) (names_same ours theirs bs)

pub codes_same : (p : Parts) → codes_of (codes_in p []) ≡ codes_in_rows (parts_row p)
codes_same p =
    let rows = parts_row p in
    let ours : Numbering = key_number (λ (b : BlockPart). b.key) p.blocks in
    let theirs : Numbering = key_number (λ b. b.key) rows.blocks in
    let bare : Numbering = key_number (λ (b : BlockPart). b.key) (map bare_block rows.blocks) in
    let all = codes_in p [] in
    let with : List Bytes → List Block → Codes = λ ns bs. record (codes_of all) { names = ns ++ flat_map table_names all.tables ++ map (λ (e : EventCode). e.name) all.events ++ names_in [] [] []; blocks = bs } in
    ap (λ ns. with ns (map block_of_code all.blocks)) (names_same ours bare p.blocks)
    ∙ ap (with (flat_map block_names (map (block_code bare) (map bare_block rows.blocks)))) (mapped_same (block_code ours) block_of_code block_row (block_in theirs) (block_same ours theirs (λ q. position_mapped block_row (λ r. bytes_eq q r.key) 0 p.blocks)) p.blocks)
