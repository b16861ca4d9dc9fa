-- The scripts of a deployment that was read of bytes are texts in UTF-8, so their constants have spellings.
use Rattle.std.proofs.Common.{◌≡◌, [], ◌++◌, map, Option, Some, None, refl, subst, inl, inr, arith}
use Rattle.std.specs.List.{AllByRecursion}
use Rattle.std.specs.Option.{unwrap_or}
use Rattle.std.specs.Ordering.{match_ordering, nat_cmp}
use Rattle.std.specs.Cmp.Lexicographic.{slice_cmp}
use Rattle.std.specs.declared.cmp.Ordering.{Ordering}
use Rattle.std.specs.declared.cmp.Ordering.TheVariants as order
use Rattle.std.specs.Prelude.{Err, Ok, Result, codes, option_and_then, option_map}
use Rattle.std.specs.Str.{IsUtf8, is_utf8}
use Rattle.std.proofs.lemmas.Bool.{cases_Bool}
use Rattle.std.proofs.lemmas.Str.{IsUtf8-append, IsUtf8-from_is_utf8, IsUtf8-nil}
use Rattle.serde_json.specs.Data.{Data, Items, Members, array, boolean, item, member, no_items, no_members, null, number, object, string}
use Rattle.serde_json.specs.Find.{as_array, as_object, get, get_member}
use Rattle.script_tree.specs.Reading.{script_read}
use Rattle.script_tree.specs.Tree.{Bytes, Statements}
use Rattle.script_tree.specs.declared.fault.SyntaxFault.{SyntaxFault}
use Rattle.script_types.specs.Codes.{Block, Handler, Method}
use Rattle.deploy_model.specs.Rules.{Numbering}
use Rattle.deploy_model.specs.Tables.{key_number}
use Rattle.deploy_schema.specs.Names.{members_at, members_or_none}
use Rattle.deploy_schema.specs.Numbers.{items_at, items_or_none}
use Rattle.deploy_schema.specs.Tables.{shape_fault}
use Rattle.deploy_json.specs.Documents.{block_of, handler_of, method_of, parts_in}
use Rattle.deploy_json.specs.Reading.{parts_of, shape_read, syntax_read, unless, value_in, value_parts}
use Rattle.deploy_json.specs.Rows.{BlockRow, PartsRow}
use Rattle.deploy_json.specs.Scripts.{block_in, codes_in_rows, handler_in, method_in, script_in, statements_or_none}
use Rattle.deploy_json.specs.Sources.{first_misread, joined, lines_after, source, source_at}
use Rattle.deploy_json.specs.Values.{entries, listed, text_of}
use Rattle.deploy_json.specs.declared.fault.ReadFault.{ReadFault}
use Rattle.router_laws_read.proofs.JsonTexts.{read_texts}
use Rattle.router_laws_read.specs.Texts.{EachHasTexts, HasTexts, HaveTexts}
use Rattle.router_laws_spelled.proofs.Characters.{ascii_then}
use Rattle.router_laws_spelled.proofs.Texts.{text_written}
use Rattle.router_laws_spelled.specs.Written.{CallbackSpelled, ReadSpelled, StatementsSpelled}

-- what is found in a value

own : (e d : Data) → HasTexts e → Some e ≡ Some d → HasTexts d
own e d all is = let same : e ≡ d = cc in subst HasTexts same all

member_by : (o : Ordering) (d : Data) (below same above : Option Data) → (below ≡ Some d → HasTexts d) → (same ≡ Some d → HasTexts d) → (above ≡ Some d → HasTexts d) → match_ordering o below same above ≡ Some d → HasTexts d
member_by order.Less d below same above one two three is = one is
member_by order.Equal d below same above one two three is = two is
member_by order.Greater d below same above one two three is = three is

member_texts : (k : Bytes) (ms : Members) (d : Data) → EachHasTexts ms → get_member k ms ≡ Some d → HasTexts d
member_texts k no_members d all is = absurd (cc)
member_texts k (member l e ms) d all is = member_by (slice_cmp nat_cmp k l) d (get_member k ms) (Some e) (get_member k ms) (member_texts k ms d all.1) (own e d all.0) (member_texts k ms d all.1) is

get_texts : (k : Bytes) (d e : Data) → HasTexts d → get k d ≡ Some e → HasTexts e
get_texts k null e all is = absurd (cc)
get_texts k (boolean b) e all is = absurd (cc)
get_texts k (number n) e all is = absurd (cc)
get_texts k (string s) e all is = absurd (cc)
get_texts k (array ds) e all is = absurd (cc)
get_texts k (object ms) e all is = member_texts k ms e all is

items_texts : (e : Data) → HasTexts e → HaveTexts (items_or_none (as_array e))
items_texts null all = tt
items_texts (boolean b) all = tt
items_texts (number n) all = tt
items_texts (string s) all = tt
items_texts (array ds) all = all
items_texts (object ms) all = tt

items_at_texts : (name : Bytes) (d : Data) → HasTexts d → HaveTexts (items_at name d)
items_at_texts name d all = by (get name d) refl
  where
    by : (o : Option Data) → get name d ≡ o → HaveTexts (items_or_none (option_and_then as_array o))
    by None is = tt
    by (Some e) is = items_texts e (get_texts name d e all is)

members_texts : (e : Data) → HasTexts e → EachHasTexts (members_or_none (as_object e))
members_texts null all = tt
members_texts (boolean b) all = tt
members_texts (number n) all = tt
members_texts (string s) all = tt
members_texts (array ds) all = tt
members_texts (object ms) all = all

members_at_texts : (name : Bytes) (d : Data) → HasTexts d → EachHasTexts (members_at name d)
members_at_texts name d all = by (get name d) refl
  where
    by : (o : Option Data) → get name d ≡ o → EachHasTexts (members_or_none (option_and_then as_object o))
    by None is = tt
    by (Some e) is = members_texts e (get_texts name d e all is)

-- the text of a script

text_utf8 : (d : Data) → HasTexts d → IsUtf8 (text_of d)
text_utf8 null all = IsUtf8-nil
text_utf8 (boolean b) all = IsUtf8-nil
text_utf8 (number n) all = IsUtf8-nil
text_utf8 (string s) all = all
text_utf8 (array ds) all = IsUtf8-nil
text_utf8 (object ms) all = IsUtf8-nil

lines_utf8 : (ds : Items) → HaveTexts ds → IsUtf8 (lines_after ds)
lines_utf8 no_items all = IsUtf8-nil
lines_utf8 (item d ds) all = ascii_then 10 (text_of d ++ lines_after ds) (omega arith) (IsUtf8-append (text_of d) (lines_after ds) (text_utf8 d all.0) (lines_utf8 ds all.1))

joined_utf8 : (ds : Items) → HaveTexts ds → IsUtf8 (joined ds)
joined_utf8 no_items all = IsUtf8-nil
joined_utf8 (item d ds) all = IsUtf8-append (text_of d) (lines_after ds) (text_utf8 d all.0) (lines_utf8 ds all.1)

source_utf8 : (d : Data) → HasTexts d → IsUtf8 (source d)
source_utf8 null all = IsUtf8-nil
source_utf8 (boolean b) all = IsUtf8-nil
source_utf8 (number n) all = IsUtf8-nil
source_utf8 (string s) all = all
source_utf8 (array ds) all = joined_utf8 ds all
source_utf8 (object ms) all = IsUtf8-nil

source_at_utf8 : (name : Bytes) (d : Data) → HasTexts d → IsUtf8 (source_at name d)
source_at_utf8 name d all = by (get name d) refl
  where
    by : (o : Option Data) → get name d ≡ o → IsUtf8 (unwrap_or (option_map source o) [])
    by None is = IsUtf8-nil
    by (Some e) is = source_utf8 e (get_texts name d e all is)

-- scripts

script_spelled : (text : Bytes) → IsUtf8 text → StatementsSpelled (script_in text)
script_spelled text u = by (script_read text) (text_written text u)
  where
    by : (r : Result Statements SyntaxFault) → ReadSpelled r → StatementsSpelled (statements_or_none r)
    by (Ok script) all = all
    by (Err fault) all = tt

callback_spelled : (name : Bytes) (d : Data) → HasTexts d → CallbackSpelled (option_map script_in (option_map source (get name d)))
callback_spelled name d all = by (get name d) refl
  where
    by : (o : Option Data) → get name d ≡ o → CallbackSpelled (option_map script_in (option_map source o))
    by None is = tt
    by (Some e) is = script_spelled (source e) (source_utf8 e (get_texts name d e all is))

handlers_spelled : (ds : Items) → HaveTexts ds → AllByRecursion (λ (h : Handler). StatementsSpelled h.script) (map handler_in (listed handler_of ds))
handlers_spelled no_items all = tt
handlers_spelled (item d ds) all = (script_spelled (source_at (codes "on") d) (source_at_utf8 (codes "on") d all.0), handlers_spelled ds all.1)

methods_spelled : (ms : Members) → EachHasTexts ms → AllByRecursion (λ (m : Method). StatementsSpelled m.script) (map method_in (entries method_of ms))
methods_spelled no_members all = tt
methods_spelled (member k d ms) all = (script_spelled (source_at (codes "do") d) (source_at_utf8 (codes "do") d all.0), methods_spelled ms all.1)

-- the constants of a block's scripts
abbrev pub ScriptsSpelled : Block → Type 0
ScriptsSpelled block =
    AllByRecursion (λ (h : Handler). StatementsSpelled h.script) block.handlers × AllByRecursion (λ (m : Method). StatementsSpelled m.script) block.methods × CallbackSpelled block.exception × CallbackSpelled block.rolled_back × CallbackSpelled block.remove

blocks_spelled : (numbers : Numbering) (ds : Items) → HaveTexts ds → AllByRecursion ScriptsSpelled (map (block_in numbers) (listed block_of ds))
blocks_spelled numbers no_items all = tt
blocks_spelled numbers (item d ds) all = (
  (
    handlers_spelled (items_at (codes "events") d) (items_at_texts (codes "events") d all.0),
    methods_spelled (members_at (codes "methods") d) (members_at_texts (codes "methods") d all.0),
    callback_spelled (codes "exception") d all.0,
    callback_spelled (codes "rolled_back") d all.0,
    callback_spelled (codes "remove") d all.0,
  ),
  blocks_spelled numbers ds all.1,
)

-- the document that bytes are

unless_ok : {A : Type 0} (o : Option ReadFault) (r : Result A ReadFault) (x : A) → unless o r ≡ Ok x → r ≡ Ok x
unless_ok None r x is = is
unless_ok (Some fault) r x is = absurd (cc)

value_texts : (bytes : Bytes) (d : Data) → value_in bytes ≡ Some d → HasTexts d
value_texts bytes d is = elim (cases_Bool (is_utf8 bytes)) [
  | inl good ↦ read_texts bytes d (IsUtf8-from_is_utf8 bytes good) (rw good at is)
  | inr bad ↦ (let none : None ≡ Some d = rw bad at is in absurd (cc))
]

document_texts : (bytes : Bytes) (p : PartsRow) → parts_of bytes ≡ Ok p → (d : Data) × HasTexts d × (parts_in d ≡ p)
document_texts bytes p is = by (value_in bytes) refl is
  where
    same : (x : PartsRow) → (let r : Result PartsRow ReadFault = Ok x in r) ≡ Ok p → x ≡ p
    same x is = cc

    by : (o : Option Data) → value_in bytes ≡ o → value_parts o ≡ Ok p → (d : Data) × HasTexts d × (parts_in d ≡ p)
    by None found is = absurd (cc)
    by (Some d) found is =
        let rest : Result PartsRow ReadFault = unless (option_map syntax_read (first_misread d)) (Ok (parts_in d)) in
        let behind = unless_ok (option_map shape_read (shape_fault d)) rest p is in
        (d, value_texts bytes d found, same (parts_in d) (unless_ok (option_map syntax_read (first_misread d)) (Ok (parts_in d)) p behind))

-- the constants of all scripts that were read have spellings
pub scripts_spelled : (bytes : Bytes) (p : PartsRow) → parts_of bytes ≡ Ok p → AllByRecursion ScriptsSpelled (codes_in_rows p).blocks
scripts_spelled bytes p is =
    let read = document_texts bytes p is in
    subst (λ (q : PartsRow). AllByRecursion ScriptsSpelled (codes_in_rows q).blocks) read.2 (blocks_spelled (key_number (λ (b : BlockRow). b.key) (parts_in read.0).blocks) (items_at (codes "blocks") read.0) (items_at_texts (codes "blocks") read.0 read.1))
