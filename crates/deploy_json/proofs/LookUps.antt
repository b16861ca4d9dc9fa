-- What is looked up in parts is what is looked up in their document.
use Rattle.std.proofs.Common.{Ordering, Less, Equal, Greater, ◌≡◌, ℕ, zero, suc, ◌+◌, List, [], ◌∷◌, Bool, true, false, Option, Some, None, refl, sym, ap, ◌∙◌, subst, IsTrue, is_some, cond, map}
use Rattle.std.proofs.lemmas.Map.Text.{is_eq-slice_cmp}
use Rattle.std.specs.Prelude.{codes, bytes_eq, option_and_then, slice_get, if◌then◌else◌}
use Rattle.std.specs.List.{position_from}
use Rattle.std.specs.Option.{unwrap_or}
use Rattle.std.specs.Ordering.{nat_cmp, is_eq, match_ordering}
use Rattle.std.specs.Cmp.Lexicographic.{slice_cmp}
use Rattle.serde_json.specs.Data.{Data, null, boolean, number, string, array, object, Items, no_items, item, Members, no_members, member}
use Rattle.serde_json.specs.Find.{get, get_member, get_item, as_str, as_object}
use Rattle.slee_value.specs.declared.kind.Kind.{Kind}
use Rattle.slee_value.specs.declared.kind.Kind.TheVariants as kinds
use Rattle.slee_value.specs.declared.component.ComponentId.{ComponentId}
use Rattle.script_tree.specs.Tree.{Bytes}
use Rattle.deploy_model.specs.declared.parts.EventType.{EventType}
use Rattle.deploy_model.specs.declared.parts.Block.{Block}
use Rattle.deploy_model.specs.Rules.{or_later, is_same_id}
use Rattle.deploy_model.specs.Tables as p
use Rattle.deploy_schema.specs.Texts.{kind_of_word}
use Rattle.deploy_schema.specs.Numbers.{member_text, where_named, numbers_from}
use Rattle.deploy_schema.specs.Ids.{text_at, id_of, ids_from}
use Rattle.deploy_schema.specs.Names as t
use Rattle.deploy_json.specs.Rows.{BlockRow, block_row}
use Rattle.deploy_json.specs.Documents.{block_of}
use Rattle.deploy_json.specs.Values.{listed, entries, text_of, kind_of, field_of, fields_at, alias_of, event_type_of}
use Rattle.deploy_json.specs.Shapes.{EachItem, EachMember, IsName, IsKind, IsField, IsNamePair, IsBlock, IsEventType}
use Rattle.deploy_json.proofs.Walks.{first_same, rest_same}

-- a text that is a name is there
pub text_there : (o : Option Bytes) → IsName (unwrap_or o []) → o ≡ Some (unwrap_or o [])
text_there None h = cc
text_there (Some s) h = refl

-- the object has a text at this member
abbrev pub HasText : Bytes → Data → Type 0
HasText name d = member_text name d ≡ Some (text_at name d)

pub each_item : {P Q : Data → Type 0} → ((d : Data) → P d → Q d) → (ds : Items) → EachItem P ds → EachItem Q ds
each_item of no_items each = tt
each_item of (item d ds) each = (of d each.0, each_item of ds each.1)

-- numbers of keys
first_of : (b : Bool) (n : ℕ) (later other : Option ℕ) → later ≡ other → cond b (Some n) later ≡ or_later (if b then Some n else None) other
first_of true n later other e = refl
first_of false n later other e = e

listed_number : {R : Type 0} (name : Bytes) (key : R → Bytes) (of : Data → R) → ((d : Data) → key (of d) ≡ text_at name d) → (n : ℕ) (ds : Items) → EachItem (HasText name) ds → (q : Bytes) → position_from (λ x. bytes_eq q (key x)) n (listed of ds) ≡ numbers_from name n ds q
listed_number name key of same n no_items each q = refl
listed_number name key of same n (item d ds) each q =
    let later : Option ℕ = position_from (λ x. bytes_eq q (key x)) (n + 1) (listed of ds) in
    let other : Option ℕ = numbers_from name (n + 1) ds q in
    let P : Option Bytes → Type 0 = λ o. cond (bytes_eq q (key (of d))) (Some n) later ≡ or_later (where_named n o q) other in
    let Q : Bytes → Type 0 = λ s. cond (bytes_eq q s) (Some n) later ≡ or_later (if bytes_eq q (text_at name d) then Some n else None) other in
    subst P (sym each.0) (subst Q (sym (same d)) (first_of (bytes_eq q (text_at name d)) n later other (listed_number name key of same (n + 1) ds each.1 q)))

pub position_mapped : {A R : Type 0} (row : A → R) (test : R → Bool) (n : ℕ) (xs : List A) → position_from (λ x. test (row x)) n xs ≡ position_from test n (map row xs)
position_mapped row test n [] = refl
position_mapped row test n (x ∷ xs) = ap (λ o. cond (test (row x)) (Some n) o) (position_mapped row test (n + 1) xs)

pub same_numbers : {A R : Type 0} (row : A → R) (name : Bytes) (key : R → Bytes) (of : Data → R) → ((d : Data) → key (of d) ≡ text_at name d) → (xs : List A) (ds : Items) → map row xs ≡ listed of ds → EachItem (HasText name) ds → (q : Bytes) → position_from (λ x. bytes_eq q (key (row x))) 0 xs ≡ numbers_from name 0 ds q
same_numbers row name key of same xs ds e each q =
    position_mapped row (λ r. bytes_eq q (key r)) 0 xs
    ∙ ap (λ l. position_from (λ r. bytes_eq q (key r)) 0 l) e
    ∙ listed_number name key of same 0 ds each q

-- numbers of components
listed_id : {R : Type 0} (id : R → ComponentId) (of : Data → R) → ((d : Data) → id (of d) ≡ id_of d) → (n : ℕ) (ds : Items) → (q : ComponentId) → position_from (λ x. is_same_id q (id x)) n (listed of ds) ≡ ids_from n ds q
listed_id id of same n no_items q = refl
listed_id id of same n (item d ds) q =
    let later : Option ℕ = position_from (λ x. is_same_id q (id x)) (n + 1) (listed of ds) in
    let other : Option ℕ = ids_from (n + 1) ds q in
    let Q : ComponentId → Type 0 = λ i. cond (is_same_id q i) (Some n) later ≡ or_later (if is_same_id q (id_of d) then Some n else None) other in
    subst Q (sym (same d)) (first_of (is_same_id q (id_of d)) n later other (listed_id id of same (n + 1) ds q))

pub same_ids : {A R : Type 0} (row : A → R) (id : R → ComponentId) (of : Data → R) → ((d : Data) → id (of d) ≡ id_of d) → (xs : List A) (ds : Items) → map row xs ≡ listed of ds → (q : ComponentId) → position_from (λ x. is_same_id q (id (row x))) 0 xs ≡ ids_from 0 ds q
same_ids row id of same xs ds e q =
    position_mapped row (λ r. is_same_id q (id r)) 0 xs
    ∙ ap (λ l. position_from (λ r. is_same_id q (id r)) 0 l) e
    ∙ listed_id id of same 0 ds q

-- types
word_kind : (o : Option Kind) → IsTrue (is_some o) → Some (unwrap_or o kinds.Int) ≡ o
word_kind None h = cc
word_kind (Some kind) h = refl

text_kind : (o : Option Bytes) → IsKind (unwrap_or o []) → Some (kind_of (unwrap_or o [])) ≡ option_and_then kind_of_word o
text_kind None h = cc
text_kind (Some s) h = word_kind (kind_of_word s) h

found_kind : (o : Ordering) (b : Bool) (later : Option Kind) (rest : Option Data) (d : Data) → is_eq o ≡ b → Some (kind_of (text_of d)) ≡ option_and_then kind_of_word (as_str d) → later ≡ option_and_then kind_of_word (option_and_then as_str rest) → (if b then Some (kind_of (text_of d)) else later) ≡ option_and_then kind_of_word (option_and_then as_str (match_ordering o rest (Some d) rest))
found_kind Less true later rest d q same e = cc
found_kind Less false later rest d q same e = e
found_kind Equal true later rest d q same e = same
found_kind Equal false later rest d q same e = cc
found_kind Greater true later rest d q same e = cc
found_kind Greater false later rest d q same e = e

kind_of_member : (s : Bytes) (ms : Members) → EachMember IsField ms → p.kind_of (entries field_of ms) s ≡ option_and_then kind_of_word (option_and_then as_str (get_member s ms))
kind_of_member s no_members each = refl
kind_of_member s (member k d ms) each =
    found_kind (slice_cmp nat_cmp s k) (bytes_eq s k) (p.kind_of (entries field_of ms) s) (get_member s ms) d (is_eq-slice_cmp s k) (text_kind (as_str d) each.0.kind) (kind_of_member s ms each.1)

kind_of_value : (s : Bytes) (v : Option Data) → EachMember IsField (t.members_or_none (option_and_then as_object v)) → p.kind_of (entries field_of (t.members_or_none (option_and_then as_object v))) s ≡ option_and_then (t.kind_in s) v
kind_of_value s None each = refl
kind_of_value s (Some null) each = refl
kind_of_value s (Some (boolean b)) each = refl
kind_of_value s (Some (number n)) each = refl
kind_of_value s (Some (string x)) each = refl
kind_of_value s (Some (array ds)) each = refl
kind_of_value s (Some (object ms)) each = kind_of_member s ms each

pub same_kind : (name : Bytes) (d : Data) → EachMember IsField (t.members_at name d) → (s : Bytes) → p.kind_of (fields_at name d) s ≡ t.kind_at name d s
same_kind name d each s = kind_of_value s (get name d) each

-- fields of events
field_at : (types : Items) (n : ℕ) (s : Bytes) → EachItem IsEventType types → option_and_then (λ (e : EventType). p.kind_of e.fields s) (slice_get (listed event_type_of types) n) ≡ option_and_then (λ d. t.kind_at (codes "fields") d s) (get_item n types)
field_at no_items n s each = refl
field_at (item d ds) zero s each = same_kind (codes "fields") d each.0.fields s
field_at (item d ds) (suc n) s each = field_at ds n s each.1

pub same_field : (types : Items) (o : Option ℕ) (event s : Bytes) → EachItem IsEventType types → p.field_in (listed event_type_of types) o event s ≡ t.field_in types o event s
same_field types None event s each = refl
same_field types (Some n) event s each = field_at types n s each

-- aliases
same_alias : (kind other : Bytes → Option Kind) → ((s : Bytes) → kind s ≡ other s) → (ms : Members) → EachMember IsNamePair ms → (q : Bytes) → p.alias_in kind (entries alias_of ms) q ≡ t.alias_in other ms q
same_alias kind other same no_members each q = refl
same_alias kind other same (member k d ms) each q =
    let first : Option Kind = p.aliased (other k) (text_of d) q in
    let P : Option Kind → Type 0 = λ o. or_later (p.aliased o (text_of d) q) (p.alias_in kind (entries alias_of ms) q) ≡ or_later (t.aliased_by (other k) (as_str d) q) (t.alias_in other ms q) in
    let Q : Option Bytes → Type 0 = λ o. or_later first (p.alias_in kind (entries alias_of ms) q) ≡ or_later (t.aliased_by (other k) o q) (t.alias_in other ms q) in
    subst P (sym (same k)) (subst Q (sym (text_there (as_str d) each.0.other)) (ap (λ o. or_later first o) (same_alias kind other same ms each.1 q)))

pub block_kind : (b : Block) (d : Data) → block_row b ≡ block_of d → IsBlock d → (s : Bytes) → p.kind_of b.attributes s ≡ t.attribute_kind d s
block_kind b d e fits s = ap (λ (r : BlockRow). p.kind_of r.attributes s) e ∙ same_kind (codes "attributes") d fits.attributes s

block_alias : (b : Block) (d : Data) → block_row b ≡ block_of d → IsBlock d → (q : Bytes) → p.alias_in (p.kind_of b.attributes) b.aliases q ≡ t.alias_in (t.attribute_kind d) (t.members_at (codes "aliases") d) q
block_alias b d e fits q =
    ap (λ (r : BlockRow). p.alias_in (p.kind_of r.attributes) r.aliases q) e
    ∙ same_alias (p.kind_of (fields_at (codes "attributes") d)) (t.attribute_kind d) (same_kind (codes "attributes") d fits.attributes) (t.members_at (codes "aliases") d) fits.aliases q

pub same_aliases : (bs : List Block) (ds : Items) → map block_row bs ≡ listed block_of ds → EachItem IsBlock ds → (q : Bytes) → p.alias_kind bs q ≡ t.alias_kind ds q
same_aliases [] no_items e each q = refl
same_aliases [] (item d ds) e each q = cc
same_aliases (b ∷ bs) no_items e each q = cc
same_aliases (b ∷ bs) (item d ds) e each q =
    let first : block_row b ≡ block_of d = first_same (block_row b) (block_of d) (map block_row bs) (listed block_of ds) e in
    let rest : map block_row bs ≡ listed block_of ds = rest_same (block_row b) (block_of d) (map block_row bs) (listed block_of ds) e in
    let one : Option Kind = t.alias_in (t.attribute_kind d) (t.members_at (codes "aliases") d) q in
    ap (λ o. or_later o (p.alias_kind bs q)) (block_alias b d first each.0 q)
    ∙ ap (λ o. or_later one o) (same_aliases bs ds rest each.1 q)
