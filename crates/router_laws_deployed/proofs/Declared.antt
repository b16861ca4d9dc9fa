-- Declared fields rise by their names: those of events and of blocks, and the attributes of profiles.
use Rattle.std.proofs.Common.{◌≡◌, ℕ, zero, suc, Bool, true, List, [], ◌∷◌, map, Option, Some, None, refl, sym, ap, ◌∙◌, subst, inl, inr}
use Rattle.std.specs.Prelude.{◌&&◌, Result, Ok, codes, option_and_then, option_map, slice_get}
use Rattle.std.specs.List.{list_all}
use Rattle.std.specs.Option.{option_map_or}
use Rattle.std.specs.Ordering.{nat_cmp, match_ordering}
use Rattle.std.specs.Cmp.Lexicographic.{slice_cmp}
use Rattle.std.specs.Str.{is_utf8}
use Rattle.std.specs.declared.cmp.Ordering.{Ordering}
use Rattle.std.specs.declared.cmp.Ordering.TheVariants as order
use Rattle.std.proofs.lemmas.Bool.{and_from, and_parts, cases_Bool}
use Rattle.serde_json.specs.Data.{Data, null, boolean, number, string, array, object, Items, no_items, item, Members, no_members, member}
use Rattle.serde_json.specs.Find.{as_array, as_object, get, get_member}
use Rattle.serde_json.specs.Read.{read}
use Rattle.slee_value.specs.Order.{is_below, rises}
use Rattle.slee_value.specs.declared.kind.Kind.{Kind}
use Rattle.rows_sorted.specs.Orders.{rises_by}
use Rattle.script_tree.specs.Tree.{Bytes}
use Rattle.script_types.specs.declared.codes.EventCode.{EventCode}
use Rattle.script_types.specs.declared.codes.FieldCode.{FieldCode}
use Rattle.deploy_model.specs.Deployed.{DeployedBlock, DeployedProfile, block_fields}
use Rattle.deploy_model.specs.Resolving as resolving
use Rattle.deploy_model.specs.Resolving.{deployed_of}
use Rattle.deploy_model.specs.Rules.{Numbering}
use Rattle.deploy_model.specs.Tables.{key_number}
use Rattle.deploy_model.specs.declared.parts.Block.{Block}
use Rattle.deploy_model.specs.declared.parts.EventType.{EventType}
use Rattle.deploy_model.specs.declared.parts.Parts.{Parts}
use Rattle.deploy_model.specs.declared.parts.ProfileSpec.{ProfileSpec}
use Rattle.deploy_schema.specs.Names.{members_at, members_or_none}
use Rattle.deploy_schema.specs.Numbers.{items_at, items_or_none}
use Rattle.deploy_json.specs.Documents.{block_of, parts_in}
use Rattle.deploy_json.specs.Reading.{parts_of, shape_read, syntax_read, unless, value_in, value_parts}
use Rattle.deploy_json.specs.Sources.{first_misread}
use Rattle.deploy_model.specs.Faults.{Fault}
use Rattle.deploy_schema.specs.Tables.{shape_fault}
use Rattle.deploy_json.specs.Rows.{BlockRow, PartsRow, block_row, parts_row}
use Rattle.deploy_json.specs.Values.{entries, event_type_of, field_of, fields_at, listed, profile_of}
use Rattle.deploy_json.specs.declared.fault.ReadFault.{ReadFault}
use Rattle.router_laws_deployed.specs.Ordered.{AreOrdered, EachOrdered, IsOrdered, names}
use Rattle.router_laws_deployed.proofs.Rising.{read_ordered}

-- what is found in an ordered value is ordered

member_by : (o : Ordering) (e d : Data) (below same above : Option Data) → (below ≡ Some d → IsOrdered d) → (same ≡ Some d → IsOrdered d) → (above ≡ Some d → IsOrdered d) → match_ordering o below same above ≡ Some d → IsOrdered d
member_by order.Less e d below same above one two three is = one is
member_by order.Equal e d below same above one two three is = two is
member_by order.Greater e d below same above one two three is = three is

own : (e d : Data) → IsOrdered e → Some e ≡ Some d → IsOrdered d
own e d all is = let same : e ≡ d = cc in subst IsOrdered same all

member_ordered : (k : List ℕ) (ms : Members) (d : Data) → EachOrdered ms → get_member k ms ≡ Some d → IsOrdered d
member_ordered k no_members d all is = absurd (cc)
member_ordered k (member l e ms) d all is =
    member_by (slice_cmp nat_cmp k l) e d (get_member k ms) (Some e) (get_member k ms) (member_ordered k ms d all.1) (own e d all.0) (member_ordered k ms d all.1) is

get_ordered : (k : List ℕ) (d e : Data) → IsOrdered d → get k d ≡ Some e → IsOrdered e
get_ordered k null e all is = absurd (cc)
get_ordered k (boolean b) e all is = absurd (cc)
get_ordered k (number n) e all is = absurd (cc)
get_ordered k (string s) e all is = absurd (cc)
get_ordered k (array ds) e all is = absurd (cc)
get_ordered k (object ms) e all is = member_ordered k ms e all.1 is

members_rise : (e : Data) → IsOrdered e → rises (names (members_or_none (as_object e))) ≡ true
members_rise null all = refl
members_rise (boolean b) all = refl
members_rise (number n) all = refl
members_rise (string s) all = refl
members_rise (array ds) all = refl
members_rise (object ms) all = all.0

pub members_rise_at : (name : Bytes) (d : Data) → IsOrdered d → rises (names (members_at name d)) ≡ true
members_rise_at name d all = by (get name d) refl
  where
    by : (o : Option Data) → get name d ≡ o → rises (names (members_or_none (option_and_then as_object o))) ≡ true
    by None is = refl
    by (Some e) is = members_rise e (get_ordered name d e all is)

items_ordered : (e : Data) → IsOrdered e → AreOrdered (items_or_none (as_array e))
items_ordered null all = tt
items_ordered (boolean b) all = tt
items_ordered (number n) all = tt
items_ordered (string s) all = tt
items_ordered (array ds) all = all
items_ordered (object ms) all = tt

items_ordered_at : (name : Bytes) (d : Data) → IsOrdered d → AreOrdered (items_at name d)
items_ordered_at name d all = by (get name d) refl
  where
    by : (o : Option Data) → get name d ≡ o → AreOrdered (items_or_none (option_and_then as_array o))
    by None is = tt
    by (Some e) is = items_ordered e (get_ordered name d e all is)

-- fields of a document rise

entry_names : (ms : Members) → map (λ (f : Bytes × Kind). f.0) (entries field_of ms) ≡ names ms
entry_names no_members = refl
entry_names (member k d ms) = ap (λ ks. k ∷ ks) (entry_names ms)

-- the names of fields rise
abbrev pub are_rising : List (Bytes × Kind) → Bool
are_rising fields = rises (map (λ (f : Bytes × Kind). f.0) fields)

fields_rise : (name : Bytes) (d : Data) → IsOrdered d → are_rising (fields_at name d) ≡ true
fields_rise name d all = ap rises (entry_names (members_at name d)) ∙ members_rise_at name d all

all_listed : {A : Type 0} (of_item : Data → A) (p : A → Bool) (ds : Items) → ((d : Data) → IsOrdered d → p (of_item d) ≡ true) → AreOrdered ds → list_all p (listed of_item ds) ≡ true
all_listed of_item p no_items each all = refl
all_listed of_item p (item d ds) each all = and_from (p (of_item d)) _ (each d all.0) (all_listed of_item p ds each all.1)

-- what is declared has these names

declared_names : (fields : List (Bytes × Kind)) → map (λ (f : FieldCode). f.name) (map resolving.field_of fields) ≡ map (λ (f : Bytes × Kind). f.0) fields
declared_names [] = refl
declared_names (f ∷ fields) = ap (λ ks. f.0 ∷ ks) (declared_names fields)

pub all_mapped : {A B : Type 0} (f : A → B) (p : A → Bool) (q : B → Bool) → ((x : A) → p x ≡ true → q (f x) ≡ true) → (xs : List A) → list_all p xs ≡ true → list_all q (map f xs) ≡ true
all_mapped f p q follows [] all = refl
all_mapped f p q follows (x ∷ xs) all = let parts = and_parts (p x) (list_all p xs) all in and_from (q (f x)) _ (follows x parts.0) (all_mapped f p q follows xs parts.1)

pub all_unmapped : {A B : Type 0} (f : A → B) (q : B → Bool) (xs : List A) → list_all q (map f xs) ≡ true → list_all (λ x. q (f x)) xs ≡ true
all_unmapped f q [] all = refl
all_unmapped f q (x ∷ xs) all = let parts = and_parts (q (f x)) (list_all q (map f xs)) all in and_from (q (f x)) _ parts.0 (all_unmapped f q xs parts.1)

-- names that rise are rows that rise by their names
rises_rows : (fields : List FieldCode) → rises (map (λ (f : FieldCode). f.name) fields) ≡ rises_by (λ (x y : FieldCode). is_below x.name y.name) fields
rises_rows [] = refl
rises_rows (f ∷ []) = refl
rises_rows (f ∷ g ∷ fields) = ap (λ b. is_below f.name g.name && b) (rises_rows (g ∷ fields))

-- a document that was read

pub unless_ok : {A : Type 0} (o : Option ReadFault) (r : Result A ReadFault) (x : A) → unless o r ≡ Ok x → r ≡ Ok x
unless_ok None r x is = is
unless_ok (Some fault) r x is = absurd (cc)

pub shape_none : (o : Option Fault) (r : Result PartsRow ReadFault) {p : PartsRow} → unless (option_map shape_read o) r ≡ Ok p → o ≡ None
shape_none None r is = refl
shape_none (Some fault) r is = absurd (cc)

pub value_ordered : (bytes : List ℕ) (d : Data) → value_in bytes ≡ Some d → IsOrdered d
value_ordered bytes d is = elim (cases_Bool (is_utf8 bytes)) [
  | inl good ↦ read_ordered bytes d (rw good at is)
  | inr bad ↦ (let none : None ≡ Some d = rw bad at is in absurd (cc))
]

pub read_document : (bytes : List ℕ) (p : PartsRow) → parts_of bytes ≡ Ok p → (d : Data) × IsOrdered d × (parts_in d ≡ p) × (shape_fault d ≡ None)
read_document bytes p is = by (value_in bytes) refl is
  where
    same : (x : PartsRow) → (let r : Result PartsRow ReadFault = Ok x in r) ≡ Ok p → x ≡ p
    same x is = cc

    by : (o : Option Data) → value_in bytes ≡ o → value_parts o ≡ Ok p → (d : Data) × IsOrdered d × (parts_in d ≡ p) × (shape_fault d ≡ None)
    by None found is = absurd (cc)
    by (Some d) found is =
        let rest : Result PartsRow ReadFault = unless (option_map syntax_read (first_misread d)) (Ok (parts_in d)) in
        let behind = unless_ok (option_map shape_read (shape_fault d)) rest p is in
        (d, value_ordered bytes d found, same (parts_in d) (unless_ok (option_map syntax_read (first_misread d)) (Ok (parts_in d)) p behind), shape_none (shape_fault d) rest is)

-- the fields of each declared event rise, and the attributes of each profile
pub declared_rise : (bytes : List ℕ) (parts : Parts) → parts_of bytes ≡ Ok (parts_row parts)
    → (list_all (λ (e : EventCode). rises (map (λ (f : FieldCode). f.name) e.fields)) (deployed_of parts).events && list_all (λ (p : DeployedProfile). rises (map (λ (f : FieldCode). f.name) p.attributes)) (deployed_of parts).profiles) ≡ true
declared_rise bytes parts is =
    let read = read_document bytes (parts_row parts) is in
    let events : list_all (λ (e : EventType). are_rising e.fields) parts.events ≡ true =
    subst (λ es. list_all (λ (e : EventType). are_rising e.fields) es ≡ true) (ap (λ (p : PartsRow). p.events) read.2) (all_listed event_type_of (λ (e : EventType). are_rising e.fields) (items_at (codes "events") read.0) (λ d all. fields_rise (codes "fields") d all) (items_ordered_at (codes "events") read.0 read.1)) in
    let profiles : list_all (λ (p : ProfileSpec). are_rising p.attributes) parts.profiles ≡ true =
    subst (λ ps. list_all (λ (p : ProfileSpec). are_rising p.attributes) ps ≡ true) (ap (λ (p : PartsRow). p.profiles) read.2) (all_listed profile_of (λ (p : ProfileSpec). are_rising p.attributes) (items_at (codes "profiles") read.0) (λ d all. fields_rise (codes "attributes") d all) (items_ordered_at (codes "profiles") read.0 read.1)) in
    and_from (list_all (λ (e : EventCode). rises (map (λ (f : FieldCode). f.name) e.fields)) (deployed_of parts).events) _
    (all_mapped resolving.event_of (λ (e : EventType). are_rising e.fields) (λ (e : EventCode). rises (map (λ (f : FieldCode). f.name) e.fields)) (λ e up. ap rises (declared_names e.fields) ∙ up) parts.events events)
    (all_mapped resolving.profile_of (λ (p : ProfileSpec). are_rising p.attributes) (λ (p : DeployedProfile). rises (map (λ (f : FieldCode). f.name) p.attributes)) (λ p up. ap rises (declared_names p.attributes) ∙ up) parts.profiles profiles)

fields_of_block : (blocks : Numbering) (rows : List Block) (n : ℕ) → list_all (λ (b : Block). are_rising b.fields) rows ≡ true
    → rises_by (λ (x y : FieldCode). is_below x.name y.name) (option_map_or (λ (b : DeployedBlock). b.fields) (slice_get (map (resolving.block_of blocks) rows) n) []) ≡ true
fields_of_block blocks [] n all = refl
fields_of_block blocks (b ∷ rows) zero all =
    sym (rises_rows (map resolving.field_of b.fields)) ∙ ap rises (declared_names b.fields) ∙ (and_parts (are_rising b.fields) (list_all (λ (b : Block). are_rising b.fields) rows) all).0
fields_of_block blocks (b ∷ rows) (suc n) all = fields_of_block blocks rows n (and_parts (are_rising b.fields) (list_all (λ (b : Block). are_rising b.fields) rows) all).1

-- the fields of each block rise
pub block_fields_rise : (bytes : List ℕ) (parts : Parts) → parts_of bytes ≡ Ok (parts_row parts) → (n : ℕ) → rises_by (λ (x y : FieldCode). is_below x.name y.name) (block_fields (deployed_of parts) n) ≡ true
block_fields_rise bytes parts is n =
    let read = read_document bytes (parts_row parts) is in
    let rows : list_all (λ (b : BlockRow). are_rising b.fields) (map block_row parts.blocks) ≡ true =
    subst (λ bs. list_all (λ (b : BlockRow). are_rising b.fields) bs ≡ true) (ap (λ (p : PartsRow). p.blocks) read.2) (all_listed block_of (λ (b : BlockRow). are_rising b.fields) (items_at (codes "blocks") read.0) (λ d all. fields_rise (codes "fields") d all) (items_ordered_at (codes "blocks") read.0 read.1)) in
    fields_of_block (key_number (λ (b : Block). b.key) parts.blocks) parts.blocks n (all_unmapped block_row (λ (b : BlockRow). are_rising b.fields) parts.blocks rows)
