-- A document without shape fault has what its parts need.
use Rattle.std.proofs.Common.{Ordering, Less, Equal, Greater, ◌≡◌, ℕ, zero, suc, List, [], ◌∷◌, Bool, true, false, Option, Some, None, refl, sym, subst, IsTrue, is_some, ℤ, pos}
use Rattle.std.proofs.lemmas.Slice.Eq.{bytes_eq-Decides}
use Rattle.std.proofs.lemmas.Map.Lookups.{exact_bytes}
use Rattle.std.specs.Prelude.{codes, option_and_then, option_map, if◌then◌else◌, not, ◌||◌, int_lt, bytes_eq}
use Rattle.std.specs.Option.{unwrap_or}
use Rattle.std.specs.Ordering.{nat_cmp, match_ordering}
use Rattle.std.specs.Cmp.Lexicographic.{slice_cmp}
use Rattle.serde_json.specs.Data.{Data, null, boolean, number, string, array, object as an_object, Items, no_items, item, Members, no_members, member}
use Rattle.serde_json.specs.Find.{get, get_member, get_item, as_str, as_object, as_number, as_i64}
use Rattle.slee_value.specs.Name.{is_name}
use Rattle.slee_value.specs.declared.kind.Kind.{Kind}
use Rattle.script_tree.specs.Tree.{Bytes}
use Rattle.script_types.specs.declared.codes.FieldCode.{FieldCode}
use Rattle.script_types.specs.declared.codes.EventCode.{EventCode}
use Rattle.script_types.specs.Codes.{built_in, named as code_named, kind_in as code_kind}
use Rattle.deploy_model.specs.declared.fault.DeployBad.TheVariants as bad
use Rattle.deploy_model.specs.Faults.{here, unless, and_then}
use Rattle.deploy_model.specs.Rules.{Numbering, fresh, known, alias, text_field}
use Rattle.deploy_model.specs.Tables.{is_taken}
use Rattle.deploy_schema.specs.Forms.{Want, need, may, list_of, named, object, name_rule, value_fault, priority, number_or_type, or_null, least_priority, greatest_priority}
use Rattle.deploy_schema.specs.Texts.{text, fresh_name, reference, name_number, type_word, profile_word, profile_type, kind_of_word}
use Rattle.deploy_schema.specs.Scripts.{script}
use Rattle.deploy_schema.specs.Numbers.{items_of, items_at, numbers_from}
use Rattle.deploy_schema.specs.Ids.{text_at}
use Rattle.deploy_schema.specs.Names.{Names, names_in, kind_in, kind_at, attribute_kind, field_in, event_field, members_at, members_or_none}
use Rattle.deploy_schema.specs.Tables as t
use Rattle.deploy_json.specs.Values.{text_of}
use Rattle.deploy_json.specs.Shapes.{EachItem, EachMember, IsName, IsNameValue, IsKind, is_priority, IsField, IsEventType, IsProfile, IsNamePair, IsRelation, IsParameter, WhereThere, IsCustomRule, IsHandler, IsMethod, IsBlock, IsService, IsDocument}
use Rattle.deploy_model.proofs.Faultless.{first_none, later_none, unless_none}
use Rattle.deploy_json.proofs.Faultless.{object_members, text_keeps, needed_text, needed_there, list_items, may_items, may_members}

-- names
fresh_named : (numbers : Numbering) (n : ℕ) (owner : Data) (s : Bytes) → fresh_name numbers n owner s ≡ None → IsName s
fresh_named numbers n owner s h = unless_none (is_name s) bad.BadName (first_none (name_rule s) (fresh (numbers s) n) h)

event_named : (numbers : Numbering) (n : ℕ) (owner : Data) (s : Bytes) → t.event_key numbers n owner s ≡ None → IsName s
event_named numbers n owner s h = unless_none (is_name s) bad.BadName (first_none (name_rule s) (and_then (unless (not (is_taken s)) bad.Repeated) (fresh (numbers s) n)) h)

name_by : (b : Bool) (o : Option ℕ) → IsTrue (is_some (if b then o else None)) → IsTrue b
name_by true o h = refl
name_by false o h = cc

reference_named : (numbers : Numbering) (n : ℕ) (owner : Data) (s : Bytes) → reference numbers n owner s ≡ None → IsName s
reference_named numbers n owner s h = name_by (is_name s) (numbers s) (unless_none (is_some (name_number numbers s)) bad.UnknownName h)

-- types
word_kind : (n : ℕ) (owner : Data) (s : Bytes) → type_word n owner s ≡ None → IsKind s
word_kind n owner s h = unless_none (is_some (kind_of_word s)) bad.Range h

kind_some : (o : Option Kind) → profile_type o ≡ None → IsTrue (is_some o)
kind_some None h = cc
kind_some (Some kind) h = refl

field_fits : (n : ℕ) (owner : Data) (k : Bytes) (d : Data) → named (text type_word) k n owner d ≡ None → IsField k d
field_fits n owner k d h = record {
  name = unless_none (is_name k) bad.BadName (first_none (name_rule k) (text type_word n owner d) h);
  kind = word_kind n owner (text_of d) (text_keeps type_word n owner d (later_none (name_rule k) (text type_word n owner d) h));
}

profile_field_fits : (n : ℕ) (owner : Data) (k : Bytes) (d : Data) → named (text profile_word) k n owner d ≡ None → IsField k d
profile_field_fits n owner k d h = record {
  name = unless_none (is_name k) bad.BadName (first_none (name_rule k) (text profile_word n owner d) h);
  kind = kind_some (kind_of_word (text_of d)) (text_keeps profile_word n owner d (later_none (name_rule k) (text profile_word n owner d) h));
}

-- a name that is found among names
met : (s l : Bytes) (e : Data) (ms : Members) (o : Ordering) → slice_cmp nat_cmp s l ≡ o → IsName l → (IsTrue (is_some (get_member s ms)) → IsName s) → IsTrue (is_some (match_ordering o (get_member s ms) (Some e) (get_member s ms))) → IsName s
met s l e ms Less q name later h = later h
met s l e ms Equal q name later h = subst IsName (sym (exact_bytes s l q)) name
met s l e ms Greater q name later h = later h

met_name : (s : Bytes) (ms : Members) → EachMember IsField ms → IsTrue (is_some (get_member s ms)) → IsName s
met_name s no_members each h = cc
met_name s (member l e ms) each h = met s l e ms (slice_cmp nat_cmp s l) refl each.0.name (met_name s ms each.1) h

then_some : {A B : Type 0} → (f : A → Option B) (o : Option A) → IsTrue (is_some (option_and_then f o)) → IsTrue (is_some o)
then_some f None h = h
then_some f (Some x) h = refl

-- what has a type is called by a name
kind_named : (s : Bytes) (v : Option Data) → EachMember IsField (members_or_none (option_and_then as_object v)) → IsTrue (is_some (option_and_then (kind_in s) v)) → IsName s
kind_named s None each h = cc
kind_named s (Some null) each h = cc
kind_named s (Some (boolean b)) each h = cc
kind_named s (Some (number x)) each h = cc
kind_named s (Some (string x)) each h = cc
kind_named s (Some (array ds)) each h = cc
kind_named s (Some (an_object ms)) each h = met_name s ms each (then_some as_str (get_member s ms) (then_some kind_of_word (option_and_then as_str (get_member s ms)) h))

attribute_named : (owner : Data) → EachMember IsField (members_at (codes "attributes") owner) → (n : ℕ) (s : Bytes) → t.attribute_name n owner s ≡ None → IsName s
attribute_named owner each n s h = kind_named s (get (codes "attributes") owner) each (unless_none (is_some (attribute_kind owner s)) bad.UnknownName h)

-- fields of built-in events
abbrev AllNamed : List FieldCode → Type 0
AllNamed [] = Unit {0}
AllNamed (f ∷ fs) = IsName f.name × AllNamed fs

abbrev EventsNamed : List EventCode → Type 0
EventsNamed [] = Unit {0}
EventsNamed (e ∷ es) = AllNamed e.fields × EventsNamed es

built_in_fits : EventsNamed built_in
built_in_fits = (tt, ((refl, tt), (tt, ((refl, tt), ((refl, tt), ((refl, tt), tt))))))

code_met : (s : Bytes) (f : FieldCode) (later : Option FieldCode) (b : Bool) → bytes_eq f.name s ≡ b → IsName f.name → (IsTrue (is_some later) → IsName s) → IsTrue (is_some (if b then Some f else later)) → IsName s
code_met s f later true q name rest h = subst IsName ((bytes_eq-Decides f.name s).0 q) name
code_met s f later false q name rest h = rest h

code_name : (s : Bytes) (fs : List FieldCode) → AllNamed fs → IsTrue (is_some (code_named (λ (f : FieldCode). f.name) s fs)) → IsName s
code_name s [] all h = cc
code_name s (f ∷ fs) all h = code_met s f (code_named (λ (f : FieldCode). f.name) s fs) (bytes_eq f.name s) refl all.0 (code_name s fs all.1) h

mapped_some : {A B : Type 0} → (f : A → B) (o : Option A) → IsTrue (is_some (option_map f o)) → IsTrue (is_some o)
mapped_some f None h = h
mapped_some f (Some x) h = refl

event_met : (s : Bytes) (e : EventCode) (later : Option EventCode) (b : Bool) → AllNamed e.fields → (IsTrue (is_some (option_and_then (λ (x : EventCode). code_kind s x.fields) later)) → IsName s) → IsTrue (is_some (option_and_then (λ (x : EventCode). code_kind s x.fields) (if b then Some e else later))) → IsName s
event_met s e later true all rest h = code_name s e.fields all (mapped_some (λ (f : FieldCode). f.kind) (code_named (λ (f : FieldCode). f.name) s e.fields) h)
event_met s e later false all rest h = rest h

built_in_name : (event s : Bytes) (es : List EventCode) → EventsNamed es → IsTrue (is_some (option_and_then (λ (x : EventCode). code_kind s x.fields) (code_named (λ (e : EventCode). e.name) event es))) → IsName s
built_in_name event s [] all h = cc
built_in_name event s (e ∷ es) all h = event_met s e (code_named (λ (e : EventCode). e.name) event es) (bytes_eq e.name event) all.0 (built_in_name event s es all.1) h

-- fields of events
declared_name : (s : Bytes) (types : Items) (n : ℕ) → EachItem IsEventType types → IsTrue (is_some (option_and_then (λ e. kind_at (codes "fields") e s) (get_item n types))) → IsName s
declared_name s no_items n each h = cc
declared_name s (item d ds) zero each h = kind_named s (get (codes "fields") d) each.0.fields h
declared_name s (item d ds) (suc n) each h = declared_name s ds n each.1 h

field_name : (types : Items) → EachItem IsEventType types → (o : Option ℕ) (event s : Bytes) → IsTrue (is_some (field_in types o event s)) → IsName s
field_name types each None event s h = built_in_name event s built_in built_in_fits h
field_name types each (Some n) event s h = declared_name s types n each h

-- custom selections
text_some : (o : Option Kind) → text_field o ≡ None → IsTrue (is_some o)
text_some None h = cc
text_some (Some kind) h = refl

rule_fits : (all : Names) → EachItem IsEventType all.event_types → (event : Bytes) (n : ℕ) (owner d : Data) → t.custom_rule all event n owner d ≡ None → IsCustomRule d
rule_fits all each event n owner d h =
    let w = object_members (need (codes "rule") (text t.selection_rule) ∷ need (codes "field") (text (t.selection_field all event)) ∷ []) n owner d h in
    let field = needed_text (codes "field") (t.selection_field all event) n d (get (codes "field") d) w.1.0 in
    field_name all.event_types each (all.events event) event (text_at (codes "field") d) (text_some (event_field all event (text_at (codes "field") d)) field)

unwanted_never : (b : Bool) (P : Type 0) → (if b then here bad.Range else here bad.WrongType) ≡ None → P
unwanted_never true P h = cc
unwanted_never false P h = cc

custom_fits : (all : Names) → EachItem IsEventType all.event_types → (event : Bytes) (wanted : Bool) (n : ℕ) (d : Data) (v : Option Data) → value_fault (t.custom_member all event wanted) n d v ≡ None → WhereThere IsCustomRule v
custom_fits all each event wanted n d None h = tt
custom_fits all each event true n d (Some x) h = rule_fits all each event n d x h
custom_fits all each event false n d (Some x) h = unwanted_never (is_some (as_object x)) (IsCustomRule x) h

-- handlers and methods
handler_fits : (all : Names) → EachItem IsEventType all.event_types → (handlers : Numbering) (n : ℕ) (owner d : Data) → t.handler all handlers n owner d ≡ None → IsHandler d
handler_fits all each handlers n owner d h =
    let w = object_members (t.handler_members all handlers (text_at (codes "event") d) (t.is_custom d)) n owner d h in
    record {
      custom = custom_fits all each (text_at (codes "event") d) (t.is_custom d) n d (get (codes "custom") d) w.1.1.0;
      script = needed_there (codes "on") script n d (get (codes "on") d) w.1.1.1.1.0;
    }

handlers_fit : (all : Names) → EachItem IsEventType all.event_types → (n : ℕ) (owner d : Data) → t.handlers all n owner d ≡ None → EachItem IsHandler (items_of d)
handlers_fit all each n owner d h =
    let handlers = numbers_from (codes "event") 0 (items_of d) in
    list_items IsHandler (t.handler all handlers) n owner (λ m x. handler_fits all each handlers m owner x) d h

parameter_fits : (names : Numbering) (n : ℕ) (owner d : Data) → t.parameter names n owner d ≡ None → IsParameter d
parameter_fits names n owner d h =
    let w = object_members (need (codes "name") (text (fresh_name names)) ∷ need (codes "type") (text type_word) ∷ []) n owner d h in
    record {
      name = fresh_named names n d (text_at (codes "name") d) (needed_text (codes "name") (fresh_name names) n d (get (codes "name") d) w.0);
      kind = word_kind n d (text_at (codes "type") d) (needed_text (codes "type") type_word n d (get (codes "type") d) w.1.0);
    }

parameters_fit : (n : ℕ) (owner d : Data) → t.parameters n owner d ≡ None → EachItem IsParameter (items_of d)
parameters_fit n owner d h =
    let names = numbers_from (codes "name") 0 (items_of d) in
    list_items IsParameter (t.parameter names) n owner (λ m x. parameter_fits names m owner x) d h

method_fits : (n : ℕ) (owner : Data) (k : Bytes) (d : Data) → named t.method k n owner d ≡ None → IsMethod k d
method_fits n owner k d h =
    let table : List Want = may (codes "params") t.parameters ∷ may (codes "returns") (or_null (text type_word)) ∷ need (codes "do") script ∷ [] in
    let w = object_members table n owner d (later_none (name_rule k) (t.method n owner d) h) in
    record {
      name = unless_none (is_name k) bad.BadName (first_none (name_rule k) (t.method n owner d) h);
      params = may_items IsParameter (codes "params") t.parameters n d (parameters_fit n d) (get (codes "params") d) w.0;
      script = needed_there (codes "do") script n d (get (codes "do") d) w.1.1.0;
    }

-- priorities
outside : (b : Bool) → (if b then here bad.Range else None) ≡ None → IsTrue (not b)
outside true h = cc
outside false h = refl

in_range : (o : Option ℤ) → number_or_type o ≡ None → IsTrue (is_priority (unwrap_or o (pos 0)))
in_range None h = cc
in_range (Some z) h = outside (int_lt z least_priority || int_lt greatest_priority z) h

priority_fits : (n : ℕ) (d : Data) (v : Option Data) → value_fault (may (codes "priority") priority) n d v ≡ None → IsTrue (is_priority (unwrap_or (option_and_then as_i64 (option_and_then as_number v)) (pos 0)))
priority_fits n d None h = refl
priority_fits n d (Some x) h = in_range (option_and_then as_i64 (as_number x)) h

-- relations, aliases and tables
relation_fits : (all : Names) (n : ℕ) (owner : Data) (k : Bytes) (d : Data) → named (t.relation all) k n owner d ≡ None → IsRelation k d
relation_fits all n owner k d h =
    let table : List Want = need (codes "block") (text (reference all.blocks)) ∷ may (codes "priority") priority ∷ [] in
    let w = object_members table n owner d (later_none (name_rule k) (t.relation all n owner d) h) in
    record {
      name = unless_none (is_name k) bad.BadName (first_none (name_rule k) (t.relation all n owner d) h);
      block = reference_named all.blocks n d (text_at (codes "block") d) (needed_text (codes "block") (reference all.blocks) n d (get (codes "block") d) w.0);
      priority = priority_fits n d (get (codes "priority") d) w.1.0;
    }

alias_fits : (all : Names) (n : ℕ) (owner : Data) → EachMember IsField (members_at (codes "attributes") owner) → (k : Bytes) (d : Data) → t.alias_entry all k n owner d ≡ None → IsNamePair k d
alias_fits all n owner each k d h =
    let kind = attribute_kind owner k in
    let own = first_none (known kind) (text (t.alias_name all kind) n owner d) h in
    let other = text_keeps (t.alias_name all kind) n owner d (later_none (known kind) (text (t.alias_name all kind) n owner d) h) in
    record {
      name = kind_named k (get (codes "attributes") owner) each (unless_none (is_some kind) bad.UnknownName own);
      other = unless_none (is_name (text_of d)) bad.BadName (first_none (name_rule (text_of d)) (alias kind (all.alias_kind (text_of d))) other);
    }

table_fits : (all : Names) (n : ℕ) (owner : Data) (k : Bytes) (d : Data) → named (text (reference all.profiles)) k n owner d ≡ None → IsNamePair k d
table_fits all n owner k d h = record {
  name = unless_none (is_name k) bad.BadName (first_none (name_rule k) (text (reference all.profiles) n owner d) h);
  other = reference_named all.profiles n owner (text_of d) (text_keeps (reference all.profiles) n owner d (later_none (name_rule k) (text (reference all.profiles) n owner d) h));
}

-- the items of the arrays
event_fits : (all : Names) (n : ℕ) (owner d : Data) → object (t.event_members all) n owner d ≡ None → IsEventType d
event_fits all n owner d h =
    let w = object_members (t.event_members all) n owner d h in
    record {
      key = event_named all.events n d (text_at (codes "key") d) (needed_text (codes "key") (t.event_key all.events) n d (get (codes "key") d) w.0);
      fields = may_members IsField (codes "fields") (named (text type_word)) n d (field_fits n d) (get (codes "fields") d) w.1.1.1.1.0;
    }

key_fits : (keys : Numbering) (n : ℕ) (d : Data) → value_fault (need (codes "key") (text (fresh_name keys))) n d (get (codes "key") d) ≡ None → IsName (text_at (codes "key") d)
key_fits keys n d h = fresh_named keys n d (text_at (codes "key") d) (needed_text (codes "key") (fresh_name keys) n d (get (codes "key") d) h)

profile_fits : (all : Names) (n : ℕ) (owner d : Data) → object (t.profile_members all) n owner d ≡ None → IsProfile d
profile_fits all n owner d h =
    let w = object_members (t.profile_members all) n owner d h in
    let own = may_members IsField (codes "attributes") (named (text profile_word)) n d (profile_field_fits n d) (get (codes "attributes") d) w.1.1.1.1.0 in
    record {
      key = key_fits all.profiles n d w.0;
      attributes = own;
      unique = may_items IsNameValue (codes "unique") (list_of (text t.attribute_name)) n d
          (λ x. list_items IsNameValue (text t.attribute_name) n d (λ m y g. attribute_named d own m (text_of y) (text_keeps t.attribute_name m d y g)) x)
          (get (codes "unique") d) w.1.1.1.1.1.0;
    }

block_fits : (all : Names) → EachItem IsEventType all.event_types → (n : ℕ) (owner d : Data) → object (t.block_members all) n owner d ≡ None → IsBlock d
block_fits all each n owner d h =
    let w = object_members (t.block_members all) n owner d h in
    let r = w.1.1.1.1 in
    let own = may_members IsField (codes "attributes") (named (text type_word)) n d (field_fits n d) (get (codes "attributes") d) r.1.0 in
    record {
      key = key_fits all.blocks n d w.0;
      fields = may_members IsField (codes "fields") (named (text type_word)) n d (field_fits n d) (get (codes "fields") d) r.0;
      attributes = own;
      aliases = may_members IsNamePair (codes "aliases") (t.alias_entry all) n d (alias_fits all n d own) (get (codes "aliases") d) r.1.1.0;
      relations = may_members IsRelation (codes "relations") (named (t.relation all)) n d (relation_fits all n d) (get (codes "relations") d) r.1.1.1.0;
      events = may_items IsHandler (codes "events") (t.handlers all) n d (handlers_fit all each n d) (get (codes "events") d) r.1.1.1.1.0;
      methods = may_members IsMethod (codes "methods") (named t.method) n d (method_fits n d) (get (codes "methods") d) r.1.1.1.1.1.0;
    }

service_fits : (all : Names) (n : ℕ) (owner d : Data) → object (t.service_members all) n owner d ≡ None → IsService d
service_fits all n owner d h =
    let w = object_members (t.service_members all) n owner d h in
    let r = w.1.1.1.1 in
    record {
      key = key_fits all.services n d w.0;
      root = reference_named all.blocks n d (text_at (codes "root") d) (needed_text (codes "root") (reference all.blocks) n d (get (codes "root") d) r.0);
      priority = priority_fits n d (get (codes "priority") d) r.1.0;
    }

-- each item of an array of the document
array_fits : (P : Data → Type 0) (name : Bytes) (ws : List Want) (d : Data) → ((m : ℕ) (x : Data) → object ws m d x ≡ None → P x) → value_fault (may name (list_of (object ws))) 0 d (get name d) ≡ None → EachItem P (items_at name d)
array_fits P name ws d fits h = may_items P name (list_of (object ws)) 0 d (λ x. list_items P (object ws) 0 d fits x) (get name d) h

pub shaped : (d : Data) → t.shape_fault d ≡ None → IsDocument d
shaped d h =
    let all = names_in d in
    let w = object_members (t.top_members all) 0 d d h in
    let types = array_fits IsEventType (codes "events") (t.event_members all) d (λ m x. event_fits all m d x) w.0 in
    record {
      events = types;
      profiles = array_fits IsProfile (codes "profiles") (t.profile_members all) d (λ m x. profile_fits all m d x) w.1.0;
      tables = may_members IsNamePair (codes "tables") (named (text (reference all.profiles))) 0 d (table_fits all 0 d) (get (codes "tables") d) w.1.1.0;
      blocks = array_fits IsBlock (codes "blocks") (t.block_members all) d (λ m x. block_fits all types m d x) w.1.1.1.0;
      services = array_fits IsService (codes "services") (t.service_members all) d (λ m x. service_fits all m d x) w.1.1.1.1.0;
    }
