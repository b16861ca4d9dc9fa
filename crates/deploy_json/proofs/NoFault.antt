-- The parts of a document without shape fault have no fault.
use Rattle.std.proofs.Common.{◌≡◌, ℕ, List, [], ◌∷◌, Bool, true, false, Option, Some, None, refl, sym, ap, ◌∙◌, subst, IsTrue, is_some, map, true≢false}
use Rattle.std.proofs.lemmas.List.{map-id}
use Rattle.std.specs.Prelude.{codes, bytes_eq, option_and_then, option_map, if◌then◌else◌, not, ◌||◌, ◌&&◌}
use Rattle.std.specs.Option.{unwrap_or}
use Rattle.serde_json.specs.Data.{Data, null, boolean, number, string, array, object as an_object, Items, no_items, item}
use Rattle.serde_json.specs.Find.{get, as_str, as_array, as_object}
use Rattle.slee_value.specs.Name.{is_name}
use Rattle.slee_value.specs.declared.kind.Kind.{Kind}
use Rattle.slee_value.specs.declared.kind.Kind.TheVariants as kinds
use Rattle.slee_value.specs.declared.component.ComponentId.{ComponentId}
use Rattle.script_tree.specs.Tree.{Bytes}
use Rattle.deploy_model.specs.declared.fault.DeployBad.TheVariants as bad
use Rattle.deploy_model.specs.declared.parts.EventType.{EventType}
use Rattle.deploy_model.specs.declared.parts.ProfileSpec.{ProfileSpec}
use Rattle.deploy_model.specs.declared.parts.Table.{Table}
use Rattle.deploy_model.specs.declared.parts.Relation.{Relation}
use Rattle.deploy_model.specs.declared.parts.BlockEvent.{BlockEvent}
use Rattle.deploy_model.specs.declared.parts.Method.{Method}
use Rattle.deploy_model.specs.declared.parts.Block.{Block}
use Rattle.deploy_model.specs.declared.parts.Service.{Service}
use Rattle.deploy_model.specs.declared.parts.Parts.{Parts}
use Rattle.deploy_model.specs.Faults.{Fault, here, unless, under, and_then}
use Rattle.deploy_model.specs.Rules.{Numbering, items, fresh, known, label as label_rule, alias, profile_kind, variable_word, text_field}
use Rattle.deploy_model.specs.Tables as p
use Rattle.deploy_schema.specs.Forms.{Want, need, may, named, object, name_rule, value_fault, items_fault, priority, or_null}
use Rattle.deploy_schema.specs.Texts.{TextRule, text, text_or_type, label, fresh_name, reference, type_word, profile_word, profile_type, kind_of_word}
use Rattle.deploy_schema.specs.Scripts.{script}
use Rattle.deploy_schema.specs.Numbers.{member_text, items_of, items_at, items_or_none, numbers_from}
use Rattle.deploy_schema.specs.Ids.{text_at, id_of}
use Rattle.deploy_schema.specs.Names.{Names, names_in, attribute_kind, texts_of, members_at}
use Rattle.deploy_schema.specs.Names as n
use Rattle.deploy_schema.specs.Tables as t
use Rattle.deploy_json.specs.Values.{listed, entries, text_of, field_of, fields_at, event_type_of, profile_of, table_of, relation_of, alias_of, service_of, custom_rule_of, custom_of, parameter_of}
use Rattle.deploy_json.specs.Rows.{HandlerRow, MethodRow, BlockRow, PartsRow, handler_row, method_row, block_row, parts_row}
use Rattle.deploy_json.specs.Documents.{handler_of, method_of, block_of, parts_in}
use Rattle.deploy_json.specs.Shapes.{EachItem, IsEventType, IsProfile, IsBlock, IsDocument}
use Rattle.deploy_model.proofs.Faultless.{first_none, later_none}
use Rattle.deploy_json.proofs.Faultless.{object_members, text_keeps, needed_text, list_items}
use Rattle.deploy_json.proofs.Shaped.{shaped}
use Rattle.deploy_json.proofs.Walks.{ended, both_none, kept_none, nothing_none, items_none, array_none, list_none, fitting_list_none, map_none}
use Rattle.deploy_json.proofs.LookUps.{HasText, text_there, each_item, same_numbers, same_ids, same_kind, same_field, block_kind, same_aliases}

-- What is looked up in parts is what is looked up in their document.
record Agree (all : Names) (parts : p.Known) : Type 0 where
  events : (q : Bytes) → parts.events q ≡ all.events q
  profiles : (q : Bytes) → parts.profiles q ≡ all.profiles q
  blocks : (q : Bytes) → parts.blocks q ≡ all.blocks q
  types : parts.event_types ≡ listed event_type_of all.event_types
  fit : EachItem IsEventType all.event_types
  aliases : (q : Bytes) → parts.alias_kind q ≡ all.alias_kind q

-- a wanted text is there
str_there : (rule : Bytes → Option Fault) (o : Option Bytes) → text_or_type rule o ≡ None → o ≡ Some (unwrap_or o [])
str_there rule None h = cc
str_there rule (Some s) h = refl

needed_there : (name : Bytes) (rule : TextRule) (m : ℕ) (d : Data) (v : Option Data) → value_fault (need name (text rule)) m d v ≡ None → option_and_then as_str v ≡ Some (unwrap_or (option_and_then as_str v) [])
needed_there name rule m d None h = cc
needed_there name rule m d (Some x) h = str_there (rule m d) (as_str x) h

-- names of what there is
name_known : (b : Bool) (o : Option ℕ) → known (if b then o else None) ≡ None → known o ≡ None
name_known true o h = h
name_known false o h = cc

referred : (parts all : Numbering) → ((q : Bytes) → parts q ≡ all q) → (m : ℕ) (owner : Data) (s : Bytes) → reference all m owner s ≡ None → known (parts s) ≡ None
referred parts all same m owner s h = ap (λ (o : Option ℕ). known o) (same s) ∙ name_known (is_name s) (all s) h

-- the key, name, vendor and version of an item
key_fresh : (parts all : Numbering) → ((q : Bytes) → parts q ≡ all q) → (m : ℕ) (s : Bytes) → fresh (all s) m ≡ None → fresh (parts s) m ≡ None
key_fresh parts all same m s h = ap (λ (o : Option ℕ). fresh o m) (same s) ∙ h

named_fresh : (all : Numbering) (m : ℕ) (owner : Data) (s : Bytes) → fresh_name all m owner s ≡ None → fresh (all s) m ≡ None
named_fresh all m owner s h = later_none (name_rule s) (fresh (all s) m) h

version_fresh : (parts all : p.IdNumbering) → ((q : ComponentId) → parts q ≡ all q) → (m : ℕ) (id : ComponentId) → p.version all m id ≡ None → p.version parts m id ≡ None
version_fresh parts all same m id h =
    both_none (first_none (label_rule id.version) (fresh (all id) m) h)
    (ap (λ (o : Option ℕ). fresh o m) (same id) ∙ later_none (label_rule id.version) (fresh (all id) m) h)

component_none : (d : Data) (keys : Numbering) (ids all : p.IdNumbering) → ((q : ComponentId) → ids q ≡ all q) → (m : ℕ)
    → fresh (keys (text_at (codes "key") d)) m ≡ None
    → label_rule (text_at (codes "name") d) ≡ None
    → label_rule (text_at (codes "vendor") d) ≡ None
    → p.version all m (id_of d) ≡ None
    → p.component (text_at (codes "key")) id_of keys ids m d ≡ None
component_none d keys ids all same m key name vendor version =
    both_none (kept_none (codes "key") key)
    (both_none
    (both_none (kept_none (codes "name") name)
    (both_none (kept_none (codes "vendor") vendor)
    (both_none (kept_none (codes "version") (version_fresh ids all same m (id_of d) version)) ended)))
    ended)

-- types and attributes
field_kind : (o : Option Kind) → profile_type o ≡ None → profile_kind (unwrap_or o kinds.Int) ≡ None
field_kind None h = cc
field_kind (Some kind) h = h

attribute_none : (m : ℕ) (owner : Data) (x : Bytes × Kind) (k : Bytes) (d : Data) → x ≡ field_of k d → named (text profile_word) k m owner d ≡ None → profile_kind x.1 ≡ None
attribute_none m owner x k d e h =
    ap (λ (y : Bytes × Kind). profile_kind y.1) e ∙ field_kind (kind_of_word (text_of d)) (text_keeps profile_word m owner d (later_none (name_rule k) (text profile_word m owner d) h))

unique_none : (attributes : List (Bytes × Kind)) (owner : Data) → ((s : Bytes) → p.kind_of attributes s ≡ attribute_kind owner s) → (m : ℕ) (x : Bytes) (d : Data) → x ≡ text_of d → text t.attribute_name m owner d ≡ None → known (p.kind_of attributes x) ≡ None
unique_none attributes owner same m x d e h =
    ap (λ (s : Bytes). known (p.kind_of attributes s)) e ∙ ap (λ (o : Option Kind). known o) (same (text_of d)) ∙ text_keeps t.attribute_name m owner d h

-- event types, profile specifications, tables and services
event_none : (all : Names) (keys : Numbering) (ids : p.IdNumbering) → ((q : Bytes) → keys q ≡ all.events q) → ((q : ComponentId) → ids q ≡ all.event_ids q) → (owner : Data) (m : ℕ) (x : EventType) (d : Data) → x ≡ event_type_of d → object (t.event_members all) m owner d ≡ None → p.event_type keys ids m x ≡ None
event_none all keys ids same_key same_id owner m x d e h =
    let w = object_members (t.event_members all) m owner d h in
    let key : Bytes = text_at (codes "key") d in
    let rule = later_none (name_rule key) (and_then (unless (not (p.is_taken key)) bad.Repeated) (fresh (all.events key) m)) (needed_text (codes "key") (t.event_key all.events) m d (get (codes "key") d) w.0) in
    let free = first_none (unless (not (p.is_taken key)) bad.Repeated) (fresh (all.events key) m) rule in
    let first = later_none (unless (not (p.is_taken key)) bad.Repeated) (fresh (all.events key) m) rule in
    let P : EventType → Type 0 = λ y. p.event_type keys ids m y ≡ None in
    subst P (sym e)
    (both_none (kept_none (codes "key") free)
    (both_none
    (component_none d keys ids all.event_ids same_id m (key_fresh keys all.events same_key m key first)
    (needed_text (codes "name") label m d (get (codes "name") d) w.1.0)
    (needed_text (codes "vendor") label m d (get (codes "vendor") d) w.1.1.0)
    (needed_text (codes "version") (t.version all.event_ids) m d (get (codes "version") d) w.1.1.1.0))
    ended))

profile_none : (all : Names) (keys : Numbering) (ids : p.IdNumbering) → ((q : Bytes) → keys q ≡ all.profiles q) → ((q : ComponentId) → ids q ≡ all.profile_ids q) → (owner : Data) (m : ℕ) (x : ProfileSpec) (d : Data) → IsProfile d → x ≡ profile_of d → object (t.profile_members all) m owner d ≡ None → p.profile_spec keys ids m x ≡ None
profile_none all keys ids same_key same_id owner m x d fits e h =
    let w = object_members (t.profile_members all) m owner d h in
    let key : Bytes = text_at (codes "key") d in
    let own : List (Bytes × Kind) = fields_at (codes "attributes") d in
    let first = named_fresh all.profiles m d key (needed_text (codes "key") (fresh_name all.profiles) m d (get (codes "key") d) w.0) in
    let P : ProfileSpec → Type 0 = λ y. p.profile_spec keys ids m y ≡ None in
    subst P (sym e)
    (both_none
    (component_none d keys ids all.profile_ids same_id m (key_fresh keys all.profiles same_key m key first)
    (needed_text (codes "name") label m d (get (codes "name") d) w.1.0)
    (needed_text (codes "vendor") label m d (get (codes "vendor") d) w.1.1.0)
    (needed_text (codes "version") (t.version all.profile_ids) m d (get (codes "version") d) w.1.1.1.0))
    (both_none
    (kept_none (codes "attributes")
    (map_none (λ (a : Bytes × Kind). a) field_of (λ a. a.0) (λ a. profile_kind a.1) (codes "attributes") (named (text profile_word)) m d
    (attribute_none m d) own (get (codes "attributes") d) (map-id own) w.1.1.1.1.0))
    (both_none
    (kept_none (codes "unique")
    (list_none (λ (s : Bytes). s) text_of (λ _ s. known (p.kind_of own s)) (codes "unique") (text t.attribute_name) m d
    (unique_none own d (same_kind (codes "attributes") d fits.attributes)) (listed text_of (items_at (codes "unique") d)) (get (codes "unique") d) (map-id (listed text_of (items_at (codes "unique") d))) w.1.1.1.1.1.0))
    ended)))

table_none : (all : Names) (parts : p.Known) → Agree all parts → (m : ℕ) (owner : Data) (x : Table) (k : Bytes) (d : Data) → x ≡ table_of k d → named (text (reference all.profiles)) k m owner d ≡ None → known (parts.profiles x.profile) ≡ None
table_none all parts agree m owner x k d e h =
    ap (λ (y : Table). known (parts.profiles y.profile)) e
    ∙ referred parts.profiles all.profiles agree.profiles m owner (text_of d) (text_keeps (reference all.profiles) m owner d (later_none (name_rule k) (text (reference all.profiles) m owner d) h))

service_none : (all : Names) (parts : p.Known) → Agree all parts → (keys : Numbering) (ids : p.IdNumbering) → ((q : Bytes) → keys q ≡ all.services q) → ((q : ComponentId) → ids q ≡ all.service_ids q) → (owner : Data) (m : ℕ) (x : Service) (d : Data) → x ≡ service_of d → object (t.service_members all) m owner d ≡ None → p.service parts keys ids m x ≡ None
service_none all parts agree keys ids same_key same_id owner m x d e h =
    let w = object_members (t.service_members all) m owner d h in
    let key : Bytes = text_at (codes "key") d in
    let first = named_fresh all.services m d key (needed_text (codes "key") (fresh_name all.services) m d (get (codes "key") d) w.0) in
    let root = needed_text (codes "root") (reference all.blocks) m d (get (codes "root") d) w.1.1.1.1.0 in
    let P : Service → Type 0 = λ y. p.service parts keys ids m y ≡ None in
    subst P (sym e)
    (both_none
    (component_none d keys ids all.service_ids same_id m (key_fresh keys all.services same_key m key first)
    (needed_text (codes "name") label m d (get (codes "name") d) w.1.0)
    (needed_text (codes "vendor") label m d (get (codes "vendor") d) w.1.1.0)
    (needed_text (codes "version") (t.version all.service_ids) m d (get (codes "version") d) w.1.1.1.0))
    (both_none (kept_none (codes "root") (referred parts.blocks all.blocks agree.blocks m d (text_at (codes "root") d) root)) ended))

-- aliases and relations
alias_none : (all : Names) (parts : p.Known) → Agree all parts → (b : Block) (owner : Data) → block_row b ≡ block_of owner → IsBlock owner → (m : ℕ) (x : Bytes × Bytes) (k : Bytes) (d : Data) → x ≡ alias_of k d → t.alias_entry all k m owner d ≡ None → alias (p.kind_of b.attributes x.0) (parts.alias_kind x.1) ≡ None
alias_none all parts agree b owner same fits m x k d e h =
    let kind : Option Kind = attribute_kind owner k in
    let rule = text_keeps (t.alias_name all kind) m owner d (later_none (known kind) (text (t.alias_name all kind) m owner d) h) in
    ap (λ (a : Bytes × Bytes). alias (p.kind_of b.attributes a.0) (parts.alias_kind a.1)) e
    ∙ ap (λ (o : Option Kind). alias o (parts.alias_kind (text_of d))) (block_kind b owner same fits k)
    ∙ ap (λ (o : Option Kind). alias kind o) (agree.aliases (text_of d))
    ∙ later_none (name_rule (text_of d)) (alias kind (all.alias_kind (text_of d))) rule

relation_none : (all : Names) (parts : p.Known) → Agree all parts → (m : ℕ) (owner : Data) (x : Relation) (k : Bytes) (d : Data) → x ≡ relation_of k d → named (t.relation all) k m owner d ≡ None → p.relation parts x ≡ None
relation_none all parts agree m owner x k d e h =
    let ws : List Want = need (codes "block") (text (reference all.blocks)) ∷ may (codes "priority") priority ∷ [] in
    let w = object_members ws m owner d (later_none (name_rule k) (t.relation all m owner d) h) in
    let P : Relation → Type 0 = λ y. p.relation parts y ≡ None in
    subst P (sym e) (kept_none (codes "block") (referred parts.blocks all.blocks agree.blocks m d (text_at (codes "block") d) (needed_text (codes "block") (reference all.blocks) m d (get (codes "block") d) w.0)))

-- handlers
known_event : (b built : Bool) (o : Option ℕ) → IsTrue (is_some (if b then o else None) || built) → IsTrue (is_some o || built)
known_event true built o h = h
known_event false true None h = refl
known_event false true (Some k) h = refl
known_event false false o h = cc

where_known : (a b : Bool) (parts all : Option ℕ) (m : ℕ) → (IsTrue b → IsTrue a) → parts ≡ all → (if b then fresh all m else here bad.UnknownName) ≡ None → (if a then fresh parts m else here bad.UnknownName) ≡ None
where_known true true parts all m holds same h = ap (λ (o : Option ℕ). fresh o m) same ∙ h
where_known true false parts all m holds same h = cc
where_known false true parts all m holds same h = absurd (true≢false (sym (holds refl)))
where_known false false parts all m holds same h = cc

event_known : (all : Names) (parts : p.Known) → Agree all parts → (s : Bytes) → IsTrue (n.is_event all s) → IsTrue (p.is_event parts s)
event_known all parts agree s h =
    let P : Option ℕ → Type 0 = λ o. IsTrue (is_some o || p.is_built_in s) in
    subst P (sym (agree.events s)) (known_event (is_name s) (p.is_built_in s) (all.events s) h)

event_name_none : (all : Names) (parts : p.Known) → Agree all parts → (ours theirs : Numbering) → ((q : Bytes) → ours q ≡ theirs q) → (m : ℕ) (owner : Data) (s : Bytes) → t.event_name all theirs m owner s ≡ None → p.event_name parts ours m s ≡ None
event_name_none all parts agree ours theirs same m owner s h =
    where_known (p.is_event parts s) (n.is_event all s) (ours s) (theirs s) m (event_known all parts agree s) (same s) h

texts_listed : (ds : Items) → texts_of ds ≡ listed text_of ds
texts_listed no_items = refl
texts_listed (item d ds) = ap (λ (l : List Bytes). text_of d ∷ l) (texts_listed ds)

variables_none : (b : Bool) (owner : Data) (ds : Items) → (if b && true then here bad.Range else items_fault (λ k. text (t.variable (texts_of ds)) k owner) 0 ds) ≡ None → (if b then here bad.Range else items (variable_word (listed text_of ds)) (listed text_of ds)) ≡ None
variables_none true owner ds h = cc
variables_none false owner ds h =
    items_none (λ (s : Bytes). s) text_of (variable_word (listed text_of ds)) (λ k. text (t.variable (texts_of ds)) k owner)
    (λ k x d e g.
    ap (λ (s : Bytes). variable_word (listed text_of ds) k s) e
    ∙ ap (λ (l : List Bytes). variable_word l k (text_of d)) (sym (texts_listed ds))
    ∙ text_keeps (t.variable (texts_of ds)) k owner d g)
    (listed text_of ds) ds (map-id (listed text_of ds)) h

initial_none : (event : Bytes) (m : ℕ) (owner : Data) (v : Option Data) → value_fault (may (codes "initial") (t.initial event)) m owner v ≡ None → p.initial event (option_map (listed text_of) (option_and_then as_array v)) ≡ None
initial_none event m owner None h = refl
initial_none event m owner (Some null) h = refl
initial_none event m owner (Some (boolean b)) h = refl
initial_none event m owner (Some (number x)) h = refl
initial_none event m owner (Some (string s)) h = refl
initial_none event m owner (Some (array ds)) h = variables_none (bytes_eq event (codes "activity-end")) owner ds h
initial_none event m owner (Some (an_object ms)) h = refl

same_event_field : (all : Names) (parts : p.Known) → Agree all parts → (event s : Bytes) → p.event_field parts event s ≡ n.event_field all event s
same_event_field all parts agree event s =
    ap (λ (types : List EventType). p.field_in types (parts.events event) event s) agree.types
    ∙ ap (λ (o : Option ℕ). p.field_in (listed event_type_of all.event_types) o event s) (agree.events event)
    ∙ same_field all.event_types (all.events event) event s agree.fit

rule_none : (all : Names) (parts : p.Known) → Agree all parts → (event : Bytes) (m : ℕ) (owner d : Data) → t.custom_rule all event m owner d ≡ None → p.custom_rule parts event (custom_rule_of d) ≡ None
rule_none all parts agree event m owner d h =
    let ws : List Want = need (codes "rule") (text t.selection_rule) ∷ need (codes "field") (text (t.selection_field all event)) ∷ [] in
    let w = object_members ws m owner d h in
    let field = needed_text (codes "field") (t.selection_field all event) m d (get (codes "field") d) w.1.0 in
    both_none (kept_none (codes "rule") (needed_text (codes "rule") t.selection_rule m d (get (codes "rule") d) w.0))
    (both_none (kept_none (codes "field") (ap (λ (o : Option Kind). text_field o) (same_event_field all parts agree event (text_at (codes "field") d)) ∙ field)) ended)

unwanted_never : (b : Bool) (P : Type 0) → (if b then here bad.Range else here bad.WrongType) ≡ None → P
unwanted_never true P h = cc
unwanted_never false P h = cc

custom_none : (all : Names) (parts : p.Known) → Agree all parts → (event : Bytes) (wanted : Bool) (m : ℕ) (owner : Data) (v : Option Data) → value_fault (t.custom_member all event wanted) m owner v ≡ None → p.custom parts event wanted (option_map custom_rule_of v) ≡ None
custom_none all parts agree event true m owner None h = cc
custom_none all parts agree event true m owner (Some d) h = rule_none all parts agree event m owner d h
custom_none all parts agree event false m owner None h = refl
custom_none all parts agree event false m owner (Some d) h = unwanted_never (is_some (as_object d)) (p.custom parts event false (Some (custom_rule_of d)) ≡ None) h

wanted_same : (o : Option Items) → p.wants_custom (option_map texts_of o) ≡ p.wants_custom (option_map (listed text_of) o)
wanted_same None = refl
wanted_same (Some ds) = ap (λ (l : List Bytes). p.wants_custom (Some l)) (texts_listed ds)

abbrev row_fault : p.Known → Numbering → ℕ → HandlerRow → Option Fault
row_fault parts handlers m r =
    and_then (under (codes "event") (p.event_name parts handlers m r.event))
    (and_then (under (codes "initial") (p.initial r.event r.initial))
    (and_then (under (codes "custom") (p.custom parts r.event (p.wants_custom r.initial) r.custom)) None))

handler_none : (all : Names) (parts : p.Known) → Agree all parts → (ours theirs : Numbering) → ((q : Bytes) → ours q ≡ theirs q) → (owner : Data) (m : ℕ) (x : BlockEvent) (d : Data) → handler_row x ≡ handler_of d → t.handler all theirs m owner d ≡ None → p.block_event parts ours m x ≡ None
handler_none all parts agree ours theirs same owner m x d e h =
    let event : Bytes = text_at (codes "event") d in
    let w = object_members (t.handler_members all theirs event (t.is_custom d)) m owner d h in
    let custom = custom_none all parts agree event (t.is_custom d) m d (get (codes "custom") d) w.1.1.0 in
    let P : Bool → Type 0 = λ b. p.custom parts event b (custom_of d) ≡ None in
    ap (row_fault parts ours m) e
    ∙ both_none
    (kept_none (codes "event") (event_name_none all parts agree ours theirs same m d event (needed_text (codes "event") (t.event_name all theirs) m d (get (codes "event") d) w.0)))
    (both_none (kept_none (codes "initial") (initial_none event m d (get (codes "initial") d) w.1.0))
    (both_none (kept_none (codes "custom") (subst P (wanted_same (option_and_then as_array (get (codes "initial") d))) custom)) ended))

handlers_none : (all : Names) (parts : p.Known) → Agree all parts → (hs : List BlockEvent) (m : ℕ) (owner : Data) (v : Option Data) → map handler_row hs ≡ listed handler_of (items_or_none (option_and_then as_array v)) → value_fault (may (codes "events") (t.handlers all)) m owner v ≡ None → items (p.block_event parts (p.key_number (λ x. x.event) hs)) hs ≡ None
handlers_none all parts agree hs m owner None e h = nothing_none handler_row (p.block_event parts (p.key_number (λ x. x.event) hs)) hs e
handlers_none all parts agree hs m owner (Some d) e h =
    let theirs : Numbering = numbers_from (codes "event") 0 (items_of d) in
    let has = list_items (HasText (codes "event")) (t.handler all theirs) m owner
    (λ k x g.
    let w = object_members (t.handler_members all theirs (text_at (codes "event") x) (t.is_custom x)) k owner x g in
    needed_there (codes "event") (t.event_name all theirs) k x (get (codes "event") x) w.0)
    d h in
    array_none handler_row handler_of (p.block_event parts (p.key_number (λ x. x.event) hs)) (t.handler all theirs) m owner
    (handler_none all parts agree (p.key_number (λ x. x.event) hs) theirs (same_numbers handler_row (codes "event") (λ (r : HandlerRow). r.event) handler_of (λ x. refl) hs (items_of d) e has) owner)
    hs d e h

-- methods
parameter_none : (ours theirs : Numbering) → ((q : Bytes) → ours q ≡ theirs q) → (owner : Data) (m : ℕ) (x : Bytes × Kind) (d : Data) → x ≡ parameter_of d → t.parameter theirs m owner d ≡ None → p.parameter ours m x ≡ None
parameter_none ours theirs same owner m x d e h =
    let ws : List Want = need (codes "name") (text (fresh_name theirs)) ∷ need (codes "type") (text type_word) ∷ [] in
    let w = object_members ws m owner d h in
    let name : Bytes = text_at (codes "name") d in
    let first = named_fresh theirs m d name (needed_text (codes "name") (fresh_name theirs) m d (get (codes "name") d) w.0) in
    let P : Bytes × Kind → Type 0 = λ y. p.parameter ours m y ≡ None in
    subst P (sym e) (kept_none (codes "name") (key_fresh ours theirs same m name first))

parameters_none : (m : ℕ) (owner : Data) (v : Option Data) → value_fault (may (codes "params") t.parameters) m owner v ≡ None → items (p.parameter (p.key_number (λ x. x.0) (listed parameter_of (items_or_none (option_and_then as_array v))))) (listed parameter_of (items_or_none (option_and_then as_array v))) ≡ None
parameters_none m owner None h = refl
parameters_none m owner (Some d) h =
    let all : List (Bytes × Kind) = listed parameter_of (items_of d) in
    let theirs : Numbering = numbers_from (codes "name") 0 (items_of d) in
    let ws : List Want = need (codes "name") (text (fresh_name theirs)) ∷ need (codes "type") (text type_word) ∷ [] in
    let has = list_items (HasText (codes "name")) (t.parameter theirs) m owner
    (λ k x g. needed_there (codes "name") (fresh_name theirs) k x (get (codes "name") x) (object_members ws k owner x g).0)
    d h in
    array_none (λ (x : Bytes × Kind). x) parameter_of (p.parameter (p.key_number (λ x. x.0) all)) (t.parameter theirs) m owner
    (parameter_none (p.key_number (λ x. x.0) all) theirs (same_numbers (λ (x : Bytes × Kind). x) (codes "name") (λ x. x.0) parameter_of (λ x. refl) all (items_of d) (map-id all) has) owner)
    all d (map-id all) h

abbrev method_fault : MethodRow → Option Fault
method_fault r = and_then (under (codes "params") (items (p.parameter (p.key_number (λ x. x.0) r.params)) r.params)) None

method_none : (m : ℕ) (owner : Data) (x : Method) (k : Bytes) (d : Data) → method_row x ≡ method_of k d → named t.method k m owner d ≡ None → p.method x ≡ None
method_none m owner x k d e h =
    let ws : List Want = may (codes "params") t.parameters ∷ may (codes "returns") (or_null (text type_word)) ∷ need (codes "do") script ∷ [] in
    let w = object_members ws m owner d (later_none (name_rule k) (t.method m owner d) h) in
    ap method_fault e ∙ both_none (kept_none (codes "params") (parameters_none m d (get (codes "params") d) w.0)) ended

-- blocks
block_none : (all : Names) (parts : p.Known) → Agree all parts → (ids : p.IdNumbering) → ((q : ComponentId) → ids q ≡ all.block_ids q) → (owner : Data) (m : ℕ) (b : Block) (d : Data) → IsBlock d → block_row b ≡ block_of d → object (t.block_members all) m owner d ≡ None → p.block parts ids m b ≡ None
block_none all parts agree ids same_id owner m b d fits e h =
    let w = object_members (t.block_members all) m owner d h in
    let r = w.1.1.1.1 in
    let key : Bytes = text_at (codes "key") d in
    let first = named_fresh all.blocks m d key (needed_text (codes "key") (fresh_name all.blocks) m d (get (codes "key") d) w.0) in
    both_none
    (ap (λ (x : BlockRow). p.component (λ (y : BlockRow). y.key) (λ y. y.id) parts.blocks ids m x) e
    ∙ component_none d parts.blocks ids all.block_ids same_id m (key_fresh parts.blocks all.blocks agree.blocks m key first)
    (needed_text (codes "name") label m d (get (codes "name") d) w.1.0)
    (needed_text (codes "vendor") label m d (get (codes "vendor") d) w.1.1.0)
    (needed_text (codes "version") (t.version all.block_ids) m d (get (codes "version") d) w.1.1.1.0))
    (both_none
    (both_none
    (kept_none (codes "aliases")
    (map_none (λ (a : Bytes × Bytes). a) alias_of (λ a. a.0) (λ a. alias (p.kind_of b.attributes a.0) (parts.alias_kind a.1)) (codes "aliases") (t.alias_entry all) m d
    (alias_none all parts agree b d e fits m) b.aliases (get (codes "aliases") d) (map-id b.aliases ∙ ap (λ (x : BlockRow). x.aliases) e) r.1.1.0))
    (both_none
    (kept_none (codes "relations")
    (map_none (λ (a : Relation). a) relation_of (λ a. a.name) (p.relation parts) (codes "relations") (named (t.relation all)) m d
    (relation_none all parts agree m d) b.relations (get (codes "relations") d) (map-id b.relations ∙ ap (λ (x : BlockRow). x.relations) e) r.1.1.1.0))
    (both_none
    (kept_none (codes "events") (handlers_none all parts agree b.events m d (get (codes "events") d) (ap (λ (x : BlockRow). x.events) e) r.1.1.1.1.0))
    (both_none
    (kept_none (codes "methods")
    (map_none method_row method_of (λ x. x.name) p.method (codes "methods") (named t.method) m d
    (method_none m d) b.methods (get (codes "methods") d) (ap (λ (x : BlockRow). x.methods) e) r.1.1.1.1.1.0))
    ended))))
    ended)

-- the whole document
names_agree : (d : Data) (parts : Parts) → IsDocument d → parts_row parts ≡ parts_in d → Agree (names_in d) (p.known_in parts)
names_agree d parts fits e =
    let events : parts.events ≡ listed event_type_of (items_at (codes "events") d) = ap (λ (r : PartsRow). r.events) e in
    let profiles : parts.profiles ≡ listed profile_of (items_at (codes "profiles") d) = ap (λ (r : PartsRow). r.profiles) e in
    let blocks : map block_row parts.blocks ≡ listed block_of (items_at (codes "blocks") d) = ap (λ (r : PartsRow). r.blocks) e in
    record {
      events = same_numbers (λ (x : EventType). x) (codes "key") (λ x. x.key) event_type_of (λ x. refl) parts.events (items_at (codes "events") d) (map-id parts.events ∙ events)
          (each_item (λ x f. text_there (member_text (codes "key") x) f.key) (items_at (codes "events") d) fits.events);
      profiles = same_numbers (λ (x : ProfileSpec). x) (codes "key") (λ x. x.key) profile_of (λ x. refl) parts.profiles (items_at (codes "profiles") d) (map-id parts.profiles ∙ profiles)
          (each_item (λ x f. text_there (member_text (codes "key") x) f.key) (items_at (codes "profiles") d) fits.profiles);
      blocks = same_numbers block_row (codes "key") (λ (x : BlockRow). x.key) block_of (λ x. refl) parts.blocks (items_at (codes "blocks") d) blocks
          (each_item (λ x f. text_there (member_text (codes "key") x) f.key) (items_at (codes "blocks") d) fits.blocks);
      types = events;
      fit = fits.events;
      aliases = same_aliases parts.blocks (items_at (codes "blocks") d) blocks fits.blocks;
    }

-- Parts of a document without shape fault have no fault.
pub sound : (d : Data) (parts : Parts) → t.shape_fault d ≡ None → parts_row parts ≡ parts_in d → p.parts_fault parts ≡ None
sound d parts shape e =
    let all : Names = names_in d in
    let fits = shaped d shape in
    let agree = names_agree d parts fits e in
    let w = object_members (t.top_members all) 0 d d shape in
    let events : parts.events ≡ listed event_type_of (items_at (codes "events") d) = ap (λ (r : PartsRow). r.events) e in
    let profiles : parts.profiles ≡ listed profile_of (items_at (codes "profiles") d) = ap (λ (r : PartsRow). r.profiles) e in
    let tables : parts.tables ≡ entries table_of (members_at (codes "tables") d) = ap (λ (r : PartsRow). r.tables) e in
    let blocks : map block_row parts.blocks ≡ listed block_of (items_at (codes "blocks") d) = ap (λ (r : PartsRow). r.blocks) e in
    let services : parts.services ≡ listed service_of (items_at (codes "services") d) = ap (λ (r : PartsRow). r.services) e in
    let known_parts : p.Known = p.known_in parts in
    let service_keys : Numbering = p.key_number (λ (x : Service). x.key) parts.services in
    let event_ids : p.IdNumbering = p.id_number (λ (x : EventType). x.id) parts.events in
    let profile_ids : p.IdNumbering = p.id_number (λ (x : ProfileSpec). x.id) parts.profiles in
    let block_ids : p.IdNumbering = p.id_number (λ (x : Block). x.id) parts.blocks in
    let service_ids : p.IdNumbering = p.id_number (λ (x : Service). x.id) parts.services in
    both_none
    (kept_none (codes "events")
    (list_none (λ (x : EventType). x) event_type_of (p.event_type known_parts.events event_ids) (codes "events") (object (t.event_members all)) 0 d
    (event_none all known_parts.events event_ids agree.events (same_ids (λ (x : EventType). x) (λ x. x.id) event_type_of (λ x. refl) parts.events (items_at (codes "events") d) (map-id parts.events ∙ events)) d)
    parts.events (get (codes "events") d) (map-id parts.events ∙ events) w.0))
    (both_none
    (kept_none (codes "profiles")
    (fitting_list_none IsProfile (λ (x : ProfileSpec). x) profile_of (p.profile_spec known_parts.profiles profile_ids) (codes "profiles") (object (t.profile_members all)) 0 d
    (profile_none all known_parts.profiles profile_ids agree.profiles (same_ids (λ (x : ProfileSpec). x) (λ x. x.id) profile_of (λ x. refl) parts.profiles (items_at (codes "profiles") d) (map-id parts.profiles ∙ profiles)) d)
    parts.profiles (get (codes "profiles") d) (map-id parts.profiles ∙ profiles) fits.profiles w.1.0))
    (both_none
    (kept_none (codes "tables")
    (map_none (λ (x : Table). x) table_of (λ x. x.name) (λ x. known (known_parts.profiles x.profile)) (codes "tables") (named (text (reference all.profiles))) 0 d
    (table_none all known_parts agree 0 d) parts.tables (get (codes "tables") d) (map-id parts.tables ∙ tables) w.1.1.0))
    (both_none
    (kept_none (codes "blocks")
    (fitting_list_none IsBlock block_row block_of (p.block known_parts block_ids) (codes "blocks") (object (t.block_members all)) 0 d
    (block_none all known_parts agree block_ids (same_ids block_row (λ (x : BlockRow). x.id) block_of (λ x. refl) parts.blocks (items_at (codes "blocks") d) blocks) d)
    parts.blocks (get (codes "blocks") d) blocks fits.blocks w.1.1.1.0))
    (both_none
    (kept_none (codes "services")
    (list_none (λ (x : Service). x) service_of (p.service known_parts service_keys service_ids) (codes "services") (object (t.service_members all)) 0 d
    (service_none all known_parts agree service_keys service_ids
    (same_numbers (λ (x : Service). x) (codes "key") (λ x. x.key) service_of (λ x. refl) parts.services (items_at (codes "services") d) (map-id parts.services ∙ services)
    (each_item (λ x f. text_there (member_text (codes "key") x) f.key) (items_at (codes "services") d) fits.services))
    (same_ids (λ (x : Service). x) (λ x. x.id) service_of (λ x. refl) parts.services (items_at (codes "services") d) (map-id parts.services ∙ services)) d)
    parts.services (get (codes "services") d) (map-id parts.services ∙ services) w.1.1.1.1.0))
    ended))))
