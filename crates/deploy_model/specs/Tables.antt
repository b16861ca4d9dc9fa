-- The tables of members of a deployment's objects, and the first fault that parts have.
-- Types, missing and unknown members and the forms of names are no matter of parts: they are those of a document from which parts are read.
use Rattle.std.specs.Prelude.{ℕ, ◌||◌, Bool, true, false, List, [], ◌∷◌, not, Option, Some, None, option_and_then, slice_get, is_some, codes, bytes_eq, if◌then◌else◌}
use Rattle.std.specs.List.{list_any, position_from}
use Rattle.built_in_events.specs.declared.built_in.BuiltInEvent.TheVariants as built_in_events
use Rattle.built_in_events.specs.BuiltIn.{name_of as built_in_name}
use Rattle.slee_value.specs.declared.kind.Kind.{Kind}
use Rattle.slee_value.specs.declared.component.ComponentId.{ComponentId}
use Rattle.script_tree.specs.Tree.{Bytes}
use Rattle.script_types.specs.Codes.{built_in, named, kind_in}
use Rattle.deploy_model.specs.declared.parts.EventType.{EventType}
use Rattle.deploy_model.specs.declared.parts.ProfileSpec.{ProfileSpec}
use Rattle.deploy_model.specs.declared.parts.Table.{Table}
use Rattle.deploy_model.specs.declared.parts.Relation.{Relation}
use Rattle.deploy_model.specs.declared.parts.CustomRule.{CustomRule}
use Rattle.deploy_model.specs.declared.parts.BlockEvent.{BlockEvent}
use Rattle.deploy_model.specs.declared.parts.Method.{Method}
use Rattle.deploy_model.specs.declared.parts.Block.{Block}
use Rattle.deploy_model.specs.declared.parts.Service.{Service}
use Rattle.deploy_model.specs.declared.parts.Parts.{Parts}
use Rattle.deploy_model.specs.declared.fault.DeployBad.TheVariants as bad
use Rattle.deploy_model.specs.Faults.{Fault, here, unless, and_then}
use Rattle.deploy_model.specs.Rules.{Rule, table, member, items, entries, label, Numbering, or_later, fresh, known, profile_kind, variable_word, rule_word, text_field, alias, is_same_id}

-- The type of a declared name.
abbrev pub kind_of : List (Bytes × Kind) → Bytes → Option Kind
kind_of [] name = None
kind_of (f ∷ fields) name = if bytes_eq name f.0 then Some f.1 else kind_of fields name

-- Which components of a list a name, vendor and version belong to: the first.
abbrev pub IdNumbering : Type 0
IdNumbering = ComponentId → Option ℕ

-- Which item of a list has this key, and which this name, vendor and version: the first.
abbrev pub key_number : {A : Type 0} → (A → Bytes) → List A → Numbering
key_number key xs q = position_from (λ x. bytes_eq q (key x)) 0 xs

abbrev pub id_number : {A : Type 0} → (A → ComponentId) → List A → IdNumbering
id_number id xs q = position_from (λ x. is_same_id q (id x)) 0 xs

-- What the tables look up in all parts.
pub record Known : Type 0 where
  pub events : Numbering
  pub profiles : Numbering
  pub blocks : Numbering
  pub event_types : List EventType
  -- the type of the first attribute with an alias
  pub alias_kind : Bytes → Option Kind

-- The version is the last of the three, where a repeated component shows.
abbrev pub version : IdNumbering → ℕ → Rule ComponentId
version ids n id = and_then (label id.version) (fresh (ids id) n)

-- The texts that identify a component.
abbrev pub identity : IdNumbering → ℕ → Rule ComponentId
identity ids n =
    table (member (codes "name") (λ x. x.name) label
    ∷ member (codes "vendor") (λ x. x.vendor) label
    ∷ member (codes "version") (λ x. x) (version ids n)
    ∷ [])

-- The members of each array's items: key, name, vendor, version.
abbrev pub component : {A : Type 0} → (A → Bytes) → (A → ComponentId) → Numbering → IdNumbering → ℕ → Rule A
component key id keys ids n = table (member (codes "key") key (λ k. fresh (keys k) n) ∷ (λ x. identity ids n (id x)) ∷ [])

-- The one built-in event whose name has the form of a key; no event type may have it.
abbrev pub is_taken : Bytes → Bool
is_taken key = bytes_eq key (built_in_name built_in_events.Timer)

abbrev pub event_type : Numbering → IdNumbering → ℕ → Rule EventType
event_type keys ids n =
    table (member (codes "key") (λ e. e.key) (λ k. unless (not (is_taken k)) bad.Repeated)
    ∷ component (λ e. e.key) (λ e. e.id) keys ids n
    ∷ [])

abbrev pub profile_spec : Numbering → IdNumbering → ℕ → Rule ProfileSpec
profile_spec keys ids n p =
    table (component (λ q. q.key) (λ q. q.id) keys ids n
    ∷ member (codes "attributes") (λ q. q.attributes) (entries (λ a. a.0) (λ a. profile_kind a.1))
    ∷ member (codes "unique") (λ q. q.unique) (items (λ _ name. known (kind_of p.attributes name)))
    ∷ []) p

abbrev pub tables : Known → Rule (List Table)
tables all = entries (λ t. t.name) (λ t. known (all.profiles t.profile))

abbrev pub relation : Known → Rule Relation
relation all = member (codes "block") (λ r. r.block) (λ key. known (all.blocks key))

-- The type of a field of a built-in event.
abbrev pub built_in_field : Bytes → Bytes → Option Kind
built_in_field event field = option_and_then (λ e. kind_in field e.fields) (named (λ e. e.name) event built_in)

-- Whether an event is built in.
abbrev pub is_built_in : Bytes → Bool
is_built_in event = is_some (named (λ e. e.name) event built_in)

-- The type of a field of an event: the declared one of this number, or a built-in one.
abbrev pub field_in : List EventType → Option ℕ → Bytes → Bytes → Option Kind
field_in types None event field = built_in_field event field
field_in types (Some n) event field = option_and_then (λ e. kind_of e.fields field) (slice_get types n)

-- The type of a field of an event that is declared or built in.
abbrev pub event_field : Known → Bytes → Bytes → Option Kind
event_field all event field = field_in all.event_types (all.events event) event field

-- An event that is declared or built in.
abbrev pub is_event : Known → Bytes → Bool
is_event all event = is_some (all.events event) || is_built_in event

-- The event that a handler is for; a block has one handler for each.
abbrev pub event_name : Known → Numbering → ℕ → Rule Bytes
event_name all handlers n event = if is_event all event then fresh (handlers event) n else here bad.UnknownName

-- The variables of an initial event; the end of an activity never is one.
abbrev pub initial : Bytes → Rule (Option (List Bytes))
initial event None = None
initial event (Some words) = if bytes_eq event (built_in_name built_in_events.ActivityEnd) then here bad.Range else items (variable_word words) words

-- Whether an event is initial by custom selection.
abbrev pub wants_custom : Option (List Bytes) → Bool
wants_custom None = false
wants_custom (Some words) = list_any (bytes_eq (codes "custom")) words

abbrev pub custom_rule : Known → Bytes → Rule CustomRule
custom_rule all event =
    table (member (codes "rule") (λ c. c.rule) rule_word
    ∷ member (codes "field") (λ c. c.field) (λ field. text_field (event_field all event field))
    ∷ [])

-- A custom selection, where it is wanted and nowhere else.
abbrev pub custom : Known → Bytes → Bool → Rule (Option CustomRule)
custom all event true None = here bad.Missing
custom all event true (Some c) = custom_rule all event c
custom all event false None = None
custom all event false (Some c) = here bad.Range

abbrev pub block_event : Known → Numbering → ℕ → Rule BlockEvent
block_event all handlers n h =
    table (member (codes "event") (λ x. x.event) (event_name all handlers n)
    ∷ member (codes "initial") (λ x. x.initial) (initial h.event)
    ∷ member (codes "custom") (λ x. x.custom) (custom all h.event (wants_custom h.initial))
    ∷ []) h

-- A parameter of a method.
abbrev pub parameter : Numbering → ℕ → Rule (Bytes × Kind)
parameter names n = member (codes "name") (λ p. p.0) (λ name. fresh (names name) n)

abbrev pub method : Rule Method
method m = table (member (codes "params") (λ x. x.params) (items (parameter (key_number (λ p. p.0) m.params))) ∷ []) m

-- What only a block has, behind its key, name, vendor and version.
abbrev pub block_members : Known → Rule Block
block_members all b =
    table (member (codes "aliases") (λ x. x.aliases) (entries (λ a. a.0) (λ a. alias (kind_of b.attributes a.0) (all.alias_kind a.1)))
    ∷ member (codes "relations") (λ x. x.relations) (entries (λ r. r.name) (relation all))
    ∷ member (codes "events") (λ x. x.events) (items (block_event all (key_number (λ h. h.event) b.events)))
    ∷ member (codes "methods") (λ x. x.methods) (entries (λ m. m.name) method)
    ∷ []) b

abbrev pub block : Known → IdNumbering → ℕ → Rule Block
block all ids n = table (component (λ x. x.key) (λ x. x.id) all.blocks ids n ∷ block_members all ∷ [])

abbrev pub service : Known → Numbering → IdNumbering → ℕ → Rule Service
service all keys ids n =
    table (component (λ s. s.key) (λ s. s.id) keys ids n
    ∷ member (codes "root") (λ s. s.root) (λ key. known (all.blocks key))
    ∷ [])

-- The type, where this is its alias.
abbrev pub aliased : Option Kind → Bytes → Bytes → Option Kind
aliased kind alias name = if bytes_eq name alias then kind else None

-- The type of a block's first attribute with this alias, by the attributes' types.
abbrev pub alias_in : (Bytes → Option Kind) → List (Bytes × Bytes) → Bytes → Option Kind
alias_in kind [] name = None
alias_in kind (a ∷ aliases) name = or_later (aliased (kind a.0) a.1 name) (alias_in kind aliases name)

-- The type of the first attribute of any block with this alias.
abbrev pub alias_kind : List Block → Bytes → Option Kind
alias_kind [] name = None
alias_kind (b ∷ blocks) name = or_later (alias_in (kind_of b.attributes) b.aliases name) (alias_kind blocks name)

-- What the tables look up, in these parts.
abbrev pub known_in : Parts → Known
known_in parts = record {
  events = key_number (λ e. e.key) parts.events;
  profiles = key_number (λ p. p.key) parts.profiles;
  blocks = key_number (λ b. b.key) parts.blocks;
  event_types = parts.events;
  alias_kind = alias_kind parts.blocks;
}

-- The first fault of parts in the order of the walk, by what the tables look up.
abbrev pub fault_by : Known → Rule Parts
fault_by all parts =
    table (member (codes "events") (λ x. x.events) (items (event_type all.events (id_number (λ e. e.id) parts.events)))
    ∷ member (codes "profiles") (λ x. x.profiles) (items (profile_spec all.profiles (id_number (λ p. p.id) parts.profiles)))
    ∷ member (codes "tables") (λ x. x.tables) (tables all)
    ∷ member (codes "blocks") (λ x. x.blocks) (items (block all (id_number (λ b. b.id) parts.blocks)))
    ∷ member (codes "services") (λ x. x.services) (items (service all (key_number (λ s. s.key) parts.services) (id_number (λ s. s.id) parts.services)))
    ∷ []) parts

-- The first fault of parts in the order of the walk, none exactly where they are a deployment.
abbrev pub parts_fault : Parts → Option Fault
parts_fault parts = fault_by (known_in parts) parts

-- Whether parts are a deployment.
abbrev pub is_deployment : Parts → Bool
is_deployment parts = not (is_some (parts_fault parts))
