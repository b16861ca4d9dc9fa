-- A deployment with every name resolved, and what is looked up in it by number or name. An item's number is its place in its list, from 0.
use Rattle.std.specs.Prelude.{ℕ, ℤ, ◌+◌, Bool, false, List, [], ◌∷◌, ◌++◌, map, filter, flat_map, position, is_some, Option, option_map, option_and_then, slice_get, if◌then◌else◌, bytes_eq}
use Rattle.std.specs.Option.{option_map_or}
use Rattle.slee_value.specs.Order.{is_below}
use Rattle.slee_value.specs.declared.kind.Kind.{Kind}
use Rattle.script_tree.specs.Tree.{Bytes}
use Rattle.script_types.specs.Codes.{built_in, named}
use Rattle.script_types.specs.declared.codes.FieldCode.{FieldCode}
use Rattle.script_types.specs.declared.codes.EventCode.{EventCode}
use Rattle.script_types.specs.declared.codes.AttributeCode.{AttributeCode}
use Rattle.script_types.specs.declared.codes.RelationCode.{RelationCode}
use Rattle.deploy_model.specs.declared.choice.Variable.{Variable}
use Rattle.deploy_model.specs.declared.choice.SelectRule.{SelectRule}

-- A profile specification: its attributes in byte order, and those in which no two rows of a table may be the same (JSR 240, chapter 10).
pub record DeployedProfile : Type 0 where
  pub key : Bytes
  pub attributes : List FieldCode
  pub unique : List Bytes

-- A profile table, with the number of its profile specification.
pub record DeployedTable : Type 0 where
  pub name : Bytes
  pub profile : ℕ

-- A custom selection: a rule, and the text field of the event that it reads.
pub record CustomChoice : Type 0 where
  pub rule : SelectRule
  pub field : Bytes

-- An event that a block handles: the variables where it is initial (JSR 240, 8.5), and whether it is masked when an entity is attached.
pub record Handling : Type 0 where
  pub event : Bytes
  pub initial : Option (List Variable)
  pub custom : Option CustomChoice
  pub mask : Bool

-- A block (an SBB; JSR 240, chapter 6): fields, attributes and relations in byte order, the handled events as deployed.
pub record DeployedBlock : Type 0 where
  pub key : Bytes
  pub fields : List FieldCode
  pub attributes : List AttributeCode
  pub relations : List RelationCode
  pub events : List Handling

-- A service, with the number of its root's block (JSR 240, chapter 9).
pub record DeployedService : Type 0 where
  pub key : Bytes
  pub root : ℕ
  pub priority : ℤ
  pub active : Bool

-- A deployment: tables in byte order, all else as deployed.
pub record Deployed : Type 0 where
  pub events : List EventCode
  pub profiles : List DeployedProfile
  pub tables : List DeployedTable
  pub blocks : List DeployedBlock
  pub services : List DeployedService

-- The event type that is declared or built in.
abbrev pub event_type : Deployed → Bytes → Option EventCode
event_type d event = named (λ e. e.name) event (built_in ++ d.events)

-- The fields of an event that is declared or built in.
abbrev pub event_fields : Deployed → Bytes → Option (List FieldCode)
event_fields d event = option_map (λ e. e.fields) (event_type d event)

-- Whether the event is declared or built in.
abbrev pub is_event : Deployed → Bytes → Bool
is_event d event = is_some (event_type d event)

-- Whether the event is declared, and so may be fired.
abbrev pub is_declared : Deployed → Bytes → Bool
is_declared d event = is_some (named (λ e. e.name) event d.events)

-- The block of this number.
abbrev pub block_at : Deployed → ℕ → Option DeployedBlock
block_at d n = slice_get d.blocks n

-- The service of this number.
abbrev pub service_at : Deployed → ℕ → Option DeployedService
service_at d n = slice_get d.services n

-- The table of this number.
abbrev pub table_at : Deployed → ℕ → Option DeployedTable
table_at d n = slice_get d.tables n

-- The number of the declared event of this key.
abbrev pub event_named : Deployed → Bytes → Option ℕ
event_named d key = position (λ e. bytes_eq e.name key) d.events

-- The number of the profile specification of this key.
abbrev pub profile_named : Deployed → Bytes → Option ℕ
profile_named d key = position (λ p. bytes_eq p.key key) d.profiles

-- The number of the block of this key.
abbrev pub block_named : Deployed → Bytes → Option ℕ
block_named d key = position (λ b. bytes_eq b.key key) d.blocks

-- The number of the service of this key.
abbrev pub service_named : Deployed → Bytes → Option ℕ
service_named d key = position (λ s. bytes_eq s.key key) d.services

-- The number of the table of this name.
abbrev pub table_named : Deployed → Bytes → Option ℕ
table_named d name = position (λ t. bytes_eq t.name name) d.tables

-- The key of the block of this number, empty where there is none.
abbrev pub block_key : Deployed → ℕ → Bytes
block_key d n = option_map_or (λ b. b.key) (block_at d n) []

-- The key of the service of this number, empty where there is none.
abbrev pub service_key : Deployed → ℕ → Bytes
service_key d n = option_map_or (λ s. s.key) (service_at d n) []

-- The name of the table of this number, empty where there is none.
abbrev pub table_name : Deployed → ℕ → Bytes
table_name d n = option_map_or (λ t. t.name) (table_at d n) []

-- The fields of the block's entities.
abbrev pub block_fields : Deployed → ℕ → List FieldCode
block_fields d n = option_map_or (λ b. b.fields) (block_at d n) []

-- How a block handles the event, if it does.
abbrev pub handling_of : DeployedBlock → Bytes → Option Handling
handling_of block event = named (λ h. h.event) event block.events

-- How the block of this number handles the event, if it does.
abbrev pub block_event : Deployed → ℕ → Bytes → Option Handling
block_event d n event = option_and_then (λ b. handling_of b event) (block_at d n)

-- Whether the block of this number handles the event.
abbrev pub handles : Deployed → ℕ → Bytes → Bool
handles d n event = is_some (block_event d n event)

-- Whether the block of this number declares the event initial.
abbrev pub is_initial : Deployed → ℕ → Bytes → Bool
is_initial d n event = option_map_or (λ h. is_some h.initial) (block_event d n event) false

-- The numbers of the blocks that handle the event, rising, counted from n.
abbrev pub handlers_from : ℕ → List DeployedBlock → Bytes → List ℕ
handlers_from n [] event = []
handlers_from n (block ∷ blocks) event =
    if is_some (handling_of block event) then n ∷ handlers_from (n + 1) blocks event else handlers_from (n + 1) blocks event

-- The numbers of the blocks that handle the event, rising.
abbrev pub handlers_of : Deployed → Bytes → List ℕ
handlers_of d event = handlers_from 0 d.blocks event

-- The child relation of this name of the block of this number.
abbrev pub relation_of : Deployed → ℕ → Bytes → Option RelationCode
relation_of d n name = option_and_then (λ b. named (λ r. r.name) name b.relations) (block_at d n)

-- The type of the attribute of activities that has this key, in some block.
abbrev pub attribute_kind : Deployed → Bytes → Option Kind
attribute_kind d key = option_map (λ a. a.kind) (named (λ a. a.key) key (flat_map (λ b. b.attributes) d.blocks))

-- The profile specification of the table of this number.
abbrev pub profile_of : Deployed → ℕ → Option DeployedProfile
profile_of d n = option_and_then (λ t. slice_get d.profiles t.profile) (table_at d n)

-- The attributes of the rows of the table of this number.
abbrev pub table_attributes : Deployed → ℕ → List FieldCode
table_attributes d n = option_map_or (λ p. p.attributes) (profile_of d n) []

-- The attributes in which the rows of the table of this number differ.
abbrev pub table_unique : Deployed → ℕ → List Bytes
table_unique d n = option_map_or (λ p. p.unique) (profile_of d n) []

-- A text put into its place among texts that rise.
abbrev pub with_text : Bytes → List Bytes → List Bytes
with_text text [] = text ∷ []
with_text text (other ∷ texts) = if is_below text other then text ∷ other ∷ texts else other ∷ with_text text texts

-- Texts in byte order.
abbrev pub in_order : List Bytes → List Bytes
in_order [] = []
in_order (text ∷ texts) = with_text text (in_order texts)

-- The events that are masked when an entity of the block is attached, in byte order.
abbrev pub masked_on_attach : Deployed → ℕ → List Bytes
masked_on_attach d n = option_map_or (λ b. in_order (map (λ h. h.event) (filter (λ h. h.mask) b.events))) (block_at d n) []
