-- All that scripts may name: what a deployment declares, with the scripts themselves.
use Rattle.std.specs.Prelude.{ℕ, Bool, List, ◌++◌, Option, find, bytes_eq, map, position, slice_get, option_map, option_and_then}
use Rattle.slee_value.specs.declared.kind.Kind.{Kind}
use Rattle.built_in_events.specs.declared.built_in.BuiltInEvent.{BuiltInEvent}
use Rattle.built_in_events.specs.BuiltIn.{name_of, fields_of, all_events}
use Rattle.script_types.specs.declared.codes.FieldCode.{FieldCode}
use Rattle.script_types.specs.declared.codes.EventCode.{EventCode}
use Rattle.script_types.specs.declared.codes.TableCode.{TableCode}
use Rattle.script_types.specs.declared.codes.AttributeCode.{AttributeCode}
use Rattle.script_types.specs.declared.codes.RelationCode.{RelationCode}
use Rattle.script_types.specs.declared.symbol.Symbol.{Symbol}
use Rattle.script_tree.specs.Tree.{Bytes, Statements}

-- an event handler, and whether its event is masked on attachment
pub record Handler : Type 0 where
  pub event : Bytes
  pub mask : Bool
  pub script : Statements

pub record Method : Type 0 where
  pub name : Bytes
  pub parameters : List FieldCode
  pub result : Option Kind
  pub script : Statements

pub record Block : Type 0 where
  pub key : Bytes
  pub fields : List FieldCode
  pub attributes : List AttributeCode
  pub relations : List RelationCode
  pub handlers : List Handler
  pub methods : List Method
  pub exception : Option Statements
  pub rolled_back : Option Statements
  pub remove : Option Statements

pub record Codes : Type 0 where
  pub events : List EventCode
  pub tables : List TableCode
  pub services : List Bytes
  pub blocks : List Block
  pub names : List Bytes

-- a name's number: its place among all names, if it is one of them
abbrev pub number_in : List Bytes → Bytes → Option ℕ
number_in names name = position (λ x. bytes_eq x name) names

abbrev pub number_of : Codes → Bytes → Option ℕ
number_of all name = number_in all.names name

-- a name with its number
abbrev pub symbol_of : Codes → Bytes → Symbol Bytes
symbol_of all name = record { name = name; number = number_of all name }

-- the first of a list that has that name
abbrev pub named : {A : Type 0} → (A → Bytes) → Bytes → List A → Option A
named name_of name xs = find (λ x. bytes_eq (name_of x) name) xs

-- the type of the field with that name
abbrev pub kind_in : Bytes → List FieldCode → Option Kind
kind_in name fields = option_map (λ f. f.kind) (named (λ f. f.name) name fields)

-- the type of a block's attribute of activities
abbrev pub attribute_kind : Bytes → Block → Option Kind
attribute_kind name block = option_map (λ a. a.kind) (named (λ a. a.name) name block.attributes)

-- a built-in event, as the events of a deployment are
abbrev pub built_in_code : BuiltInEvent → EventCode
built_in_code event = record { name = name_of event; fields = map (λ f. record { name = f.0; kind = f.1 }) (fields_of event) }

-- the events that no deployment declares
abbrev pub built_in : List EventCode
built_in = map built_in_code all_events

-- an event that is declared
abbrev pub declared_event : Bytes → Codes → Option EventCode
declared_event name all = named (λ e. e.name) name all.events

-- an event that is declared or built in
abbrev pub any_event : Bytes → Codes → Option EventCode
any_event name all = named (λ e. e.name) name (built_in ++ all.events)

abbrev pub table_named : Bytes → Codes → Option TableCode
table_named name all = named (λ t. t.name) name all.tables

-- the type of an attribute of a table's rows
abbrev pub row_kind : Bytes → Bytes → Codes → Option Kind
row_kind table name all = option_and_then (λ t. kind_in name t.attributes) (table_named table all)

abbrev pub relation_named : Bytes → Block → Option RelationCode
relation_named name block = named (λ r. r.name) name block.relations

-- a method of the block with that number
abbrev pub method_named : ℕ → Bytes → Codes → Option Method
method_named block name all = option_and_then (λ b. named (λ m. m.name) name b.methods) (slice_get all.blocks block)
