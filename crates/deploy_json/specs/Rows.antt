-- Parts with their scripts seen as texts: a script always is the tree of its text.
use Rattle.std.specs.Prelude.{Bool, List, Option, map, option_map}
use Rattle.slee_value.specs.declared.kind.Kind.{Kind}
use Rattle.slee_value.specs.declared.component.ComponentId.{ComponentId}
use Rattle.script_tree.specs.Tree.{Bytes}
use Rattle.deploy_model.specs.declared.parts.EventType.{EventType}
use Rattle.deploy_model.specs.declared.parts.ProfileSpec.{ProfileSpec}
use Rattle.deploy_model.specs.declared.parts.Table.{Table}
use Rattle.deploy_model.specs.declared.parts.Relation.{Relation}
use Rattle.deploy_model.specs.declared.parts.CustomRule.{CustomRule}
use Rattle.deploy_model.specs.declared.parts.BlockEvent.{BlockEvent}
use Rattle.deploy_model.specs.declared.parts.Method.{Method}
use Rattle.deploy_model.specs.declared.parts.Block.{Block}
use Rattle.deploy_model.specs.declared.parts.Service.{Service}
use Rattle.deploy_model.specs.declared.parts.Parts.{Parts}

pub record HandlerRow : Type 0 where
  pub event : Bytes
  pub initial : Option (List Bytes)
  pub custom : Option CustomRule
  pub mask : Bool
  pub on : Bytes

pub record MethodRow : Type 0 where
  pub name : Bytes
  pub params : List (Bytes × Kind)
  pub returns : Option Kind
  pub body : Bytes

pub record BlockRow : Type 0 where
  pub key : Bytes
  pub id : ComponentId
  pub fields : List (Bytes × Kind)
  pub attributes : List (Bytes × Kind)
  pub aliases : List (Bytes × Bytes)
  pub relations : List Relation
  pub events : List HandlerRow
  pub methods : List MethodRow
  pub exception : Option Bytes
  pub rolled_back : Option Bytes
  pub remove : Option Bytes

pub record PartsRow : Type 0 where
  pub events : List EventType
  pub profiles : List ProfileSpec
  pub tables : List Table
  pub blocks : List BlockRow
  pub services : List Service

abbrev pub handler_row : BlockEvent → HandlerRow
handler_row h = record { event = h.event; initial = h.initial; custom = h.custom; mask = h.mask; on = h.on.text }

abbrev pub method_row : Method → MethodRow
method_row m = record { name = m.name; params = m.params; returns = m.returns; body = m.body.text }

abbrev pub block_row : Block → BlockRow
block_row b = record {
  key = b.key;
  id = b.id;
  fields = b.fields;
  attributes = b.attributes;
  aliases = b.aliases;
  relations = b.relations;
  events = map handler_row b.events;
  methods = map method_row b.methods;
  exception = option_map (λ s. s.text) b.exception;
  rolled_back = option_map (λ s. s.text) b.rolled_back;
  remove = option_map (λ s. s.text) b.remove;
}

abbrev pub parts_row : Parts → PartsRow
parts_row p = record { events = p.events; profiles = p.profiles; tables = p.tables; blocks = map block_row p.blocks; services = p.services }
