-- The deployment that parts are, once each name in them is known: the number, type or variable that it stands for.
use Rattle.std.specs.Prelude.{ℕ, ◌++◌, map, filter_map, find, Option, option_map, option_and_then, codes, bytes_eq}
use Rattle.std.specs.Option.{option_map_or, unwrap_or}
use Rattle.slee_value.specs.declared.kind.Kind.{Kind}
use Rattle.script_tree.specs.Tree.{Bytes}
use Rattle.script_types.specs.declared.codes.FieldCode.{FieldCode}
use Rattle.script_types.specs.declared.codes.EventCode.{EventCode}
use Rattle.script_types.specs.declared.codes.AttributeCode.{AttributeCode}
use Rattle.script_types.specs.declared.codes.RelationCode.{RelationCode}
use Rattle.deploy_model.specs.declared.parts.EventType.{EventType}
use Rattle.deploy_model.specs.declared.parts.ProfileSpec.{ProfileSpec}
use Rattle.deploy_model.specs.declared.parts.Table.{Table}
use Rattle.deploy_model.specs.declared.parts.Relation.{Relation}
use Rattle.deploy_model.specs.declared.parts.CustomRule.{CustomRule}
use Rattle.deploy_model.specs.declared.parts.BlockEvent.{BlockEvent}
use Rattle.deploy_model.specs.declared.parts.Block.{Block}
use Rattle.deploy_model.specs.declared.parts.Service.{Service}
use Rattle.deploy_model.specs.declared.parts.Parts.{Parts}
use Rattle.deploy_model.specs.Deployed.{Deployed, DeployedProfile, DeployedTable, CustomChoice, Handling, DeployedBlock, DeployedService}
use Rattle.deploy_model.specs.Rules.{Numbering, variable_of, rule_of}
use Rattle.deploy_model.specs.Tables.{key_number}

-- The number of what a key names.
abbrev pub number_of : Numbering → Bytes → ℕ
number_of numbers key = unwrap_or (numbers key) 0

abbrev pub field_of : Bytes × Kind → FieldCode
field_of f = record { name = f.0; kind = f.1 }

abbrev pub event_of : EventType → EventCode
event_of e = record { name = e.key; fields = map field_of e.fields }

abbrev pub profile_of : ProfileSpec → DeployedProfile
profile_of p = record { key = p.key; attributes = map field_of p.attributes; unique = p.unique }

abbrev pub table_of : Numbering → Table → DeployedTable
table_of profiles t = record { name = t.name; profile = number_of profiles t.profile }

-- The key of a block's attribute: its alias, or the block's key and the attribute's name with a dot between.
abbrev pub attribute_key : Block → Bytes → Bytes
attribute_key b name = option_map_or (λ a. a.1) (find (λ a. bytes_eq name a.0) b.aliases) (b.key ++ codes "." ++ name)

abbrev pub attribute_of : Block → Bytes × Kind → AttributeCode
attribute_of b a = record { name = a.0; key = attribute_key b a.0; kind = a.1 }

abbrev pub relation_of : Numbering → Relation → RelationCode
relation_of blocks r = record { name = r.name; block = number_of blocks r.block; priority = r.priority }

abbrev pub custom_of : CustomRule → Option CustomChoice
custom_of c = option_map (λ rule. record { rule = rule; field = c.field }) (rule_of c.rule)

abbrev pub handling_of : BlockEvent → Handling
handling_of h = record {
  event = h.event;
  initial = option_map (filter_map variable_of) h.initial;
  custom = option_and_then custom_of h.custom;
  mask = h.mask;
}

abbrev pub block_of : Numbering → Block → DeployedBlock
block_of blocks b = record {
  key = b.key;
  fields = map field_of b.fields;
  attributes = map (attribute_of b) b.attributes;
  relations = map (relation_of blocks) b.relations;
  events = map handling_of b.events;
}

abbrev pub service_of : Numbering → Service → DeployedService
service_of blocks s = record { key = s.key; root = number_of blocks s.root; priority = s.priority; active = s.active }

-- The deployment that parts without fault are.
abbrev pub deployed_of : Parts → Deployed
deployed_of parts =
    let profiles : Numbering = key_number (λ p. p.key) parts.profiles in
    let blocks : Numbering = key_number (λ b. b.key) parts.blocks in
    record {
      events = map event_of parts.events;
      profiles = map profile_of parts.profiles;
      tables = map (table_of profiles) parts.tables;
      blocks = map (block_of blocks) parts.blocks;
      services = map (service_of blocks) parts.services;
    }
