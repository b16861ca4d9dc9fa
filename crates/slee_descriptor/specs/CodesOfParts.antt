-- All that scripts may name in parts without fault, and their scripts.
use Rattle.std.specs.Prelude.{List, [], ◌∷◌, ◌++◌, flat_map, map, slice_get}
use Rattle.std.specs.Option.{option_map_or}
use Rattle.built_in_events.specs.BuiltIn.{name_of, all_events}
use Rattle.script_tree.specs.Tree.{Bytes}
use Rattle.script_types.specs.declared.codes.EventCode.{EventCode}
use Rattle.script_types.specs.declared.codes.TableCode.{TableCode}
use Rattle.script_types.specs.declared.codes.HandlerCode.{HandlerCode}
use Rattle.script_types.specs.declared.codes.MethodCode.{MethodCode}
use Rattle.script_types.specs.declared.codes.BlockCode.{BlockCode}
use Rattle.script_types.specs.declared.codes.Codes.{Codes}
use Rattle.script_types.specs.declared.checked_script.BlockSteps.{BlockSteps}
use Rattle.deploy_model.specs.declared.parts.ProfileSpec.{ProfileSpec}
use Rattle.deploy_model.specs.declared.parts.Table.{Table}
use Rattle.deploy_model.specs.declared.parts.BlockEvent.{BlockEvent}
use Rattle.deploy_model.specs.declared.parts.Method.{Method}
use Rattle.deploy_model.specs.declared.parts.Block.{Block}
use Rattle.deploy_model.specs.declared.parts.Parts.{Parts}
use Rattle.deploy_model.specs.Resolving.{number_of, field_of, event_of, attribute_of, relation_of}
use Rattle.deploy_model.specs.Rules.{Numbering}
use Rattle.deploy_model.specs.Tables.{key_number}

-- A table, with its profile's attributes.
abbrev pub table_code : Numbering → List ProfileSpec → Table → TableCode
table_code numbers profiles t = record {
  name = t.name;
  attributes = option_map_or (λ p. map field_of p.attributes) (slice_get profiles (number_of numbers t.profile)) [];
}

abbrev pub handler_code : BlockEvent → HandlerCode
handler_code h = record { event = h.event; mask = h.mask; script = h.on }

abbrev pub method_code : Method → MethodCode
method_code m = record { name = m.name; parameters = map field_of m.params; result = m.returns; script = m.body }

abbrev pub block_code : Numbering → Block → BlockCode
block_code blocks b = record {
  key = b.key;
  fields = map field_of b.fields;
  attributes = map (attribute_of b) b.attributes;
  relations = map (relation_of blocks) b.relations;
  handlers = map handler_code b.events;
  methods = map method_code b.methods;
  exception = b.exception;
  rolled_back = b.rolled_back;
  remove = b.remove;
}

-- The names of a block's fields and of its relations, and the keys of its attributes of activities.
abbrev pub block_names : BlockCode → List Bytes
block_names b = map (λ f. f.name) b.fields ++ map (λ r. r.name) b.relations ++ map (λ a. a.key) b.attributes

-- The name of a table, and those of its profile's attributes.
abbrev pub table_names : TableCode → List Bytes
table_names t = t.name ∷ map (λ a. a.name) t.attributes

-- All names that scripts read and change the state by: block by block, then table by table, then those of the events that are declared and of those that are built in. A name may come several times, and its number is the place of its first.
abbrev pub names_in : List EventCode → List TableCode → List BlockCode → List Bytes
names_in events tables blocks = flat_map block_names blocks ++ flat_map table_names tables ++ map (λ e. e.name) events ++ map name_of all_events

-- The codes of parts, with these checked scripts.
abbrev pub codes_in : Parts → List BlockSteps → Codes
codes_in parts programs =
    let events : List EventCode = map event_of parts.events in
    let tables : List TableCode = map (table_code (key_number (λ p. p.key) parts.profiles) parts.profiles) parts.tables in
    let blocks : List BlockCode = map (block_code (key_number (λ b. b.key) parts.blocks)) parts.blocks in
    record {
      events = events;
      tables = tables;
      services = map (λ s. s.key) parts.services;
      blocks = blocks;
      names = names_in events tables blocks;
      programs = programs;
    }
