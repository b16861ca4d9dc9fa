-- The codes that are kept in memory, as a value.
use Rattle.std.specs.Prelude.{map, option_map}
use Rattle.script_types.specs.declared.codes.HandlerCode.{HandlerCode}
use Rattle.script_types.specs.declared.codes.MethodCode.{MethodCode}
use Rattle.script_types.specs.declared.codes.BlockCode.{BlockCode}
use Rattle.script_types.specs.declared.codes.Codes.{Codes as CodesInMemory}
use Rattle.script_tree.specs.Script.{tree_of_script}
use Rattle.script_types.specs.Codes.{Handler, Method, Block, Codes}

abbrev pub handler_of_code : HandlerCode → Handler
handler_of_code h = record { event = h.event; mask = h.mask; script = tree_of_script h.script }

abbrev pub method_of_code : MethodCode → Method
method_of_code m = record { name = m.name; parameters = m.parameters; result = m.result; script = tree_of_script m.script }

abbrev pub block_of_code : BlockCode → Block
block_of_code b = record {
  key = b.key;
  fields = b.fields;
  attributes = b.attributes;
  relations = b.relations;
  handlers = map handler_of_code b.handlers;
  methods = map method_of_code b.methods;
  exception = option_map tree_of_script b.exception;
  rolled_back = option_map tree_of_script b.rolled_back;
  remove = option_map tree_of_script b.remove;
}

abbrev pub codes_of : CodesInMemory → Codes
codes_of c = record { events = c.events; tables = c.tables; services = c.services; blocks = map block_of_code c.blocks; names = c.names }
