-- The scripts of parts that are seen as rows: what they may name, and where each of them stands.
use Rattle.std.specs.Prelude.{ℕ, List, [], ◌++◌, map, Option, None, option_map, option_and_then, Result, Ok, Err, codes, decimal, slice_get}
use Rattle.std.specs.Option.{option_map_or, unwrap_or}
use Rattle.script_tree.specs.Tree.{Bytes, Statements, Nothing}
use Rattle.script_tree.specs.Reading.{script_read}
use Rattle.script_tree.specs.declared.fault.SyntaxFault.{SyntaxFault}
use Rattle.script_types.specs.declared.codes.CodePart.{CodePart}
use Rattle.script_types.specs.declared.codes.CodePart.TheVariants as part
use Rattle.script_types.specs.declared.codes.CodePlace.{CodePlace}
use Rattle.script_types.specs.Codes.{Handler, Method, Block, Codes}
use Rattle.script_types.specs.CodesOf.{codes_of, block_of_code}
use Rattle.deploy_model.specs.declared.parts.Block.{Block as BlockPart}
use Rattle.deploy_model.specs.declared.parts.Parts.{Parts}
use Rattle.deploy_model.specs.Resolving.{field_of}
use Rattle.deploy_model.specs.Rules.{Numbering}
use Rattle.deploy_model.specs.Tables.{key_number}
use Rattle.slee_descriptor.specs.CodesOfParts.{block_code, codes_in}
use Rattle.deploy_json.specs.Rows.{HandlerRow, MethodRow, BlockRow, PartsRow}

abbrev pub statements_or_none : Result Statements SyntaxFault → Statements
statements_or_none (Ok script) = script
statements_or_none (Err fault) = Nothing

-- The script that a text is, without a statement where the text is none.
abbrev pub script_in : Bytes → Statements
script_in text = statements_or_none (script_read text)

-- A block, and parts, but for their scripts.
abbrev pub bare_block : BlockRow → BlockPart
bare_block b = record {
  key = b.key;
  id = b.id;
  fields = b.fields;
  attributes = b.attributes;
  aliases = b.aliases;
  relations = b.relations;
  events = [];
  methods = [];
  exception = None;
  rolled_back = None;
  remove = None;
}

abbrev pub bare_parts : PartsRow → Parts
bare_parts p = record { events = p.events; profiles = p.profiles; tables = p.tables; blocks = map bare_block p.blocks; services = p.services }

abbrev pub handler_in : HandlerRow → Handler
handler_in h = record { event = h.event; mask = h.mask; script = script_in h.on }

abbrev pub method_in : MethodRow → Method
method_in m = record { name = m.name; parameters = map field_of m.params; result = m.returns; script = script_in m.body }

-- What scripts see of a block: all but its scripts, and these.
abbrev pub block_in : Numbering → BlockRow → Block
block_in blocks b = record (block_of_code (block_code blocks (bare_block b))) {
  handlers = map handler_in b.events;
  methods = map method_in b.methods;
  exception = option_map script_in b.exception;
  rolled_back = option_map script_in b.rolled_back;
  remove = option_map script_in b.remove;
}

-- All that scripts may name in parts, and the scripts.
abbrev pub codes_in_rows : PartsRow → Codes
codes_in_rows p = record (codes_of (codes_in (bare_parts p) [])) { blocks = map (block_in (key_number (λ b. b.key) p.blocks)) p.blocks }

-- The name of a method by the numbers of its block and of itself.
abbrev pub method_name : List BlockRow → ℕ → ℕ → Bytes
method_name blocks block n = option_map_or (λ m. m.name) (option_and_then (λ b. slice_get b.methods n) (slice_get blocks block)) []

-- The JSON pointer from a block to one of its scripts.
abbrev pub path_in : List BlockRow → ℕ → CodePart → Bytes
path_in blocks block (part.Handler n) = codes "/events/" ++ decimal n ++ codes "/on"
path_in blocks block (part.Method n) = codes "/methods/" ++ method_name blocks block n ++ codes "/do"
path_in blocks block part.Exception = codes "/exception"
path_in blocks block part.RolledBack = codes "/rolled_back"
path_in blocks block part.Remove = codes "/remove"

-- The JSON pointer of a script.
abbrev pub script_path : List BlockRow → CodePlace → Bytes
script_path blocks place = codes "/blocks/" ++ decimal place.block ++ path_in blocks place.block place.part

-- The text of one of a block's scripts.
abbrev pub text_in : CodePart → BlockRow → Option Bytes
text_in (part.Handler n) b = option_map (λ h. h.on) (slice_get b.events n)
text_in (part.Method n) b = option_map (λ m. m.body) (slice_get b.methods n)
text_in part.Exception b = b.exception
text_in part.RolledBack b = b.rolled_back
text_in part.Remove b = b.remove

-- The text of a script, empty where there is none.
abbrev pub script_text : List BlockRow → CodePlace → Bytes
script_text blocks place = unwrap_or (option_and_then (text_in place.part) (slice_get blocks place.block)) []
