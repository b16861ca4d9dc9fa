-- What bytes are read as: the parts of a deployment, or the first fault.
use Rattle.std.specs.Prelude.{◌≡◌, if◌then◌else◌, Option, Some, None, option_map, Result, Ok, Err}
use Rattle.std.specs.Str.{is_utf8}
use Rattle.serde_json.specs.Data.{Data}
use Rattle.serde_json.specs.Read.{read}
use Rattle.script_tree.specs.Tree.{Bytes}
use Rattle.script_tree.specs.declared.fault.SyntaxFault.{SyntaxFault}
use Rattle.script_tree.specs.declared.fault.SyntaxFault.TheVariants as syntax
use Rattle.deploy_model.specs.Faults.{Fault}
use Rattle.deploy_schema.specs.Tables.{shape_fault}
use Rattle.deploy_json.specs.Sources.{Misread, first_misread}
use Rattle.deploy_json.specs.Rows.{PartsRow}
use Rattle.deploy_json.specs.Documents.{parts_in}
use Rattle.deploy_json.specs.declared.fault.ReadFault.{ReadFault}
use Rattle.deploy_json.specs.declared.fault.ReadFault.TheVariants as faults

-- The JSON value that bytes are.
abbrev pub value_in : Bytes → Option Data
value_in bytes = if is_utf8 bytes then read bytes else None

-- The fault, where there is one, else what is read.
abbrev pub unless : {A : Type 0} → Option ReadFault → Result A ReadFault → Result A ReadFault
unless None reading = reading
unless (Some fault) reading = Err fault

abbrev pub shape_read : Fault → ReadFault
shape_read f = faults.Shape f.path f.kind

-- No text is read as want of memory.
abbrev pub syntax_at : Bytes → SyntaxFault → ReadFault
syntax_at pointer (syntax.At line column kind) = faults.Syntax pointer line column kind
syntax_at pointer syntax.NoMemory = faults.NoMemory

abbrev pub syntax_read : Misread → ReadFault
syntax_read m = syntax_at m.path m.fault

-- The parts that a document is, or its first fault: of its shape, else of its scripts' texts.
abbrev pub document_parts : Data → Result PartsRow ReadFault
document_parts d =
    unless (option_map shape_read (shape_fault d))
    (unless (option_map syntax_read (first_misread d))
    (Ok (parts_in d)))

abbrev pub value_parts : Option Data → Result PartsRow ReadFault
value_parts None = Err faults.Json
value_parts (Some d) = document_parts d

-- The parts that bytes are, or the first fault.
abbrev pub parts_of : Bytes → Result PartsRow ReadFault
parts_of bytes = value_parts (value_in bytes)

-- The answers that may be given where this is read: want of memory may stand for any.
abbrev pub Tells : {A : Type 0} → Result A ReadFault → ReadFault → Type 0
Tells reading faults.NoMemory = Unit {0}
Tells reading faults.Json = reading ≡ Err faults.Json
Tells reading (faults.Shape pointer kind) = reading ≡ Err (faults.Shape pointer kind)
Tells reading (faults.Syntax pointer line column kind) = reading ≡ Err (faults.Syntax pointer line column kind)
Tells reading (faults.Check pointer line column kind) = reading ≡ Err (faults.Check pointer line column kind)
