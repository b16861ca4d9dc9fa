-- The texts of scripts, by their JSON pointers.
use Rattle.std.specs.Prelude.{Option, option_map, option_and_then}
use Rattle.serde_json.specs.Data.{Data}
use Rattle.serde_json.specs.Find.{pointer as points_to}
use Rattle.script_tree.specs.Tree.{Bytes}
use Rattle.deploy_json.specs.Sources.{source}
use Rattle.deploy_json.specs.Reading.{value_in}

-- the text of the script at a pointer, where the document has something there
abbrev pub source_in : Data → Bytes → Option Bytes
source_in d pointer = option_map source (points_to pointer d)

-- the same of the document that bytes are
abbrev pub text_in : Bytes → Bytes → Option Bytes
text_in bytes pointer = option_and_then (λ d. source_in d pointer) (value_in bytes)
