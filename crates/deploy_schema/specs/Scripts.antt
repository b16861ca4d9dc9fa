-- The form of scripts.
use Rattle.std.specs.Prelude.{Option, Some, None}
use Rattle.serde_json.specs.Data.{Items, null}
use Rattle.serde_json.specs.Find.{as_str, as_array}
use Rattle.script_tree.specs.Tree.{Bytes}
use Rattle.deploy_model.specs.Faults.{Fault}
use Rattle.deploy_schema.specs.Forms.{Form, list_or_type}
use Rattle.deploy_schema.specs.Texts.{text, any_text}

abbrev pub text_or_lines : Option Bytes → Option Items → Option Fault
text_or_lines (Some s) ds = None
text_or_lines None ds = list_or_type (λ n. text any_text n null) ds

-- A text, or an array of texts.
abbrev pub script : Form
script number owner d = text_or_lines (as_str d) (as_array d)
