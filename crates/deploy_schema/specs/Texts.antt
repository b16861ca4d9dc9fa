-- Forms of texts: a rule for the text, where the value is one.
use Rattle.std.specs.Prelude.{ℕ, if◌then◌else◌, Option, Some, None, codes, bytes_eq, is_some}
use Rattle.serde_json.specs.Data.{Data}
use Rattle.serde_json.specs.Find.{as_str}
use Rattle.slee_value.specs.Name.{is_name}
use Rattle.slee_value.specs.declared.kind.Kind.{Kind}
use Rattle.slee_value.specs.declared.kind.Kind.TheVariants as kinds
use Rattle.script_tree.specs.Tree.{Bytes}
use Rattle.deploy_model.specs.declared.fault.DeployBad.TheVariants as bad
use Rattle.deploy_model.specs.Faults.{Fault, here, unless, and_then}
use Rattle.deploy_model.specs.Rules.{Numbering, fresh, known, label as label_rule, profile_kind}
use Rattle.deploy_schema.specs.Forms.{Form, name_rule}

-- The first fault of a text, by the number of the list's item in which it stands and by the object that has it.
abbrev pub TextRule : Type 0
TextRule = ℕ → Data → Bytes → Option Fault

abbrev pub text_or_type : (Bytes → Option Fault) → Option Bytes → Option Fault
text_or_type rule None = here bad.WrongType
text_or_type rule (Some s) = rule s

-- A text that keeps a rule.
abbrev pub text : TextRule → Form
text rule number owner d = text_or_type (rule number owner) (as_str d)

abbrev pub any_text : TextRule
any_text number owner s = None

-- A name, vendor or version.
abbrev pub label : TextRule
label number owner s = label_rule s

-- A name that no earlier item of the list has.
abbrev pub fresh_name : Numbering → TextRule
fresh_name numbers number owner s = and_then (name_rule s) (fresh (numbers s) number)

-- What a text names, where it is of the form of names.
abbrev pub name_number : Numbering → Numbering
name_number numbers s = if is_name s then numbers s else None

-- The name of some item of a list, be it earlier or later.
abbrev pub reference : Numbering → TextRule
reference numbers number owner s = known (name_number numbers s)

-- The type that a word names.
abbrev pub kind_of_word : Bytes → Option Kind
kind_of_word word =
    if bytes_eq word (codes "int") then Some kinds.Int
    else (if bytes_eq word (codes "text") then Some kinds.Text
    else (if bytes_eq word (codes "bool") then Some kinds.Bool
    else (if bytes_eq word (codes "activity") then Some kinds.Activity
    else (if bytes_eq word (codes "timer") then Some kinds.Timer
    else None))))

-- The word of a type.
abbrev pub type_word : TextRule
type_word number owner s = unless (is_some (kind_of_word s)) bad.Range

abbrev pub profile_type : Option Kind → Option Fault
profile_type None = here bad.Range
profile_type (Some kind) = profile_kind kind

-- The word of a type that a profile's attribute may have.
abbrev pub profile_word : TextRule
profile_word number owner s = profile_type (kind_of_word s)
