-- The words in which it is told.
use Rattle.std.specs.Prelude.{ℕ, ◌==◌, Bool, true, false, List, [], ◌∷◌, ◌++◌, codes, decimal, length, map}
use Rattle.script_tree.specs.Tree.{Bytes}
use Rattle.script_tree.specs.Words.{symbol_text}
use Rattle.script_tree.specs.declared.symbol.Symbol.{Symbol}
use Rattle.script_tree.specs.declared.fault.SyntaxBad.{SyntaxBad}
use Rattle.script_tree.specs.declared.fault.SyntaxBad.TheVariants as misfits
use Rattle.script_types.specs.declared.misuse.CheckBad.{CheckBad}
use Rattle.script_types.specs.declared.misuse.CheckBad.TheVariants as misuses
use Rattle.deploy_model.specs.declared.fault.DeployBad.{DeployBad}
use Rattle.deploy_model.specs.declared.fault.DeployBad.TheVariants as shapes
use Rattle.script_hints.specs.declared.choice.Choice.{Choice}
use Rattle.script_hints.specs.declared.choice.Choice.TheVariants as choice
use Rattle.script_hints.specs.declared.choice.Group.{Group}
use Rattle.script_hints.specs.declared.choice.Group.TheVariants as group
use Rattle.script_hints.specs.declared.expected.Expected.{Expected}
use Rattle.script_hints.specs.declared.syntax.Found.{Found}
use Rattle.script_hints.specs.declared.syntax.Found.TheVariants as found
use Rattle.script_hints.specs.declared.syntax.SyntaxHint.{SyntaxHint}
use Rattle.deploy_hints.specs.declared.hint.Hint.{Hint}
use Rattle.deploy_hints.specs.declared.hint.Hint.TheVariants as hints

abbrev pub shape_sentence : DeployBad → Bytes
shape_sentence shapes.WrongType = codes "a value of another JSON type has to stand there, or a whole number of at most 64 bits"
shape_sentence shapes.Missing = codes "this member has to be there"
shape_sentence shapes.UnknownMember = codes "no member of that name belongs there"
shape_sentence shapes.BadName = codes "a name is a lower-case letter and at most 63 lower-case letters, digits and underscores"
shape_sentence shapes.Repeated = codes "an earlier one has this already"
shape_sentence shapes.UnknownName = codes "nothing that may be named there has this name"
shape_sentence shapes.Range = codes "this number, length or word isn't allowed there"
shape_sentence shapes.Alias = codes "an earlier attribute with this alias has another type"

abbrev pub check_sentence : CheckBad → Bytes
check_sentence misuses.Name = codes "nothing that may be named there has this name, or a new variable has the name of one that is visible"
check_sentence misuses.Mismatch = codes "a value of another type has to stand there"
check_sentence misuses.Count = codes "the method has another number of parameters, or the event another number of fields"
check_sentence misuses.Place = codes "this isn't allowed in such a script"

-- a word or sign between quotes
abbrev pub quoted : Symbol → Bytes
quoted y = codes "\"" ++ (symbol_text y ++ codes "\"")

abbrev pub group_text : Group → Bytes
group_text group.Statement = codes "a statement"
group_text group.Expression = codes "an expression"
group_text group.Operator = codes "an operator"

abbrev pub choice_text : Choice → Bytes
choice_text choice.Name = codes "a name"
choice_text choice.Number = codes "a number"
choice_text choice.Text = codes "a text"
choice_text (choice.Symbol y) = quoted y

abbrev pub found_text : Found → Bytes
found_text found.Name = codes "a name"
found_text found.Number = codes "a number"
found_text found.Text = codes "a text"
found_text (found.Symbol y) = quoted y
found_text found.Bad = codes "what begins no token"
found_text found.End = codes "the end of the script"

-- what stands before an item of a list
abbrev pub lead : Bool → Bytes
lead true = codes ": "
lead false = codes ", "

-- items of a list, of which the first may be the list's first
abbrev pub items_text : Bool → List Bytes → Bytes
items_text is_first [] = []
items_text is_first (x ∷ xs) = lead is_first ++ (x ++ items_text false xs)

abbrev pub expected_text : Expected → Bytes
expected_text e = items_text true (map group_text e.groups.items) ++ items_text (length e.groups.items == 0) (map choice_text e.choices.items)

-- why a word of the language is no name
abbrev pub reserved_text : Bool → Bytes
reserved_text true = codes ", a word of the language and so no name"
reserved_text false = []

-- what a bracket that opens level 65 does
abbrev pub deep_text : SyntaxBad → Bytes
deep_text misfits.Deep = codes ", and brackets stand at most 64 deep"
deep_text _ = []

abbrev pub syntax_text : SyntaxHint → Bytes
syntax_text hint = codes "found " ++ (found_text hint.found ++ (reserved_text hint.is_reserved ++ (deep_text hint.kind ++ (codes "; expected" ++ expected_text hint.expected))))

abbrev pub place_text : ℕ → ℕ → Bytes
place_text line column = codes "no JSON can go on at line " ++ (decimal line ++ (codes ", column " ++ decimal column))

-- What is told, without a newline.
abbrev pub hint_text : Hint → Bytes
hint_text (hints.Json line column) = place_text line column
hint_text (hints.Shape kind) = shape_sentence kind
hint_text (hints.Syntax hint) = syntax_text hint
hint_text (hints.Check kind) = check_sentence kind
