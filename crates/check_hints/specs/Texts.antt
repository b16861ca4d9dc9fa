-- Types in words.
use Rattle.std.specs.Prelude.{Bool, true, false, List, [], ◌∷◌, ◌++◌, codes, map}
use Rattle.slee_value.specs.declared.kind.Kind.{Kind}
use Rattle.slee_value.specs.declared.kind.Kind.TheVariants as kinds
use Rattle.script_tree.specs.Tree.{Bytes}
use Rattle.check_hints.specs.Mismatches.{Types}

abbrev pub kind_text : Kind → Bytes
kind_text kinds.Int = codes "an int"
kind_text kinds.Text = codes "a text"
kind_text kinds.Bool = codes "a bool"
kind_text kinds.Activity = codes "an activity"
kind_text kinds.Timer = codes "a timer"

-- what stands before an item of a list
abbrev pub lead : Bool → Bytes
lead true = codes ": "
lead false = codes " or "

-- items of a list, of which the first may be the list's first
abbrev pub items_text : Bool → List Bytes → Bytes
items_text is_first [] = []
items_text is_first (x ∷ xs) = lead is_first ++ (x ++ items_text false xs)

-- types behind a label, if there are any
abbrev pub listed : Bytes → List Kind → Bytes
listed label [] = []
listed label (kind ∷ more) = label ++ items_text true (map kind_text (kind ∷ more))

-- The types that are found and those that are wanted.
abbrev pub types_text : Types → Bytes
types_text types = listed (codes "; found") types.0 ++ listed (codes "; expected") types.1
