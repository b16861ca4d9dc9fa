-- Parts of a statement that may be left out.
use Rattle.std.specs.Prelude.{List, [], ◌∷◌, Option, Some, None, Box}
use Rattle.script_tree.specs.declared.symbol.Fixed.{Fixed}
use Rattle.script_tree.specs.declared.symbol.Fixed.TheVariants as x
use Rattle.script_tree.specs.declared.symbol.Symbol.TheVariants as s
use Rattle.script_tree.specs.declared.lexeme.Lexeme.{Lexeme}
use Rattle.script_tree.specs.declared.lexeme.Lexeme.TheVariants as t
use Rattle.std.specs.declared.alloc.Global.{Global}
use Rattle.script_tree.specs.declared.tree.Repeat.{Repeat}
use Rattle.slee_value.specs.declared.keep.Keep.{Keep}
use Rattle.slee_value.specs.declared.keep.Keep.TheVariants as keeps
use Rattle.script_tree.specs.declared.symbol.Constant.{Constant}
use Rattle.script_tree.specs.declared.symbol.Constant.TheVariants as c
use Rattle.script_tree.specs.Tree.{Bytes, Expression, tree_of}
use Rattle.script_tree.specs.Grammar.{Item, AText, AName, ATree, for_service, with_result, repeated, kept}

-- the latest statement, with an optional part more
abbrev pub with_service : Option Bytes → List Item → List Item
with_service None is = is
with_service (Some service) is = for_service (AText service ∷ is)

-- with a name for what the call gives
abbrev pub result_set : Option Bytes → List Item → List Item
result_set None is = is
result_set (Some name) is = with_result (AName name ∷ is)

-- with a period and a number of times
abbrev pub repeat_set : Option (Expression × Expression) → List Item → List Item
repeat_set None is = is
repeat_set (Some r) is = repeated (ATree r.1 ∷ ATree r.0 ∷ is)

-- with the word behind `keep`
abbrev pub keep_set : Option Keep → List Item → List Item
keep_set None is = is
keep_set (Some k) is = kept k is

-- which timers that were missed are kept, by the word behind `keep`
abbrev pub keep_at_fixed : Fixed → Option Keep
keep_at_fixed x.All = Some keeps.All
keep_at_fixed x.Last = Some keeps.Last
keep_at_fixed _ = None

-- the same of a constant
abbrev pub keep_at_constant : Constant → Option Keep
keep_at_constant c.Nothing = Some keeps.NoneMissed
keep_at_constant _ = None

-- the same of a token
abbrev pub keep_at : Lexeme → Option Keep
keep_at (t.Symbol (s.Fixed y)) = keep_at_fixed y
keep_at (t.Symbol (s.Constant y)) = keep_at_constant y
keep_at _ = None

-- a period and a number of times that stand in a box
abbrev pub repeat_in : Option (Box Repeat Global) → Option (Expression × Expression)
repeat_in None = None
repeat_in (Some r) = Some (tree_of r.value.period, tree_of r.value.times)

-- the same of the first of some tokens
abbrev pub keep_in : List Lexeme → Option Keep
keep_in [] = None
keep_in (token ∷ ts) = keep_at token
