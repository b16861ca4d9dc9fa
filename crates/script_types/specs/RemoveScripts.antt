-- What a remove script may have: `let`, assignment of its variables, `if`, `while`, `emit`, and expressions without what the world outside of the entity says.
use Rattle.std.specs.Prelude.{Bool, true, false, ◌&&◌}
use Rattle.script_tree.specs.declared.symbol.Constant.{Constant}
use Rattle.script_tree.specs.declared.symbol.Constant.TheVariants as c
use Rattle.script_tree.specs.declared.symbol.Function.TheVariants as f
use Rattle.script_tree.specs.declared.symbol.Verb.TheVariants as v
use Rattle.script_tree.specs.declared.tree.Leaf.{Leaf as ALeaf}
use Rattle.script_tree.specs.declared.tree.Leaf.TheVariants as l
use Rattle.script_tree.specs.declared.tree.Query.{Query}
use Rattle.script_tree.specs.declared.tree.Query.TheVariants as q
use Rattle.script_tree.specs.Tree as tree
use Rattle.script_tree.specs.Tree.{Expression, Statement, Statements}

-- true, false and none
abbrev pub is_fixed_constant : Constant → Bool
is_fixed_constant c.True = true
is_fixed_constant c.False = true
is_fixed_constant c.Nothing = true
is_fixed_constant _ = false

-- a number, a text, a constant, a variable or a field of the entity
abbrev pub is_own_leaf : ALeaf → Bool
is_own_leaf (l.Int n) = true
is_own_leaf (l.Text t) = true
is_own_leaf (l.Constant c) = is_fixed_constant c
is_own_leaf (l.Variable name) = true
is_own_leaf (l.Field name) = true
is_own_leaf _ = false

-- text(e) and len(e)
abbrev pub is_own_query : Query → Bool
is_own_query (q.Plain f.Text) = true
is_own_query (q.Plain f.Len) = true
is_own_query _ = false

abbrev pub is_own_expression : Expression → Bool
is_own_expression (tree.Leaf leaf) = is_own_leaf leaf
is_own_expression (tree.Unary op x) = is_own_expression x
is_own_expression (tree.Binary op x y) = is_own_expression x && is_own_expression y
is_own_expression (tree.Ask query x) = is_own_expression x && is_own_query query
is_own_expression (tree.Group x) = is_own_expression x

abbrev mutual
  pub is_for_remove : Statement → Bool
  is_for_remove (tree.Assign (tree.New name x)) = is_own_expression x
  is_for_remove (tree.Assign (tree.Variable name x)) = is_own_expression x
  is_for_remove (tree.Do v.Emit x) = is_own_expression x
  is_for_remove (tree.If x body) = is_own_expression x && are_for_remove body
  is_for_remove (tree.IfElse x body other) = is_own_expression x && (are_for_remove body && are_for_remove other)
  is_for_remove (tree.While x body) = is_own_expression x && are_for_remove body
  is_for_remove _ = false

  pub are_for_remove : Statements → Bool
  are_for_remove tree.Nothing = true
  are_for_remove (tree.Then x more) = is_for_remove x && are_for_remove more
