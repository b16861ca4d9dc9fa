-- The type of an expression, or its first fault. Parts are read from left to right, each with all inside it, and the whole last.
use Rattle.std.specs.Prelude.{ℕ, ◌+◌, Bool, true, false, not, ◌&&◌, ◌||◌, List, [], ◌∷◌, Option, Ok, is_some}
use Rattle.std.specs.List.{list_any}
use Rattle.slee_value.specs.declared.kind.Kind.{Kind}
use Rattle.slee_value.specs.declared.kind.Kind.TheVariants as k
use Rattle.script_types.specs.declared.misuse.CheckBad.TheVariants as bad
use Rattle.script_types.specs.declared.codes.FieldCode.{FieldCode}
use Rattle.script_tree.specs.declared.symbol.Operator.{Operator}
use Rattle.script_tree.specs.declared.symbol.Operator.TheVariants as o
use Rattle.script_tree.specs.declared.symbol.Constant.{Constant}
use Rattle.script_tree.specs.declared.symbol.Constant.TheVariants as c
use Rattle.script_tree.specs.declared.symbol.Function.{Function}
use Rattle.script_tree.specs.declared.symbol.Function.TheVariants as f
use Rattle.script_tree.specs.declared.tree.Leaf.{Leaf as ALeaf}
use Rattle.script_tree.specs.declared.tree.Leaf.TheVariants as l
use Rattle.script_tree.specs.declared.tree.Prefix.{Prefix}
use Rattle.script_tree.specs.declared.tree.Prefix.TheVariants as p
use Rattle.script_tree.specs.declared.tree.Query.{Query}
use Rattle.script_tree.specs.declared.tree.Query.TheVariants as q
use Rattle.script_tree.specs.Tree as tree
use Rattle.script_tree.specs.Tree.{Bytes, Expression}
use Rattle.script_types.specs.Codes.{Codes, Block, kind_in, attribute_kind, any_event, table_named, row_kind, relation_named}
use Rattle.script_types.specs.TypingResult.{Checked, ◌>>=◌, misused, tested, known}
use Rattle.script_types.specs.Scopes.{Scope, check_value, check_child}
use Rattle.script_types.specs.TokenCounts.{tokens_in, tokens_before}

-- which of a block's scripts it is: a handler with the fields of its event, a method with its result, or another one
pub data Role : Type 0 where
  OnEvent : List FieldCode → Role
  InMethod : Option Kind → Role
  OnException : Role
  OnRolledBack : Role
  OnRemove : Role

-- what a script stands in
pub record Setting : Type 0 where
  pub codes : Codes
  pub block : Block
  pub role : Role

abbrev pub is_remove : Role → Bool
is_remove OnRemove = true
is_remove _ = false

-- what no remove script may have
abbrev pub not_on_remove : Setting → ℕ → Checked (Unit {0})
not_on_remove s at = tested bad.Place at (not (is_remove s.role))

abbrev pub same_kind : Kind → Kind → Bool
same_kind k.Int k.Int = true
same_kind k.Text k.Text = true
same_kind k.Bool k.Bool = true
same_kind k.Activity k.Activity = true
same_kind k.Timer k.Timer = true
same_kind _ _ = false

abbrev pub is_nothing : Expression → Bool
is_nothing (tree.Leaf (l.Constant c.Nothing)) = true
is_nothing (tree.Group x) = is_nothing x
is_nothing _ = false

-- whether an expression of one type serves where another is asked for: `none`, else an activity, is a timer there
abbrev pub serves : Expression → Kind → Kind → Bool
serves x found asked = same_kind found asked || (is_nothing x && same_kind asked k.Timer)

-- whether two expressions are of one type: `none` is a timer beside a timer
abbrev pub alike : Expression → Kind → Expression → Kind → Bool
alike x one y other = serves x one other || serves y other one

-- `failure` is for exception and rolled-back callbacks
abbrev pub check_failure : Role → ℕ → Checked Kind
check_failure OnException at = Ok k.Text
check_failure OnRolledBack at = Ok k.Text
check_failure _ at = misused bad.Place at

-- an expression of one word
abbrev pub check_constant : Setting → ℕ → Constant → Checked Kind
check_constant s at c.True = Ok k.Bool
check_constant s at c.False = Ok k.Bool
check_constant s at c.Nothing = Ok k.Activity
check_constant s at c.Now = do
  _ ← not_on_remove s at
  Ok k.Int
check_constant s at c.Activity = do
  _ ← not_on_remove s at
  Ok k.Activity
check_constant s at c.Failure = check_failure s.role at

-- `event.NAME` is for handlers; the name is the third token
abbrev pub check_event_field : Role → ℕ → Bytes → Checked Kind
check_event_field (OnEvent fields) at name = known (at + 2) (kind_in name fields)
check_event_field _ at name = misused bad.Place at

abbrev pub check_leaf : Setting → Scope → ℕ → ALeaf → Checked Kind
check_leaf s scope at (l.Int n) = Ok k.Int
check_leaf s scope at (l.Text t) = Ok k.Text
check_leaf s scope at (l.Constant c) = check_constant s at c
check_leaf s scope at (l.Variable name) = check_value scope name at
check_leaf s scope at (l.Field name) = known (at + 2) (kind_in name s.block.fields)
check_leaf s scope at (l.EventField name) = check_event_field s.role at name
check_leaf s scope at (l.Table name) = do
  _ ← known (at + 2) (table_named name s.codes)
  _ ← not_on_remove s at
  Ok k.Activity
check_leaf s scope at (l.Count name) = do
  _ ← known (at + 2) (relation_named name s.block)
  _ ← not_on_remove s at
  Ok k.Int
check_leaf s scope at (l.Priority name) = do
  _ ← check_child scope name (at + 2)
  _ ← not_on_remove s at
  Ok k.Int

-- the type of the operand, and of the result
abbrev pub prefix_kind : Prefix → Kind
prefix_kind p.Negative = k.Int
prefix_kind p.Not = k.Bool

-- what an operator asks of its operands: one type, which its result has too; two ints or two texts; two values of one type
pub data Rule : Type 0 where
  Both : Kind → Rule
  Ordered : Rule
  Equated : Rule

abbrev pub rule_of : Operator → Rule
rule_of o.Or = Both k.Bool
rule_of o.And = Both k.Bool
rule_of o.Equal = Equated
rule_of o.NotEqual = Equated
rule_of o.Less = Ordered
rule_of o.LessOrEqual = Ordered
rule_of o.Greater = Ordered
rule_of o.GreaterOrEqual = Ordered
rule_of o.Join = Both k.Text
rule_of o.Plus = Both k.Int
rule_of o.Minus = Both k.Int
rule_of o.Times = Both k.Int
rule_of o.Divide = Both k.Int
rule_of o.Remainder = Both k.Int

-- whether the left operand may have that type
abbrev pub left_fits : Rule → Expression → Kind → Bool
left_fits (Both kind) x found = serves x found kind
left_fits Ordered x found = same_kind found k.Int || same_kind found k.Text
left_fits Equated x found = true

-- whether the right operand y fits the left one, x
abbrev pub right_fits : Rule → Expression → Kind → Expression → Kind → Bool
right_fits (Both kind) x one y other = serves y other kind
right_fits Ordered x one y other = alike x one y other
right_fits Equated x one y other = alike x one y other

abbrev pub result_kind : Rule → Kind
result_kind (Both kind) = kind
result_kind Ordered = k.Bool
result_kind Equated = k.Bool

-- the types that a function takes, and the one that it gives
abbrev pub function_takes : Function → List Kind
function_takes f.Text = k.Int ∷ k.Bool ∷ []
function_takes f.Len = k.Text ∷ []
function_takes f.Active = k.Activity ∷ []
function_takes f.Attached = k.Activity ∷ []
function_takes f.Bound = k.Text ∷ []
function_takes f.Lookup = k.Text ∷ []
function_takes f.HasTimer = k.Timer ∷ []

abbrev pub function_gives : Function → Kind
function_gives f.Text = k.Text
function_gives f.Len = k.Int
function_gives f.Active = k.Bool
function_gives f.Attached = k.Bool
function_gives f.Bound = k.Bool
function_gives f.Lookup = k.Activity
function_gives f.HasTimer = k.Bool

abbrev pub query_takes : Query → List Kind
query_takes (q.Plain f) = function_takes f
query_takes (q.Masked event) = k.Activity ∷ []
query_takes (q.Attribute name) = k.Activity ∷ []
query_takes (q.Profile table name) = k.Text ∷ []
query_takes (q.HasProfile table) = k.Text ∷ []

-- the type that a function gives; `at` tokens stand before the name behind its operand
abbrev pub query_gives : Setting → ℕ → Query → Checked Kind
query_gives s at (q.Plain f) = Ok (function_gives f)
query_gives s at (q.Masked event) = Ok k.Bool
query_gives s at (q.Attribute name) = known at (attribute_kind name s.block)
query_gives s at (q.Profile table name) = known at (row_kind table name s.codes)
query_gives s at (q.HasProfile table) = Ok k.Bool

-- whether the event or table that is named before the operand is known
abbrev pub is_query_known : Codes → Query → Bool
is_query_known all (q.Masked event) = is_some (any_event event all)
is_query_known all (q.Profile table name) = is_some (table_named table all)
is_query_known all (q.HasProfile table) = is_some (table_named table all)
is_query_known all _ = true

-- of functions a remove script has `text` and `len` alone
abbrev pub check_query_place : Setting → ℕ → Query → Checked (Unit {0})
check_query_place s at (q.Plain f.Text) = Ok tt
check_query_place s at (q.Plain f.Len) = Ok tt
check_query_place s at _ = not_on_remove s at

-- the type of an expression; `at` tokens stand before it
abbrev pub check_expression : Setting → Scope → ℕ → Expression → Checked Kind
check_expression s scope at (tree.Leaf leaf) = check_leaf s scope at leaf
check_expression s scope at (tree.Unary op x) = do
  found ← check_expression s scope (at + 1) x
  _ ← tested bad.Mismatch (at + 1) (serves x found (prefix_kind op))
  Ok (prefix_kind op)
check_expression s scope at (tree.Binary op x y) = do
  one ← check_expression s scope at x
  _ ← tested bad.Mismatch at (left_fits (rule_of op) x one)
  other ← check_expression s scope (at + tokens_in x + 1) y
  _ ← tested bad.Mismatch (at + tokens_in x + 1) (right_fits (rule_of op) x one y other)
  Ok (result_kind (rule_of op))
check_expression s scope at (tree.Ask query x) = do
  _ ← tested bad.Name (at + 2) (is_query_known s.codes query)
  found ← check_expression s scope (at + tokens_before query) x
  _ ← tested bad.Mismatch (at + tokens_before query) (list_any (serves x found) (query_takes query))
  kind ← query_gives s (at + tokens_before query + tokens_in x + 1) query
  _ ← check_query_place s at query
  Ok kind
check_expression s scope at (tree.Group x) = check_expression s scope (at + 1) x

-- an expression where one type is asked for
abbrev pub check_asked : Setting → Scope → Kind → ℕ → Expression → Checked (Unit {0})
check_asked s scope asked at x = do
  found ← check_expression s scope at x
  tested bad.Mismatch at (serves x found asked)
