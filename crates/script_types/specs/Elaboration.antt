-- What an expression is made into: its type and its term, or its first fault. Parts are read from left to right, each with all inside it, and the whole last.
use Rattle.std.specs.Prelude.{ℕ, ◌+◌, true, false, List, [], ◌∷◌, Option, Some, None, Ok, pos, option_map, position, slice_get, bytes_eq, if◌then◌else◌}
use Rattle.std.specs.List.{list_any}
use Rattle.slee_value.specs.declared.kind.Kind.{Kind}
use Rattle.slee_value.specs.declared.kind.Kind.TheVariants as k
use Rattle.slee_value.specs.declared.value.Value.{Value}
use Rattle.slee_value.specs.declared.value.Value.TheVariants as v
use Rattle.script_types.specs.declared.misuse.CheckBad.TheVariants as bad
use Rattle.script_types.specs.declared.codes.FieldCode.{FieldCode}
use Rattle.script_types.specs.declared.codes.AttributeCode.{AttributeCode}
use Rattle.script_tree.specs.declared.symbol.Operator.{Operator}
use Rattle.script_tree.specs.declared.symbol.Operator.TheVariants as o
use Rattle.script_tree.specs.declared.symbol.Constant.{Constant}
use Rattle.script_tree.specs.declared.symbol.Constant.TheVariants as c
use Rattle.script_tree.specs.declared.symbol.Function.{Function}
use Rattle.script_tree.specs.declared.symbol.Function.TheVariants as f
use Rattle.script_tree.specs.declared.tree.Leaf.{Leaf}
use Rattle.script_tree.specs.declared.tree.Leaf.TheVariants as l
use Rattle.script_tree.specs.declared.tree.Prefix.{Prefix}
use Rattle.script_tree.specs.declared.tree.Prefix.TheVariants as p
use Rattle.script_tree.specs.declared.tree.Query.{Query}
use Rattle.script_tree.specs.declared.tree.Query.TheVariants as q
use Rattle.script_types.specs.declared.term.Atom.{Atom}
use Rattle.script_types.specs.declared.term.Atom.TheVariants as a
use Rattle.script_types.specs.declared.term.Question.{Question}
use Rattle.script_types.specs.declared.term.Question.TheVariants as g
use Rattle.script_types.specs.declared.term.Test.TheVariants as t
use Rattle.script_types.specs.declared.term.Joint.TheVariants as j
use Rattle.script_types.specs.declared.term.Scale.{Scale}
use Rattle.script_types.specs.declared.term.Scale.TheVariants as scale
use Rattle.script_tree.specs.Tree as tree
use Rattle.script_tree.specs.Tree.{Bytes, Expression}
use Rattle.script_types.specs.Codes.{Codes, Block, symbol_of, named, kind_in, row_kind, relation_named}
use Rattle.script_types.specs.TypingResult.{Checked, ◌>>=◌, misused, tested, known}
use Rattle.script_types.specs.Scopes.{Scope, Holding, Value as Holds, Child}
use Rattle.script_types.specs.TokenCounts.{tokens_in, tokens_before}
use Rattle.script_types.specs.TypingExpressions.{Role, OnEvent, OnException, OnRolledBack, Setting, not_on_remove, serves, is_nothing, same_kind, check_query_place, is_query_known, prefix_kind, rule_of, left_fits, right_fits, result_kind, query_takes, function_gives}
use Rattle.script_types.specs.Program.{Term, Single, Ask, Compare, Combine}

-- A term with the type of its value.
pub record Typed : Type 0 where
  pub kind : Kind
  pub term : Term

abbrev pub typed : Kind → Atom → Typed
typed kind atom = record { kind = kind; term = Single atom }

-- A variable's place in the scope, with what it holds.
pub record Found : Type 0 where
  pub place : ℕ
  pub holds : Holding

abbrev pub found_at : Scope → ℕ → Option Found
found_at scope place = option_map (λ x. record { place = place; holds = x.holds }) (slice_get scope place)

-- the visible variable of that name
abbrev pub found_in : Scope → Option ℕ → Option Found
found_in scope None = None
found_in scope (Some place) = found_at scope place

abbrev pub variable_named : Scope → Bytes → Option Found
variable_named scope name = found_in scope (position (λ x. bytes_eq x.name name) scope)

-- A value variable with its type.
pub record ValueAt : Type 0 where
  pub place : ℕ
  pub kind : Kind

-- A child variable with the number of its block.
pub record ChildAt : Type 0 where
  pub place : ℕ
  pub block : ℕ

abbrev pub as_value : ℕ → ℕ → Holding → Checked ValueAt
as_value at place (Child block) = misused bad.Place at
as_value at place (Holds kind) = Ok (record { place = place; kind = kind })

-- a variable where a value is wanted
abbrev pub value_named : Scope → Bytes → ℕ → Checked ValueAt
value_named scope name at = do
  x ← known at (variable_named scope name)
  as_value at x.place x.holds

abbrev pub as_child : ℕ → ℕ → Holding → Checked ChildAt
as_child at place (Holds kind) = misused bad.Mismatch at
as_child at place (Child block) = Ok (record { place = place; block = block })

-- a variable where a child is wanted
abbrev pub child_named : Scope → Bytes → ℕ → Checked ChildAt
child_named scope name at = do
  x ← known at (variable_named scope name)
  as_child at x.place x.holds

-- `none` as a value of the kind that is asked for
abbrev pub none_of : Kind → Value
none_of k.Timer = v.Timer (record { 0 = 0 })
none_of _ = v.Activity (record { 0 = 0 })

-- a term where a value of that kind is asked for
abbrev pub as_kind : Kind → Expression → Term → Term
as_kind kind x term = if is_nothing x then Single (a.Constant (none_of kind)) else term

-- `failure` is for exception and rolled-back callbacks
abbrev pub failure_for : Role → ℕ → Checked Typed
failure_for OnException at = Ok (typed k.Text a.Failure)
failure_for OnRolledBack at = Ok (typed k.Text a.Failure)
failure_for _ at = misused bad.Place at

-- an expression of one word
abbrev pub constant_of : Setting → ℕ → Constant → Checked Typed
constant_of s at c.True = Ok (typed k.Bool (a.Constant (v.Bool true)))
constant_of s at c.False = Ok (typed k.Bool (a.Constant (v.Bool false)))
constant_of s at c.Nothing = Ok (typed k.Activity (a.Constant (none_of k.Activity)))
constant_of s at c.Now = do
  _ ← not_on_remove s at
  Ok (typed k.Int a.Now)
constant_of s at c.Activity = do
  _ ← not_on_remove s at
  Ok (typed k.Activity a.Activity)
constant_of s at c.Failure = failure_for s.role at

-- A field of an event by its place.
abbrev pub event_field : ℕ → Bytes → List FieldCode → Option Typed
event_field place name [] = None
event_field place name (field ∷ fields) =
    if bytes_eq field.name name then Some (typed field.kind (a.EventField place field.kind)) else event_field (place + 1) name fields

-- `event.NAME` is for handlers; the name is the third token
abbrev pub event_field_for : Role → ℕ → Bytes → Checked Typed
event_field_for (OnEvent fields) at name = known (at + 2) (event_field 0 name fields)
event_field_for _ at name = misused bad.Place at

-- the activity of the table of that name, whose number is the table's place, from 1
abbrev pub table_activity : Codes → Bytes → Option Typed
table_activity all name = option_map (λ place. typed k.Activity (a.Constant (v.Activity (record { 0 = place + 1 })))) (position (λ x. bytes_eq x.name name) all.tables)

abbrev pub leaf_of : Setting → Scope → ℕ → Leaf → Checked Typed
leaf_of s scope at (l.Int n) = Ok (typed k.Int (a.Constant (v.Int (pos n))))
leaf_of s scope at (l.Text text) = Ok (typed k.Text (a.Constant (v.Text text)))
leaf_of s scope at (l.Constant word) = constant_of s at word
leaf_of s scope at (l.Variable name) = do
  x ← value_named scope name at
  Ok (typed x.kind (a.Slot x.place))
leaf_of s scope at (l.Field name) = do
  kind ← known (at + 2) (kind_in name s.block.fields)
  Ok (typed kind (a.Field (symbol_of s.codes name) kind))
leaf_of s scope at (l.EventField name) = event_field_for s.role at name
leaf_of s scope at (l.Table name) = do
  x ← known (at + 2) (table_activity s.codes name)
  _ ← not_on_remove s at
  Ok x
leaf_of s scope at (l.Count name) = do
  _ ← known (at + 2) (relation_named name s.block)
  _ ← not_on_remove s at
  Ok (typed k.Int (a.Count (symbol_of s.codes name)))
leaf_of s scope at (l.Priority name) = do
  x ← child_named scope name (at + 2)
  _ ← not_on_remove s at
  Ok (typed k.Int (a.Priority x.place))

-- what stands before an operand asks of it
abbrev pub question_before : Prefix → Question
question_before p.Negative = g.Negative
question_before p.Not = g.Not

-- the type by which two operands are joined or compared
abbrev pub kind_between : Kind → Kind → Kind
kind_between one other = if same_kind one other then one else k.Timer

-- ints by their size, texts in byte order
abbrev pub scale_of : Kind → Scale
scale_of k.Text = scale.Text
scale_of _ = scale.Int

-- an operator between two operands of one type
abbrev pub between : Operator → Kind → Term → Term → Term
between o.Or kind = Combine j.Either
between o.And kind = Combine j.Both
between o.Equal kind = Compare (t.Same kind)
between o.NotEqual kind = Compare (t.Unlike kind)
between o.Less kind = Compare (t.Below (scale_of kind))
between o.LessOrEqual kind = Compare (t.AtMost (scale_of kind))
between o.Greater kind = Compare (t.Above (scale_of kind))
between o.GreaterOrEqual kind = Compare (t.AtLeast (scale_of kind))
between o.Join kind = Combine j.Join
between o.Plus kind = Combine j.Add
between o.Minus kind = Combine j.Subtract
between o.Times kind = Combine j.Multiply
between o.Divide kind = Combine j.Divide
between o.Remainder kind = Combine j.Remainder

-- a function that is asked of a value of that type
abbrev pub question_of : Function → Kind → Question
question_of f.Text k.Bool = g.TextOfBool
question_of f.Text _ = g.TextOfInt
question_of f.Len kind = g.Len
question_of f.Active kind = g.Active
question_of f.Attached kind = g.Attached
question_of f.Bound kind = g.Bound
question_of f.Lookup kind = g.Lookup
question_of f.HasTimer kind = g.HasTimer

-- the shared key of a block's attribute
abbrev pub attribute_named : Bytes → Block → Option AttributeCode
attribute_named name block = named (λ x. x.name) name block.attributes

-- the attribute of an activity, by its shared key
abbrev pub attribute_question : Codes → AttributeCode → Question
attribute_question all x = g.Attribute (symbol_of all x.key) x.kind

-- What a function gives, and the question that it is.
pub record Asking : Type 0 where
  pub kind : Kind
  pub question : Question

-- a function with what it gives; `at` tokens stand before the name behind its operand, which is of the type `found`
abbrev pub asking_of : Setting → ℕ → Kind → Query → Checked Asking
asking_of s at found (q.Plain function) = Ok (record { kind = function_gives function; question = question_of function found })
asking_of s at found (q.Masked event) = Ok (record { kind = k.Bool; question = g.Masked (symbol_of s.codes event) })
asking_of s at found (q.Attribute name) = do
  x ← known at (attribute_named name s.block)
  Ok (record { kind = x.kind; question = attribute_question s.codes x })
asking_of s at found (q.Profile table name) = do
  kind ← known at (row_kind table name s.codes)
  Ok (record { kind = kind; question = g.Profile (symbol_of s.codes table) (symbol_of s.codes name) kind })
asking_of s at found (q.HasProfile table) = Ok (record { kind = k.Bool; question = g.HasProfile (symbol_of s.codes table) })

-- the type that a function takes: a timer where it takes one
abbrev pub operand_kind : Query → Kind → Kind
operand_kind (q.Plain f.HasTimer) found = k.Timer
operand_kind _ found = found

-- an expression's type and term; `at` tokens stand before it
abbrev pub expression_of : Setting → Scope → ℕ → Expression → Checked Typed
expression_of s scope at (tree.Leaf leaf) = leaf_of s scope at leaf
expression_of s scope at (tree.Unary op x) = do
  one ← expression_of s scope (at + 1) x
  _ ← tested bad.Mismatch (at + 1) (serves x one.kind (prefix_kind op))
  Ok (record { kind = prefix_kind op; term = Ask (question_before op) one.term })
expression_of s scope at (tree.Binary op x y) = do
  one ← expression_of s scope at x
  _ ← tested bad.Mismatch at (left_fits (rule_of op) x one.kind)
  other ← expression_of s scope (at + tokens_in x + 1) y
  _ ← tested bad.Mismatch (at + tokens_in x + 1) (right_fits (rule_of op) x one.kind y other.kind)
  let kind : Kind = kind_between one.kind other.kind
  Ok (record { kind = result_kind (rule_of op); term = between op kind (as_kind kind x one.term) (as_kind kind y other.term) })
expression_of s scope at (tree.Ask query x) = do
  _ ← tested bad.Name (at + 2) (is_query_known s.codes query)
  one ← expression_of s scope (at + tokens_before query) x
  _ ← tested bad.Mismatch (at + tokens_before query) (list_any (serves x one.kind) (query_takes query))
  asking ← asking_of s (at + tokens_before query + tokens_in x + 1) one.kind query
  _ ← check_query_place s at query
  Ok (record { kind = asking.kind; term = Ask asking.question (as_kind (operand_kind query one.kind) x one.term) })
expression_of s scope at (tree.Group x) = expression_of s scope (at + 1) x

-- the term of an expression where one type is asked for
abbrev pub asked_of : Setting → Scope → Kind → ℕ → Expression → Checked Term
asked_of s scope asked at x = do
  one ← expression_of s scope at x
  _ ← tested bad.Mismatch at (serves x one.kind asked)
  Ok (as_kind asked x one.term)
