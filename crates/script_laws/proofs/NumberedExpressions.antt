-- The terms of expressions have the numbers of their names.
use Rattle.std.proofs.Common.{◌+◌, Bool, true, false, cond, ℕ, List, [], ◌∷◌, Option, Some, None, refl}
use Rattle.std.specs.Prelude.{bytes_eq, option_map, position}
use Rattle.std.specs.List.{list_any}
use Rattle.slee_value.specs.declared.kind.Kind.{Kind}
use Rattle.slee_value.specs.declared.kind.Kind.TheVariants as k
use Rattle.slee_value.specs.declared.value.Value.TheVariants as v
use Rattle.script_tree.specs.declared.symbol.Constant.{Constant}
use Rattle.script_tree.specs.declared.symbol.Constant.TheVariants as c
use Rattle.script_tree.specs.declared.symbol.Function.{Function}
use Rattle.script_tree.specs.declared.symbol.Function.TheVariants as f
use Rattle.script_tree.specs.declared.symbol.Operator.{Operator}
use Rattle.script_tree.specs.declared.symbol.Operator.TheVariants as o
use Rattle.script_tree.specs.declared.tree.Leaf.{Leaf}
use Rattle.script_tree.specs.declared.tree.Leaf.TheVariants as l
use Rattle.script_tree.specs.declared.tree.Prefix.{Prefix}
use Rattle.script_tree.specs.declared.tree.Prefix.TheVariants as p
use Rattle.script_tree.specs.declared.tree.Query.{Query}
use Rattle.script_tree.specs.declared.tree.Query.TheVariants as q
use Rattle.script_tree.specs.Tree as tree
use Rattle.script_tree.specs.Tree.{Bytes, Expression}
use Rattle.script_types.specs.declared.misuse.CheckBad.TheVariants as bad
use Rattle.script_types.specs.declared.codes.FieldCode.{FieldCode}
use Rattle.script_types.specs.declared.term.Atom.TheVariants as a
use Rattle.script_types.specs.Codes.{Codes, symbol_of, kind_in, row_kind, relation_named}
use Rattle.script_types.specs.TypingResult.{Checked, tested, known}
use Rattle.script_types.specs.TypingResult as checked
use Rattle.script_types.specs.TypingExpressions.{Setting, Role, OnEvent, OnException, OnRolledBack, serves, not_on_remove, check_query_place, is_query_known, is_nothing, prefix_kind, rule_of, left_fits, right_fits, query_takes}
use Rattle.script_types.specs.Scopes.{Scope}
use Rattle.script_types.specs.TokenCounts.{tokens_in, tokens_before}
use Rattle.script_types.specs.Elaboration.{Typed, Asking, typed, none_of, as_kind, value_named, child_named, failure_for, constant_of, event_field, event_field_for, table_activity, leaf_of, question_before, question_of, kind_between, between, attribute_named, asking_of, operand_kind, expression_of, asked_of}
use Rattle.script_types.specs.Numbers.{IsNumbered, IsNumberedQuestion, IsNumberedTerm}
use Rattle.script_types.specs.Program.{Term, Single}
use Rattle.script_laws.proofs.NumberedResults.{AllOk, ok_then, skip}

-- a name with its number
pub symbol_numbered : (all : Codes) (name : Bytes) → IsNumbered all.names (symbol_of all name)
symbol_numbered all name = refl

-- one term or the other
either_numbered : (names : List Bytes) (b : Bool) (x y : Term) → IsNumberedTerm names x → IsNumberedTerm names y → IsNumberedTerm names (cond b x y)
either_numbered names true x y h g = h
either_numbered names false x y h g = g

-- `none` or the term, where a value of that kind is asked for
pub as_kind_numbered : (names : List Bytes) (kind : Kind) (x : Expression) (term : Term) → IsNumberedTerm names term → IsNumberedTerm names (as_kind kind x term)
as_kind_numbered names kind x term h = either_numbered names (is_nothing x) (Single (a.Constant (none_of kind))) term tt h

prefix_numbered : (names : List Bytes) (op : Prefix) → IsNumberedQuestion names (question_before op)
prefix_numbered names p.Negative = tt
prefix_numbered names p.Not = tt

between_numbered : (names : List Bytes) (op : Operator) (kind : Kind) (x y : Term) → IsNumberedTerm names x → IsNumberedTerm names y → IsNumberedTerm names (between op kind x y)
between_numbered names o.Or kind x y h g = (h, g)
between_numbered names _ kind x y h g = (h, g)

function_numbered : (names : List Bytes) (function : Function) (kind : Kind) → IsNumberedQuestion names (question_of function kind)
function_numbered names f.Text k.Bool = tt
function_numbered names f.Text _ = tt
function_numbered names _ kind = tt

module _ (s : Setting) where
  abbrev pub IsNumberedTyped : Typed → Type 0
  IsNumberedTyped one = IsNumberedTerm s.codes.names one.term

  abbrev IsNumberedAsking : Asking → Type 0
  IsNumberedAsking asking = IsNumberedQuestion s.codes.names asking.question

  failure_numbered : (role : Role) (at : ℕ) → AllOk IsNumberedTyped (failure_for role at)
  failure_numbered OnException at = tt
  failure_numbered OnRolledBack at = tt
  failure_numbered _ at = tt

  constant_numbered : (at : ℕ) (word : Constant) → AllOk IsNumberedTyped (constant_of s at word)
  constant_numbered at c.Now = skip IsNumberedTyped (not_on_remove s at) _ (λ _. tt)
  constant_numbered at c.Activity = skip IsNumberedTyped (not_on_remove s at) _ (λ _. tt)
  constant_numbered at c.Failure = failure_numbered s.role at
  constant_numbered at _ = tt

  found_numbered : (at : ℕ) (b : Bool) (x : Typed) (rest : Option Typed) → IsNumberedTyped x → AllOk IsNumberedTyped (known at rest) → AllOk IsNumberedTyped (known at (cond b (Some x) rest))
  found_numbered at true x rest h g = h
  found_numbered at false x rest h g = g

  field_numbered : (at place : ℕ) (name : Bytes) (fields : List FieldCode) → AllOk IsNumberedTyped (known at (event_field place name fields))
  field_numbered at place name [] = tt
  field_numbered at place name (field ∷ fields) = found_numbered at (bytes_eq field.name name) (typed field.kind (a.EventField place field.kind)) (event_field (place + 1) name fields) tt (field_numbered at (place + 1) name fields)

  event_field_numbered : (role : Role) (at : ℕ) (name : Bytes) → AllOk IsNumberedTyped (event_field_for role at name)
  event_field_numbered (OnEvent fields) at name = field_numbered (at + 2) 0 name fields
  event_field_numbered _ at name = tt

  -- the activity of a table is a constant
  table_numbered : (at : ℕ) (place : Option ℕ) → AllOk IsNumberedTyped (known at (option_map (λ n. typed k.Activity (a.Constant (v.Activity (record { 0 = n + 1 })))) place))
  table_numbered at None = tt
  table_numbered at (Some n) = tt

  leaf_numbered : (scope : Scope) (at : ℕ) (leaf : Leaf) → AllOk IsNumberedTyped (leaf_of s scope at leaf)
  leaf_numbered scope at (l.Int n) = tt
  leaf_numbered scope at (l.Text text) = tt
  leaf_numbered scope at (l.Constant word) = constant_numbered at word
  leaf_numbered scope at (l.Variable name) = skip IsNumberedTyped (value_named scope name at) _ (λ x. tt)
  leaf_numbered scope at (l.Field name) = skip IsNumberedTyped (known (at + 2) (kind_in name s.block.fields)) _ (λ kind. symbol_numbered s.codes name)
  leaf_numbered scope at (l.EventField name) = event_field_numbered s.role at name
  leaf_numbered scope at (l.Table name) =
      ok_then IsNumberedTyped IsNumberedTyped (known (at + 2) (table_activity s.codes name)) _ (table_numbered (at + 2) (position (λ x. bytes_eq x.name name) s.codes.tables)) (λ x h. skip IsNumberedTyped (not_on_remove s at) _ (λ _. h))
  leaf_numbered scope at (l.Count name) = skip IsNumberedTyped (known (at + 2) (relation_named name s.block)) _ (λ _. skip IsNumberedTyped (not_on_remove s at) _ (λ _. symbol_numbered s.codes name))
  leaf_numbered scope at (l.Priority name) = skip IsNumberedTyped (child_named scope name (at + 2)) _ (λ x. skip IsNumberedTyped (not_on_remove s at) _ (λ _. tt))

  -- the names in a question to an operand
  asking_numbered : (at : ℕ) (found : Kind) (query : Query) → AllOk IsNumberedAsking (asking_of s at found query)
  asking_numbered at found (q.Plain function) = function_numbered s.codes.names function found
  asking_numbered at found (q.Masked event) = symbol_numbered s.codes event
  asking_numbered at found (q.Attribute name) = skip IsNumberedAsking (known at (attribute_named name s.block)) _ (λ x. symbol_numbered s.codes x.key)
  asking_numbered at found (q.Profile table name) = skip IsNumberedAsking (known at (row_kind table name s.codes)) _ (λ kind. (symbol_numbered s.codes table, symbol_numbered s.codes name))
  asking_numbered at found (q.HasProfile table) = symbol_numbered s.codes table

  pub expression_numbered : (scope : Scope) (at : ℕ) (x : Expression) → AllOk IsNumberedTyped (expression_of s scope at x)
  expression_numbered scope at (tree.Leaf leaf) = leaf_numbered scope at leaf
  expression_numbered scope at (tree.Unary op x) =
      ok_then IsNumberedTyped IsNumberedTyped (expression_of s scope (at + 1) x) _ (expression_numbered scope (at + 1) x) (λ one h.
      skip IsNumberedTyped (tested bad.Mismatch (at + 1) (serves x one.kind (prefix_kind op))) _ (λ _. (prefix_numbered s.codes.names op, h)))
  expression_numbered scope at (tree.Binary op x y) =
      ok_then IsNumberedTyped IsNumberedTyped (expression_of s scope at x) _ (expression_numbered scope at x) (λ one h.
      skip IsNumberedTyped (tested bad.Mismatch at (left_fits (rule_of op) x one.kind)) _ (λ _.
      ok_then IsNumberedTyped IsNumberedTyped (expression_of s scope (at + tokens_in x + 1) y) _ (expression_numbered scope (at + tokens_in x + 1) y) (λ other g.
      skip IsNumberedTyped (tested bad.Mismatch (at + tokens_in x + 1) (right_fits (rule_of op) x one.kind y other.kind)) _ (λ _.
      let kind : Kind = kind_between one.kind other.kind in
      between_numbered s.codes.names op kind (as_kind kind x one.term) (as_kind kind y other.term) (as_kind_numbered s.codes.names kind x one.term h) (as_kind_numbered s.codes.names kind y other.term g)))))
  expression_numbered scope at (tree.Ask query x) =
      skip IsNumberedTyped (tested bad.Name (at + 2) (is_query_known s.codes query)) _ (λ _.
      ok_then IsNumberedTyped IsNumberedTyped (expression_of s scope (at + tokens_before query) x) _ (expression_numbered scope (at + tokens_before query) x) (λ one h.
      skip IsNumberedTyped (tested bad.Mismatch (at + tokens_before query) (list_any (serves x one.kind) (query_takes query))) _ (λ _.
      ok_then IsNumberedAsking IsNumberedTyped (asking_of s (at + tokens_before query + tokens_in x + 1) one.kind query) _ (asking_numbered (at + tokens_before query + tokens_in x + 1) one.kind query) (λ asking g.
      skip IsNumberedTyped (check_query_place s at query) _ (λ _. (g, as_kind_numbered s.codes.names (operand_kind query one.kind) x one.term h))))))
  expression_numbered scope at (tree.Group x) = expression_numbered scope (at + 1) x

  -- where one type is asked for
  asked_numbered : (scope : Scope) (kind : Kind) (at : ℕ) (x : Expression) → AllOk (IsNumberedTerm s.codes.names) (asked_of s scope kind at x)
  asked_numbered scope kind at x =
      ok_then IsNumberedTyped (IsNumberedTerm s.codes.names) (expression_of s scope at x) _ (expression_numbered scope at x) (λ one h.
      skip (IsNumberedTerm s.codes.names) (tested bad.Mismatch at (serves x one.kind kind)) _ (λ _. as_kind_numbered s.codes.names kind x one.term h))

  -- what is made behind an expression
  pub after_expression : {A : Type 0} (Q : A → Type 0) (scope : Scope) (at : ℕ) (x : Expression) (g : Typed → Checked A) → ((one : Typed) → IsNumberedTyped one → AllOk Q (g one)) → AllOk Q (checked.◌>>=◌ (expression_of s scope at x) g)
  after_expression Q scope at x g go = ok_then IsNumberedTyped Q (expression_of s scope at x) g (expression_numbered scope at x) go

  pub after_asked : {A : Type 0} (Q : A → Type 0) (scope : Scope) (kind : Kind) (at : ℕ) (x : Expression) (g : Term → Checked A) → ((term : Term) → IsNumberedTerm s.codes.names term → AllOk Q (g term)) → AllOk Q (checked.◌>>=◌ (asked_of s scope kind at x) g)
  after_asked Q scope kind at x g go = ok_then (IsNumberedTerm s.codes.names) Q (asked_of s scope kind at x) g (asked_numbered scope kind at x) go
