-- The constants of the terms that expressions are made into have spellings where those of the expressions have.
use Rattle.std.proofs.Common.{◌≡◌, ◌+◌, Bool, true, false, cond, ℕ, List, [], ◌∷◌, Option, Some, None, refl}
use Rattle.std.specs.Prelude.{bytes_eq, option_map, position}
use Rattle.std.specs.List.{list_any}
use Rattle.slee_value.specs.declared.kind.Kind.{Kind}
use Rattle.slee_value.specs.declared.kind.Kind.TheVariants as k
use Rattle.slee_value.specs.declared.value.Value.TheVariants as v
use Rattle.script_tree.specs.declared.symbol.Constant.{Constant}
use Rattle.script_tree.specs.declared.symbol.Constant.TheVariants as c
use Rattle.script_tree.specs.declared.symbol.Operator.{Operator}
use Rattle.script_tree.specs.declared.symbol.Operator.TheVariants as o
use Rattle.script_tree.specs.declared.tree.Leaf.{Leaf}
use Rattle.script_tree.specs.declared.tree.Leaf.TheVariants as l
use Rattle.script_tree.specs.Tree as tree
use Rattle.script_tree.specs.Tree.{Bytes, Expression}
use Rattle.script_types.specs.declared.misuse.CheckBad.TheVariants as bad
use Rattle.script_types.specs.declared.codes.FieldCode.{FieldCode}
use Rattle.script_types.specs.declared.term.Atom.TheVariants as a
use Rattle.script_types.specs.Codes.{kind_in, relation_named}
use Rattle.script_types.specs.TypingResult.{Checked, tested, known}
use Rattle.script_types.specs.TypingResult as checked
use Rattle.script_types.specs.TypingExpressions.{Setting, Role, OnEvent, OnException, OnRolledBack, serves, not_on_remove, check_query_place, is_query_known, is_nothing, prefix_kind, rule_of, left_fits, right_fits, query_takes}
use Rattle.script_types.specs.Scopes.{Scope}
use Rattle.script_types.specs.TokenCounts.{tokens_in, tokens_before}
use Rattle.script_types.specs.Elaboration.{Typed, typed, none_of, as_kind, value_named, child_named, failure_for, constant_of, event_field, event_field_for, table_activity, leaf_of, kind_between, between, asking_of, operand_kind, expression_of, asked_of}
use Rattle.script_types.specs.Program.{Term, Single}
use Rattle.script_laws.proofs.NumberedResults.{AllOk, ok_then, skip}
use Rattle.router_laws_spelled.specs.Written.{LeafSpelled, WrittenSpelled}
use Rattle.router_laws_values.specs.Spelled.{TermSpelled}

none_spelled : (kind : Kind) → TermSpelled (Single (a.Constant (none_of kind)))
none_spelled k.Int = tt
none_spelled k.Text = tt
none_spelled k.Bool = tt
none_spelled k.Activity = tt
none_spelled k.Timer = tt

-- `none` or the term, where a value of that kind is asked for
pub as_kind_spelled : (kind : Kind) (x : Expression) (term : Term) → TermSpelled term → TermSpelled (as_kind kind x term)
as_kind_spelled kind x term h = either (is_nothing x)
  where
    either : (b : Bool) → TermSpelled (cond b (Single (a.Constant (none_of kind))) term)
    either true = none_spelled kind
    either false = h

between_spelled : (op : Operator) (kind : Kind) (x y : Term) → TermSpelled x → TermSpelled y → TermSpelled (between op kind x y)
between_spelled o.Or kind x y h g = (h, g)
between_spelled _ kind x y h g = (h, g)

module _ (s : Setting) where
  abbrev pub TypedSpelled : Typed → Type 0
  TypedSpelled one = TermSpelled one.term

  failure_spelled : (role : Role) (at : ℕ) → AllOk TypedSpelled (failure_for role at)
  failure_spelled OnException at = tt
  failure_spelled OnRolledBack at = tt
  failure_spelled _ at = tt

  constant_spelled : (at : ℕ) (word : Constant) → AllOk TypedSpelled (constant_of s at word)
  constant_spelled at c.Now = skip TypedSpelled (not_on_remove s at) _ (λ _. tt)
  constant_spelled at c.Activity = skip TypedSpelled (not_on_remove s at) _ (λ _. tt)
  constant_spelled at c.Failure = failure_spelled s.role at
  constant_spelled at _ = tt

  found_spelled : (at : ℕ) (b : Bool) (x : Typed) (rest : Option Typed) → TypedSpelled x → AllOk TypedSpelled (known at rest) → AllOk TypedSpelled (known at (cond b (Some x) rest))
  found_spelled at true x rest h g = h
  found_spelled at false x rest h g = g

  field_spelled : (at place : ℕ) (name : Bytes) (fields : List FieldCode) → AllOk TypedSpelled (known at (event_field place name fields))
  field_spelled at place name [] = tt
  field_spelled at place name (field ∷ fields) = found_spelled at (bytes_eq field.name name) (typed field.kind (a.EventField place field.kind)) (event_field (place + 1) name fields) tt (field_spelled at (place + 1) name fields)

  event_field_spelled : (role : Role) (at : ℕ) (name : Bytes) → AllOk TypedSpelled (event_field_for role at name)
  event_field_spelled (OnEvent fields) at name = field_spelled (at + 2) 0 name fields
  event_field_spelled _ at name = tt

  -- the activity of a table is a constant
  table_spelled : (at : ℕ) (place : Option ℕ) → AllOk TypedSpelled (known at (option_map (λ n. typed k.Activity (a.Constant (v.Activity (record { 0 = n + 1 })))) place))
  table_spelled at None = tt
  table_spelled at (Some n) = tt

  leaf_spelled : (scope : Scope) (at : ℕ) (leaf : Leaf) → LeafSpelled leaf → AllOk TypedSpelled (leaf_of s scope at leaf)
  leaf_spelled scope at (l.Int n) h = h
  leaf_spelled scope at (l.Text text) h = h
  leaf_spelled scope at (l.Constant word) h = constant_spelled at word
  leaf_spelled scope at (l.Variable name) h = skip TypedSpelled (value_named scope name at) _ (λ x. tt)
  leaf_spelled scope at (l.Field name) h = skip TypedSpelled (known (at + 2) (kind_in name s.block.fields)) _ (λ kind. tt)
  leaf_spelled scope at (l.EventField name) h = event_field_spelled s.role at name
  leaf_spelled scope at (l.Table name) h =
      ok_then TypedSpelled TypedSpelled (known (at + 2) (table_activity s.codes name)) _ (table_spelled (at + 2) (position (λ x. bytes_eq x.name name) s.codes.tables)) (λ x g. skip TypedSpelled (not_on_remove s at) _ (λ _. g))
  leaf_spelled scope at (l.Count name) h = skip TypedSpelled (known (at + 2) (relation_named name s.block)) _ (λ _. skip TypedSpelled (not_on_remove s at) _ (λ _. tt))
  leaf_spelled scope at (l.Priority name) h = skip TypedSpelled (child_named scope name (at + 2)) _ (λ x. skip TypedSpelled (not_on_remove s at) _ (λ _. tt))

  pub expression_spelled : (scope : Scope) (at : ℕ) (x : Expression) → WrittenSpelled x → AllOk TypedSpelled (expression_of s scope at x)
  expression_spelled scope at (tree.Leaf leaf) written = leaf_spelled scope at leaf written
  expression_spelled scope at (tree.Unary op x) written =
      ok_then TypedSpelled TypedSpelled (expression_of s scope (at + 1) x) _ (expression_spelled scope (at + 1) x written) (λ one h.
      skip TypedSpelled (tested bad.Mismatch (at + 1) (serves x one.kind (prefix_kind op))) _ (λ _. h))
  expression_spelled scope at (tree.Binary op x y) written =
      ok_then TypedSpelled TypedSpelled (expression_of s scope at x) _ (expression_spelled scope at x written.0) (λ one h.
      skip TypedSpelled (tested bad.Mismatch at (left_fits (rule_of op) x one.kind)) _ (λ _.
      ok_then TypedSpelled TypedSpelled (expression_of s scope (at + tokens_in x + 1) y) _ (expression_spelled scope (at + tokens_in x + 1) y written.1) (λ other g.
      skip TypedSpelled (tested bad.Mismatch (at + tokens_in x + 1) (right_fits (rule_of op) x one.kind y other.kind)) _ (λ _.
      let kind : Kind = kind_between one.kind other.kind in
      between_spelled op kind (as_kind kind x one.term) (as_kind kind y other.term) (as_kind_spelled kind x one.term h) (as_kind_spelled kind y other.term g)))))
  expression_spelled scope at (tree.Ask query x) written =
      skip TypedSpelled (tested bad.Name (at + 2) (is_query_known s.codes query)) _ (λ _.
      ok_then TypedSpelled TypedSpelled (expression_of s scope (at + tokens_before query) x) _ (expression_spelled scope (at + tokens_before query) x written) (λ one h.
      skip TypedSpelled (tested bad.Mismatch (at + tokens_before query) (list_any (serves x one.kind) (query_takes query))) _ (λ _.
      skip TypedSpelled (asking_of s (at + tokens_before query + tokens_in x + 1) one.kind query) _ (λ asking.
      skip TypedSpelled (check_query_place s at query) _ (λ _. as_kind_spelled (operand_kind query one.kind) x one.term h)))))
  expression_spelled scope at (tree.Group x) written = expression_spelled scope (at + 1) x written

  -- where one type is asked for
  asked_spelled : (scope : Scope) (kind : Kind) (at : ℕ) (x : Expression) → WrittenSpelled x → AllOk TermSpelled (asked_of s scope kind at x)
  asked_spelled scope kind at x written =
      ok_then TypedSpelled TermSpelled (expression_of s scope at x) _ (expression_spelled scope at x written) (λ one h.
      skip TermSpelled (tested bad.Mismatch at (serves x one.kind kind)) _ (λ _. as_kind_spelled kind x one.term h))

  -- what is made behind an expression
  pub after_expression : {A : Type 0} (Q : A → Type 0) (scope : Scope) (at : ℕ) (x : Expression) → WrittenSpelled x → (g : Typed → Checked A) → ((one : Typed) → TypedSpelled one → AllOk Q (g one)) → AllOk Q (checked.◌>>=◌ (expression_of s scope at x) g)
  after_expression Q scope at x written g go = ok_then TypedSpelled Q (expression_of s scope at x) g (expression_spelled scope at x written) go

  pub after_asked : {A : Type 0} (Q : A → Type 0) (scope : Scope) (kind : Kind) (at : ℕ) (x : Expression) → WrittenSpelled x → (g : Term → Checked A) → ((term : Term) → TermSpelled term → AllOk Q (g term)) → AllOk Q (checked.◌>>=◌ (asked_of s scope kind at x) g)
  after_asked Q scope kind at x written g go = ok_then TermSpelled Q (asked_of s scope kind at x) g (asked_spelled scope kind at x written) go
