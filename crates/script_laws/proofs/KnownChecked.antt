-- In a checked program constants refer to nothing but `none` and the tables.
use Rattle.std.proofs.Common.{◌≡◌, ◌+◌, ◌<◌, Bool, true, false, cond, ℕ, List, [], ◌∷◌, length, Option, Some, None, Ok, Err, refl}
use Rattle.std.proofs.lemmas.Bool.{ltb-true}
use Rattle.std.specs.Prelude.{nat_lt, bytes_eq, option_map}
use Rattle.std.specs.List.{AllByRecursion, list_any, position_or_len}
use Rattle.slee_value.specs.declared.kind.Kind.{Kind}
use Rattle.slee_value.specs.declared.kind.Kind.TheVariants as k
use Rattle.slee_value.specs.declared.value.Value.TheVariants as v
use Rattle.slee_effect.specs.declared.reference.Ref.TheVariants.{Known}
use Rattle.slee_effect.specs.declared.value.Val.TheVariants.{Plain}
use Rattle.script_tree.specs.declared.symbol.Constant.{Constant}
use Rattle.script_tree.specs.declared.symbol.Constant.TheVariants as c
use Rattle.script_tree.specs.declared.symbol.Operator.{Operator}
use Rattle.script_tree.specs.declared.symbol.Operator.TheVariants as o
use Rattle.script_tree.specs.declared.tree.Leaf.{Leaf}
use Rattle.script_tree.specs.declared.tree.Leaf.TheVariants as l
use Rattle.script_tree.specs.Tree as tree
use Rattle.script_tree.specs.Tree.{Bytes, Expression}
use Rattle.script_types.specs.declared.misuse.CheckBad.TheVariants as bad
use Rattle.script_types.specs.declared.codes.FieldCode.{FieldCode}
use Rattle.script_types.specs.declared.term.Atom.TheVariants as a
use Rattle.script_types.specs.Codes.{Codes, kind_in, relation_named}
use Rattle.script_types.specs.TypingResult.{Checked, misused, tested, known as found}
use Rattle.script_types.specs.TypingResult as checked
use Rattle.script_types.specs.TypingExpressions.{Role, OnEvent, InMethod, OnException, OnRolledBack, OnRemove, is_nothing, serves, not_on_remove, check_query_place, is_query_known, rule_of, left_fits, right_fits, query_takes}
use Rattle.script_types.specs.TypingExpressions as typing
use Rattle.script_types.specs.Scopes.{Scope}
use Rattle.script_types.specs.TokenCounts.{tokens_in, tokens_before}
use Rattle.script_types.specs.Elaboration.{Typed, typed, none_of, as_kind, value_named, child_named, failure_for, constant_of, event_field, event_field_for, table_activity, leaf_of, kind_between, between, asking_of, operand_kind, expression_of, asked_of}
use Rattle.script_types.specs.Program.{Term, Single}
use Rattle.script_laws.specs.References.{Reference, ToActivity, ToTimer, in_value}
use Rattle.script_laws.proofs.KnownSets.{either_way}
use Rattle.script_laws.proofs.KnownConstants.{OfTerm}

-- what a check finds, if it finds no fault, is so
abbrev pub AllOk : {A : Type 0} → (A → Type 0) → Checked A → Type 0
AllOk P (Ok x) = P x
AllOk P (Err fault) = Unit {0}

pub ok_then : {A B : Type 0} (P : A → Type 0) (Q : B → Type 0) (r : Checked A) (g : A → Checked B) → AllOk P r → ((x : A) → P x → AllOk Q (g x)) → AllOk Q (checked.◌>>=◌ r g)
ok_then P Q (Ok x) g h go = go x h
ok_then P Q (Err fault) g h go = tt

-- whatever is found first
pub skip : {A B : Type 0} (Q : B → Type 0) (r : Checked A) (g : A → Checked B) → ((x : A) → AllOk Q (g x)) → AllOk Q (checked.◌>>=◌ r g)
skip Q (Ok x) g go = go x
skip Q (Err fault) g go = tt

-- `none` and the activities of the tables are known
pub record HasConstants (known : Reference → Type 0) (all : Codes) : Type 0 where
  pub no_activity : known (ToActivity (Known 0))
  pub no_timer : known (ToTimer (Known 0))
  pub tables : (place : ℕ) → place < length all.tables → known (ToActivity (Known (place + 1)))

module _ (known : Reference → Type 0) (s : typing.Setting) (given : HasConstants known s.codes) where
  -- the constants of a term are known
  abbrev pub TypedIs : Typed → Type 0
  TypedIs one = OfTerm known one.term

  none_is : (kind : Kind) → AllByRecursion known (in_value (Plain (none_of kind)))
  none_is k.Timer = (given.no_timer, tt)
  none_is k.Activity = (given.no_activity, tt)
  none_is k.Int = (given.no_activity, tt)
  none_is k.Text = (given.no_activity, tt)
  none_is k.Bool = (given.no_activity, tt)

  pub as_kind_is : (kind : Kind) (x : Expression) (term : Term) → OfTerm known term → OfTerm known (as_kind kind x term)
  as_kind_is kind x term h = either_way (OfTerm known) (is_nothing x) (Single (a.Constant (none_of kind))) term (none_is kind) h

  failure_is : (role : Role) (at : ℕ) → AllOk TypedIs (failure_for role at)
  failure_is OnException at = tt
  failure_is OnRolledBack at = tt
  failure_is (OnEvent fields) at = tt
  failure_is (InMethod result) at = tt
  failure_is OnRemove at = tt

  constant_is : (at : ℕ) (word : Constant) → AllOk TypedIs (constant_of s at word)
  constant_is at c.True = tt
  constant_is at c.False = tt
  constant_is at c.Nothing = none_is k.Activity
  constant_is at c.Now = skip TypedIs (not_on_remove s at) _ (λ _. tt)
  constant_is at c.Activity = skip TypedIs (not_on_remove s at) _ (λ _. tt)
  constant_is at c.Failure = failure_is s.role at

  found_either : (at : ℕ) (b : Bool) (x : Typed) (rest : Option Typed) → TypedIs x → AllOk TypedIs (found at rest) → AllOk TypedIs (found at (cond b (Some x) rest))
  found_either at true x rest h g = h
  found_either at false x rest h g = g

  field_is : (at place : ℕ) (name : Bytes) (fields : List FieldCode) → AllOk TypedIs (found at (event_field place name fields))
  field_is at place name [] = tt
  field_is at place name (field ∷ fields) = found_either at (bytes_eq field.name name) (typed field.kind (a.EventField place field.kind)) (event_field (place + 1) name fields) tt (field_is at (place + 1) name fields)

  event_is : (role : Role) (at : ℕ) (name : Bytes) → AllOk TypedIs (event_field_for role at name)
  event_is (OnEvent fields) at name = field_is (at + 2) 0 name fields
  event_is (InMethod result) at name = tt
  event_is OnException at name = tt
  event_is OnRolledBack at name = tt
  event_is OnRemove at name = tt

  table_at : (at place : ℕ) (b : Bool) → nat_lt place (length s.codes.tables) ≡ b → AllOk TypedIs (found at (option_map (λ place. typed k.Activity (a.Constant (v.Activity (record { 0 = place + 1 })))) (cond b (Some place) None)))
  table_at at place true e = (given.tables place (ltb-true place (length s.codes.tables) e), tt)
  table_at at place false e = tt

  table_is : (at : ℕ) (name : Bytes) → AllOk TypedIs (found at (table_activity s.codes name))
  table_is at name = table_at at (position_or_len (λ x. bytes_eq x.name name) s.codes.tables) (nat_lt (position_or_len (λ x. bytes_eq x.name name) s.codes.tables) (length s.codes.tables)) refl

  leaf_is : (scope : Scope) (at : ℕ) (leaf : Leaf) → AllOk TypedIs (leaf_of s scope at leaf)
  leaf_is scope at (l.Int n) = tt
  leaf_is scope at (l.Text text) = tt
  leaf_is scope at (l.Constant word) = constant_is at word
  leaf_is scope at (l.Variable name) = skip TypedIs (value_named scope name at) _ (λ x. tt)
  leaf_is scope at (l.Field name) = skip TypedIs (found (at + 2) (kind_in name s.block.fields)) _ (λ kind. tt)
  leaf_is scope at (l.EventField name) = event_is s.role at name
  leaf_is scope at (l.Table name) = ok_then TypedIs TypedIs (found (at + 2) (table_activity s.codes name)) _ (table_is (at + 2) name) (λ x h. skip TypedIs (not_on_remove s at) _ (λ _. h))
  leaf_is scope at (l.Count name) = skip TypedIs (found (at + 2) (relation_named name s.block)) _ (λ _. skip TypedIs (not_on_remove s at) _ (λ _. tt))
  leaf_is scope at (l.Priority name) = skip TypedIs (child_named scope name (at + 2)) _ (λ x. skip TypedIs (not_on_remove s at) _ (λ _. tt))

  between_is : (op : Operator) (kind : Kind) (x y : Term) → OfTerm known x → OfTerm known y → OfTerm known (between op kind x y)
  between_is o.Or kind x y h g = (h, g)
  between_is o.And kind x y h g = (h, g)
  between_is o.Equal kind x y h g = (h, g)
  between_is o.NotEqual kind x y h g = (h, g)
  between_is o.Less kind x y h g = (h, g)
  between_is o.LessOrEqual kind x y h g = (h, g)
  between_is o.Greater kind x y h g = (h, g)
  between_is o.GreaterOrEqual kind x y h g = (h, g)
  between_is o.Join kind x y h g = (h, g)
  between_is o.Plus kind x y h g = (h, g)
  between_is o.Minus kind x y h g = (h, g)
  between_is o.Times kind x y h g = (h, g)
  between_is o.Divide kind x y h g = (h, g)
  between_is o.Remainder kind x y h g = (h, g)

  -- the constants of an expression's term are known
  pub expression_is : (scope : Scope) (at : ℕ) (x : Expression) → AllOk TypedIs (expression_of s scope at x)
  expression_is scope at (tree.Leaf leaf) = leaf_is scope at leaf
  expression_is scope at (tree.Unary op x) = ok_then TypedIs TypedIs (expression_of s scope (at + 1) x) _ (expression_is scope (at + 1) x) (λ one h. skip TypedIs (tested bad.Mismatch (at + 1) (serves x one.kind (typing.prefix_kind op))) _ (λ _. h))
  expression_is scope at (tree.Binary op x y) = ok_then TypedIs TypedIs (expression_of s scope at x) _ (expression_is scope at x) (λ one h. skip TypedIs (tested bad.Mismatch at (left_fits (rule_of op) x one.kind)) _ (λ _.
      ok_then TypedIs TypedIs (expression_of s scope (at + tokens_in x + 1) y) _ (expression_is scope (at + tokens_in x + 1) y) (λ other g. skip TypedIs (tested bad.Mismatch (at + tokens_in x + 1) (right_fits (rule_of op) x one.kind y other.kind)) _ (λ _.
      let kind : Kind = kind_between one.kind other.kind in
      between_is op kind (as_kind kind x one.term) (as_kind kind y other.term) (as_kind_is kind x one.term h) (as_kind_is kind y other.term g)))))
  expression_is scope at (tree.Ask query x) = skip TypedIs (tested bad.Name (at + 2) (is_query_known s.codes query)) _ (λ _. ok_then TypedIs TypedIs (expression_of s scope (at + tokens_before query) x) _ (expression_is scope (at + tokens_before query) x) (λ one h.
      skip TypedIs (tested bad.Mismatch (at + tokens_before query) (list_any (serves x one.kind) (query_takes query))) _ (λ _. skip TypedIs (asking_of s (at + tokens_before query + tokens_in x + 1) one.kind query) _ (λ asking.
      skip TypedIs (check_query_place s at query) _ (λ _. as_kind_is (operand_kind query one.kind) x one.term h)))))
  expression_is scope at (tree.Group x) = expression_is scope (at + 1) x

  -- and where one type is asked for
  pub asked_is : (scope : Scope) (kind : Kind) (at : ℕ) (x : Expression) → AllOk (OfTerm known) (asked_of s scope kind at x)
  asked_is scope kind at x = ok_then TypedIs (OfTerm known) (expression_of s scope at x) _ (expression_is scope at x) (λ one h. skip (OfTerm known) (tested bad.Mismatch at (serves x one.kind kind)) _ (λ _. as_kind_is kind x one.term h))
