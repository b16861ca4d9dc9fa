-- What a statement is made into, with the variables that are visible behind it, or its first fault. Parts are read from left to right, each with all inside it, and the whole last.
-- `at` tokens stand before what is checked. Each definition has the form of its statement above it.
use Rattle.std.specs.Prelude.{ℕ, ◌+◌, ◌==◌, true, false, not, List, [], ◌∷◌, ◌++◌, length, drop, map, codes, if◌then◌else◌, option_and_then, Option, Some, None, Ok, slice_get, bytes_eq, is_some}
use Rattle.std.specs.List.{list_any}
use Rattle.slee_value.specs.declared.kind.Kind.TheVariants as k
use Rattle.slee_value.specs.declared.keep.Keep.{Keep}
use Rattle.slee_value.specs.declared.keep.Keep.TheVariants as keeps
use Rattle.script_types.specs.declared.misuse.CheckBad.TheVariants as bad
use Rattle.script_types.specs.declared.codes.FieldCode.{FieldCode}
use Rattle.script_types.specs.declared.codes.RelationCode.{RelationCode}
use Rattle.script_tree.specs.declared.symbol.Verb.{Verb}
use Rattle.script_tree.specs.declared.symbol.Verb.TheVariants as v
use Rattle.script_tree.specs.declared.tree.Who.{Who as NamedWho}
use Rattle.script_tree.specs.declared.tree.Who.TheVariants as named
use Rattle.script_tree.specs.declared.tree.Over.{Over}
use Rattle.script_tree.specs.declared.tree.Over.TheVariants as over
use Rattle.script_types.specs.declared.step.Who.{Who}
use Rattle.script_types.specs.declared.step.Who.TheVariants as w
use Rattle.script_types.specs.declared.step.Range.{Range}
use Rattle.script_types.specs.declared.step.Range.TheVariants as range
use Rattle.script_tree.specs.Tree as tree
use Rattle.script_tree.specs.Tree.{Bytes, Expression, Assigning, OnEntities, OnActivities, SettingTimer, Statement, Statements}
use Rattle.script_types.specs.Codes.{Method, symbol_of, kind_in, any_event, declared_event, relation_named}
use Rattle.script_types.specs.TypingResult.{Checked, ◌>>=◌, misused, tested, known}
use Rattle.script_types.specs.Scopes.{Scope, with_value, with_child, check_new}
use Rattle.script_types.specs.TokenCounts.{tokens_in, tokens_in_arguments, tokens_in_tail, tokens_in_statement, tokens_in_statements}
use Rattle.script_types.specs.TypingExpressions.{Setting, Role, InMethod, not_on_remove}
use Rattle.script_types.specs.TypingStatements.{argument_fits, check_handler, check_result, check_service, are_all_given}
use Rattle.script_types.specs.Elaboration.{value_named, child_named, attribute_named, expression_of, asked_of, as_kind}
use Rattle.script_types.specs.Program as p
use Rattle.script_types.specs.Program.{Term, Step, Steps}

-- A step with the variables that are visible behind it.
pub record Made : Type 0 where
  pub scope : Scope
  pub step : Step

-- Steps with the variables that are visible behind them.
pub record MadeAll : Type 0 where
  pub scope : Scope
  pub steps : Steps

-- let NAME = e ;      NAME = e ;      self . NAME = e ;      attr ( e , NAME ) = e ;
abbrev pub assigning_of : Setting → Scope → ℕ → Assigning → Checked Made
assigning_of s scope at (tree.New name x) = do
  _ ← check_new scope name (at + 1)
  one ← expression_of s scope (at + 3) x
  Ok (record { scope = with_value scope name one.kind; step = p.Assign (p.New one.term) })
assigning_of s scope at (tree.Variable name x) = do
  variable ← value_named scope name at
  term ← asked_of s scope variable.kind (at + 2) x
  Ok (record { scope = scope; step = p.Assign (p.Variable variable.place term) })
assigning_of s scope at (tree.Field name x) = do
  kind ← known (at + 2) (kind_in name s.block.fields)
  term ← asked_of s scope kind (at + 4) x
  _ ← not_on_remove s at
  Ok (record { scope = scope; step = p.Assign (p.Field (symbol_of s.codes name) term) })
assigning_of s scope at (tree.Attribute x name y) = do
  activity ← asked_of s scope k.Activity (at + 2) x
  attribute ← known (at + 3 + tokens_in x) (attribute_named name s.block)
  term ← asked_of s scope attribute.kind (at + 6 + tokens_in x) y
  _ ← not_on_remove s at
  Ok (record { scope = scope; step = p.Assign (p.Attribute activity (symbol_of s.codes attribute.key) term) })

-- an argument where its parameter's type is asked for
abbrev pub argument_of : Option FieldCode → Expression → Term → Term
argument_of None x term = term
argument_of (Some parameter) x term = as_kind parameter.kind x term

-- each argument against its parameter, those behind the last parameter against none
abbrev pub arguments_of : Setting → Scope → List FieldCode → ℕ → List Expression → Checked (List Term)
arguments_of s scope parameters at [] = Ok []
arguments_of s scope parameters at (x ∷ more) = do
  one ← expression_of s scope at x
  _ ← tested bad.Mismatch at (argument_fits (slice_get parameters 0) x one.kind)
  terms ← arguments_of s scope (drop 1 parameters) (at + tokens_in x + 1) more
  Ok (argument_of (slice_get parameters 0) x one.term ∷ terms)

-- the priority of a new child
abbrev pub rank_of : Setting → Scope → RelationCode → ℕ → Option Expression → Checked p.Rank
rank_of s scope relation at None = Ok (p.Given relation.priority)
rank_of s scope relation at (Some x) = do
  term ← asked_of s scope k.Int at x
  Ok (p.Asked term)

-- A method with its number.
pub record MethodAt : Type 0 where
  pub number : ℕ
  pub method : Method

abbrev pub method_from : ℕ → Bytes → List Method → Option MethodAt
method_from number name [] = None
method_from number name (method ∷ methods) = if bytes_eq method.name name then Some (record { number = number; method = method }) else method_from (number + 1) name methods

-- a method of the block with that number
abbrev pub method_in : Setting → ℕ → Bytes → Option MethodAt
method_in s block name = option_and_then (λ b. method_from 0 name b.methods) (slice_get s.codes.blocks block)

-- create NAME as NAME priority e ;      remove NAME ;      priority NAME e ;      call NAME . NAME ( e , e ) as NAME ;
abbrev pub on_entities_of : Setting → Scope → ℕ → OnEntities → Checked Made
on_entities_of s scope at (tree.Create name child priority) = do
  relation ← known (at + 1) (relation_named name s.block)
  _ ← check_new scope child (at + 3)
  rank ← rank_of s scope relation (at + 5) priority
  _ ← not_on_remove s at
  Ok (record { scope = with_child scope child relation.block; step = p.Entity (p.Create (symbol_of s.codes name) rank) })
on_entities_of s scope at (tree.Remove child) = do
  found ← child_named scope child (at + 1)
  _ ← not_on_remove s at
  Ok (record { scope = scope; step = p.Entity (p.Remove found.place) })
on_entities_of s scope at (tree.Priority child x) = do
  found ← child_named scope child (at + 1)
  term ← asked_of s scope k.Int (at + 2) x
  _ ← not_on_remove s at
  Ok (record { scope = scope; step = p.Entity (p.Priority found.place term) })
on_entities_of s scope at (tree.Call child name arguments result) = do
  found ← child_named scope child (at + 1)
  called ← known (at + 3) (method_in s found.block name)
  terms ← arguments_of s scope called.method.parameters (at + 5) arguments
  _ ← tested bad.Count (at + 3) (length arguments == length called.method.parameters)
  next ← check_result scope called.method.result (at + 7 + tokens_in_arguments arguments) result
  _ ← not_on_remove s at
  Ok (record { scope = next; step = p.Invoke (record { child = found.place; block = found.block; method = called.number; arguments = terms; keeps = is_some result }) })

-- the entity itself or a child
abbrev pub who_of : Scope → ℕ → NamedWho → Checked Who
who_of scope at named.Own = Ok w.Own
who_of scope at (named.Child child) = do
  found ← child_named scope child at
  Ok (w.Child found.place)

-- NAME : e with what stands behind it, each field that the event has and none twice
abbrev pub fields_of : Setting → Scope → List FieldCode → List Bytes → ℕ → List (Bytes × Expression) → Checked (List (Bytes × Term))
fields_of s scope declared given at [] = Ok []
fields_of s scope declared given at (field ∷ more) = do
  kind ← known at (kind_in field.0 declared)
  _ ← tested bad.Count at (not (list_any (bytes_eq field.0) given))
  term ← asked_of s scope kind (at + 2) field.1
  rest ← fields_of s scope declared (field.0 ∷ given) (at + 3 + tokens_in field.1) more
  Ok ((field.0, term) ∷ rest)

abbrev pub unchanged : Scope → p.OnActivities → Made
unchanged scope x = record { scope = scope; step = p.Activity x }

-- attach WHO to e ;      detach WHO from e ;      mask TEXT on e ;      unmask TEXT on e ;
-- fire TEXT on e for TEXT { NAME : e , NAME : e } ;      null as NAME ;      bind e to e ;
abbrev pub on_activities_of : Setting → Scope → ℕ → OnActivities → Checked Made
on_activities_of s scope at (tree.Attach who x) = do
  someone ← who_of scope (at + 1) who
  term ← asked_of s scope k.Activity (at + 3) x
  _ ← not_on_remove s at
  Ok (unchanged scope (p.Attach someone term))
on_activities_of s scope at (tree.Detach who x) = do
  someone ← who_of scope (at + 1) who
  term ← asked_of s scope k.Activity (at + 3) x
  _ ← not_on_remove s at
  Ok (unchanged scope (p.Detach someone term))
on_activities_of s scope at (tree.Mask event x) = do
  _ ← known (at + 1) (any_event event s.codes)
  term ← asked_of s scope k.Activity (at + 3) x
  _ ← not_on_remove s at
  Ok (unchanged scope (p.Mask (symbol_of s.codes event) true term))
on_activities_of s scope at (tree.Unmask event x) = do
  _ ← known (at + 1) (any_event event s.codes)
  term ← asked_of s scope k.Activity (at + 3) x
  _ ← not_on_remove s at
  Ok (unchanged scope (p.Mask (symbol_of s.codes event) false term))
on_activities_of s scope at (tree.Fire name x service fields) = do
  event ← known (at + 1) (declared_event name s.codes)
  term ← asked_of s scope k.Activity (at + 3) x
  _ ← check_service s (at + 4 + tokens_in x) service
  terms ← fields_of s scope event.fields [] (at + 4 + tokens_in x + tokens_in_tail service) fields
  _ ← tested bad.Count (at + 1) (are_all_given event.fields (map (λ f. f.0) fields))
  _ ← not_on_remove s at
  Ok (unchanged scope (p.Fire name term service terms))
on_activities_of s scope at (tree.Null name) = do
  _ ← check_new scope name (at + 2)
  _ ← not_on_remove s at
  Ok (record { scope = with_value scope name k.Activity; step = p.Activity p.Null })
on_activities_of s scope at (tree.Bind x y) = do
  one ← asked_of s scope k.Text (at + 1) x
  other ← asked_of s scope k.Activity (at + 2 + tokens_in x) y
  _ ← not_on_remove s at
  Ok (unchanged scope (p.Bind one other))

-- every e times e
abbrev pub repeat_of : Setting → Scope → ℕ → Option (Expression × Expression) → Checked (Option (Term × Term))
repeat_of s scope at None = Ok None
repeat_of s scope at (Some r) = do
  one ← asked_of s scope k.Int (at + 1) r.0
  other ← asked_of s scope k.Int (at + 2 + tokens_in r.0) r.1
  Ok (Some (one, other))

-- all missed occurrences are fired where a timer says nothing else
abbrev pub keep_of : Option Keep → Keep
keep_of None = keeps.All
keep_of (Some keep) = keep

-- timer NAME on e at e every e times e keep all ;
abbrev pub timer_of : Setting → Scope → ℕ → SettingTimer → Checked Made
timer_of s scope at t = do
  _ ← check_new scope t.name (at + 1)
  activity ← asked_of s scope k.Activity (at + 3) t.activity
  start ← asked_of s scope k.Int (at + 4 + tokens_in t.activity) t.start
  repeat ← repeat_of s scope (at + 4 + tokens_in t.activity + tokens_in t.start) t.repeat
  _ ← not_on_remove s at
  Ok (record { scope = with_value scope t.name k.Timer; step = p.Timer (p.Start activity start repeat (keep_of t.keep)) })

-- `return` is for methods that return, with that type
abbrev pub return_of : Setting → Scope → ℕ → Role → Expression → Checked Step
return_of s scope at (InMethod (Some kind)) x = do
  term ← asked_of s scope kind (at + 1) x
  Ok (p.Say (p.Return term))
return_of s scope at _ x = do
  _ ← expression_of s scope (at + 1) x
  misused bad.Place at

-- end e ;      cancel e ;      unbind e ;      emit e ;      return e ;      throw e ;      suspend e ;      resume e ;
abbrev pub verb_of : Setting → Scope → ℕ → Verb → Expression → Checked Step
verb_of s scope at v.End x = do
  term ← asked_of s scope k.Activity (at + 1) x
  _ ← not_on_remove s at
  Ok (p.Activity (p.End term))
verb_of s scope at v.Cancel x = do
  term ← asked_of s scope k.Timer (at + 1) x
  _ ← not_on_remove s at
  Ok (p.Timer (p.Cancel term))
verb_of s scope at v.Unbind x = do
  term ← asked_of s scope k.Text (at + 1) x
  _ ← not_on_remove s at
  Ok (p.Activity (p.Unbind term))
verb_of s scope at v.Emit x = do
  term ← asked_of s scope k.Text (at + 1) x
  Ok (p.Say (p.Emit term))
verb_of s scope at v.Return x = return_of s scope at s.role x
verb_of s scope at v.Throw x = do
  term ← asked_of s scope k.Text (at + 1) x
  _ ← not_on_remove s at
  Ok (p.Say (p.Throw term))
verb_of s scope at v.Suspend x = do
  term ← asked_of s scope k.Int (at + 1) x
  _ ← check_handler s.role at
  Ok (p.Activity (p.Suspend term))
verb_of s scope at v.Resume x = do
  term ← asked_of s scope k.Activity (at + 1) x
  _ ← not_on_remove s at
  Ok (p.Activity (p.Resume term))

-- What a loop goes over, with its variable in scope.
pub record Loop : Type 0 where
  pub scope : Scope
  pub range : Range

-- the variable of a `for`: an activity, or a child of the relation that is named there
abbrev pub loop_of : Setting → Scope → Bytes → ℕ → Over → Checked Loop
loop_of s scope name at over.Activities = Ok (record { scope = with_value scope name k.Activity; range = range.Activities })
loop_of s scope name at (over.Children relation) = do
  found ← known at (relation_named relation s.block)
  Ok (record { scope = with_child scope name found.block; range = range.Children (symbol_of s.codes relation) })

-- usage NAME e ;      rollback ;      if e { .. }      if e { .. } else { .. }      while e { .. }      for NAME in NAME { .. }
abbrev mutual
  pub statement_made : Setting → Scope → ℕ → Statement → Checked Made
  statement_made s scope at (tree.Assign x) = assigning_of s scope at x
  statement_made s scope at (tree.Entity x) = on_entities_of s scope at x
  statement_made s scope at (tree.Activity x) = on_activities_of s scope at x
  statement_made s scope at (tree.Timer x) = timer_of s scope at x
  statement_made s scope at (tree.Do verb x) = do
    step ← verb_of s scope at verb x
    Ok (record { scope = scope; step = step })
  statement_made s scope at (tree.Usage name x) = do
    term ← asked_of s scope k.Int (at + 2) x
    _ ← not_on_remove s at
    Ok (record { scope = scope; step = p.Say (p.Usage (s.block.key ++ codes "." ++ name) term) })
  statement_made s scope at tree.Rollback = do
    _ ← not_on_remove s at
    Ok (record { scope = scope; step = p.Say p.Rollback })
  statement_made s scope at (tree.If x body) = do
    term ← asked_of s scope k.Bool (at + 1) x
    inner ← statements_made s scope (at + 2 + tokens_in x) body
    Ok (record { scope = scope; step = p.If term inner.steps p.Nothing })
  statement_made s scope at (tree.IfElse x body other) = do
    term ← asked_of s scope k.Bool (at + 1) x
    inner ← statements_made s scope (at + 2 + tokens_in x) body
    second ← statements_made s scope (at + 5 + tokens_in x + tokens_in_statements body) other
    Ok (record { scope = scope; step = p.If term inner.steps second.steps })
  statement_made s scope at (tree.While x body) = do
    term ← asked_of s scope k.Bool (at + 1) x
    inner ← statements_made s scope (at + 2 + tokens_in x) body
    Ok (record { scope = scope; step = p.While term inner.steps })
  statement_made s scope at (tree.For name list body) = do
    _ ← check_new scope name (at + 1)
    loop ← loop_of s scope name (at + 3) list
    inner ← statements_made s loop.scope (at + 5) body
    _ ← not_on_remove s at
    Ok (record { scope = scope; step = p.For loop.range inner.steps })

  -- statements in order; behind a block its variables are forgotten
  pub statements_made : Setting → Scope → ℕ → Statements → Checked MadeAll
  statements_made s scope at tree.Nothing = Ok (record { scope = scope; steps = p.Nothing })
  statements_made s scope at (tree.Then x more) = do
    one ← statement_made s scope at x
    others ← statements_made s one.scope (at + tokens_in_statement x) more
    Ok (record { scope = others.scope; steps = p.Then one.step others.steps })
