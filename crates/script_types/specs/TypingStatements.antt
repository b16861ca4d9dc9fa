-- The variables that are visible behind a statement, or its first fault. Parts are read from left to right, each with all inside it, and the whole last.
-- `at` tokens stand before what is checked. Each definition has the form of its statement above it.
use Rattle.std.specs.Prelude.{ℕ, ◌+◌, ◌==◌, Bool, true, not, List, [], ◌∷◌, length, drop, map, Option, Some, None, Ok, slice_get, bytes_eq}
use Rattle.std.specs.List.{list_any, list_all}
use Rattle.slee_value.specs.declared.kind.Kind.{Kind}
use Rattle.slee_value.specs.declared.kind.Kind.TheVariants as k
use Rattle.script_types.specs.declared.misuse.CheckBad.TheVariants as bad
use Rattle.script_types.specs.declared.codes.FieldCode.{FieldCode}
use Rattle.script_tree.specs.declared.symbol.Verb.{Verb}
use Rattle.script_tree.specs.declared.symbol.Verb.TheVariants as v
use Rattle.script_tree.specs.declared.tree.Who.{Who}
use Rattle.script_tree.specs.declared.tree.Who.TheVariants as w
use Rattle.script_tree.specs.declared.tree.Over.{Over}
use Rattle.script_tree.specs.declared.tree.Over.TheVariants as over
use Rattle.script_tree.specs.Tree as tree
use Rattle.script_tree.specs.Tree.{Bytes, Expression, Assigning, OnEntities, OnActivities, SettingTimer, Statement, Statements}
use Rattle.script_types.specs.Codes.{kind_in, attribute_kind, any_event, declared_event, relation_named, method_named}
use Rattle.script_types.specs.TypingResult.{Checked, ◌>>=◌, misused, tested, known}
use Rattle.script_types.specs.Scopes.{Scope, with_value, with_child, check_new, check_value, check_child}
use Rattle.script_types.specs.TokenCounts.{tokens_in, tokens_in_arguments, tokens_in_tail, tokens_in_statement, tokens_in_statements}
use Rattle.script_types.specs.TypingExpressions.{Setting, Role, InMethod, OnEvent, check_expression, check_asked, serves, not_on_remove}

-- let NAME = e ;      NAME = e ;      self . NAME = e ;      attr ( e , NAME ) = e ;
abbrev pub check_assigning : Setting → Scope → ℕ → Assigning → Checked Scope
check_assigning s scope at (tree.New name x) = do
  _ ← check_new scope name (at + 1)
  kind ← check_expression s scope (at + 3) x
  Ok (with_value scope name kind)
check_assigning s scope at (tree.Variable name x) = do
  kind ← check_value scope name at
  _ ← check_asked s scope kind (at + 2) x
  Ok scope
check_assigning s scope at (tree.Field name x) = do
  kind ← known (at + 2) (kind_in name s.block.fields)
  _ ← check_asked s scope kind (at + 4) x
  _ ← not_on_remove s at
  Ok scope
check_assigning s scope at (tree.Attribute x name y) = do
  _ ← check_asked s scope k.Activity (at + 2) x
  kind ← known (at + 3 + tokens_in x) (attribute_kind name s.block)
  _ ← check_asked s scope kind (at + 6 + tokens_in x) y
  _ ← not_on_remove s at
  Ok scope

-- each argument against its parameter, those behind the last parameter against none
abbrev pub argument_fits : Option FieldCode → Expression → Kind → Bool
argument_fits None x found = true
argument_fits (Some parameter) x found = serves x found parameter.kind

abbrev pub check_arguments : Setting → Scope → List FieldCode → ℕ → List Expression → Checked (Unit {0})
check_arguments s scope parameters at [] = Ok tt
check_arguments s scope parameters at (x ∷ more) = do
  found ← check_expression s scope at x
  _ ← tested bad.Mismatch at (argument_fits (slice_get parameters 0) x found)
  check_arguments s scope (drop 1 parameters) (at + tokens_in x + 1) more

-- as NAME, behind a call: of a method without a result it isn't allowed, whatever the name
abbrev pub check_result : Scope → Option Kind → ℕ → Option Bytes → Checked Scope
check_result scope result at None = Ok scope
check_result scope None at (Some name) = misused bad.Place at
check_result scope (Some kind) at (Some name) = do
  _ ← check_new scope name at
  Ok (with_value scope name kind)

abbrev pub check_priority : Setting → Scope → ℕ → Option Expression → Checked (Unit {0})
check_priority s scope at None = Ok tt
check_priority s scope at (Some x) = check_asked s scope k.Int at x

-- create NAME as NAME priority e ;      remove NAME ;      priority NAME e ;      call NAME . NAME ( e , e ) as NAME ;
abbrev pub check_on_entities : Setting → Scope → ℕ → OnEntities → Checked Scope
check_on_entities s scope at (tree.Create name child priority) = do
  relation ← known (at + 1) (relation_named name s.block)
  _ ← check_new scope child (at + 3)
  _ ← check_priority s scope (at + 5) priority
  _ ← not_on_remove s at
  Ok (with_child scope child relation.block)
check_on_entities s scope at (tree.Remove child) = do
  _ ← check_child scope child (at + 1)
  _ ← not_on_remove s at
  Ok scope
check_on_entities s scope at (tree.Priority child x) = do
  _ ← check_child scope child (at + 1)
  _ ← check_asked s scope k.Int (at + 2) x
  _ ← not_on_remove s at
  Ok scope
check_on_entities s scope at (tree.Call child name arguments result) = do
  block ← check_child scope child (at + 1)
  method ← known (at + 3) (method_named block name s.codes)
  _ ← check_arguments s scope method.parameters (at + 5) arguments
  _ ← tested bad.Count (at + 3) (length arguments == length method.parameters)
  next ← check_result scope method.result (at + 7 + tokens_in_arguments arguments) result
  _ ← not_on_remove s at
  Ok next

abbrev pub check_who : Scope → ℕ → Who → Checked (Unit {0})
check_who scope at w.Own = Ok tt
check_who scope at (w.Child child) = do
  _ ← check_child scope child at
  Ok tt

abbrev pub check_service : Setting → ℕ → Option Bytes → Checked (Unit {0})
check_service s at None = Ok tt
check_service s at (Some service) = tested bad.Name at (list_any (bytes_eq service) s.codes.services)

-- NAME : e with what stands behind it, each field that the event has and none twice
abbrev pub check_fields : Setting → Scope → List FieldCode → List Bytes → ℕ → List (Bytes × Expression) → Checked (Unit {0})
check_fields s scope declared given at [] = Ok tt
check_fields s scope declared given at (field ∷ more) = do
  kind ← known at (kind_in field.0 declared)
  _ ← tested bad.Count at (not (list_any (bytes_eq field.0) given))
  _ ← check_asked s scope kind (at + 2) field.1
  check_fields s scope declared (field.0 ∷ given) (at + 3 + tokens_in field.1) more

-- no field of the event is left out
abbrev pub are_all_given : List FieldCode → List Bytes → Bool
are_all_given declared given = list_all (λ f. list_any (bytes_eq f.name) given) declared

-- attach WHO to e ;      detach WHO from e ;      mask TEXT on e ;      unmask TEXT on e ;
-- fire TEXT on e for TEXT { NAME : e , NAME : e } ;      null as NAME ;      bind e to e ;
abbrev pub check_on_activities : Setting → Scope → ℕ → OnActivities → Checked Scope
check_on_activities s scope at (tree.Attach who x) = do
  _ ← check_who scope (at + 1) who
  _ ← check_asked s scope k.Activity (at + 3) x
  _ ← not_on_remove s at
  Ok scope
check_on_activities s scope at (tree.Detach who x) = do
  _ ← check_who scope (at + 1) who
  _ ← check_asked s scope k.Activity (at + 3) x
  _ ← not_on_remove s at
  Ok scope
check_on_activities s scope at (tree.Mask event x) = do
  _ ← known (at + 1) (any_event event s.codes)
  _ ← check_asked s scope k.Activity (at + 3) x
  _ ← not_on_remove s at
  Ok scope
check_on_activities s scope at (tree.Unmask event x) = do
  _ ← known (at + 1) (any_event event s.codes)
  _ ← check_asked s scope k.Activity (at + 3) x
  _ ← not_on_remove s at
  Ok scope
check_on_activities s scope at (tree.Fire name x service fields) = do
  event ← known (at + 1) (declared_event name s.codes)
  _ ← check_asked s scope k.Activity (at + 3) x
  _ ← check_service s (at + 4 + tokens_in x) service
  _ ← check_fields s scope event.fields [] (at + 4 + tokens_in x + tokens_in_tail service) fields
  _ ← tested bad.Count (at + 1) (are_all_given event.fields (map (λ f. f.0) fields))
  _ ← not_on_remove s at
  Ok scope
check_on_activities s scope at (tree.Null name) = do
  _ ← check_new scope name (at + 2)
  _ ← not_on_remove s at
  Ok (with_value scope name k.Activity)
check_on_activities s scope at (tree.Bind x y) = do
  _ ← check_asked s scope k.Text (at + 1) x
  _ ← check_asked s scope k.Activity (at + 2 + tokens_in x) y
  _ ← not_on_remove s at
  Ok scope

-- every e times e
abbrev pub check_repeat : Setting → Scope → ℕ → Option (Expression × Expression) → Checked (Unit {0})
check_repeat s scope at None = Ok tt
check_repeat s scope at (Some r) = do
  _ ← check_asked s scope k.Int (at + 1) r.0
  check_asked s scope k.Int (at + 2 + tokens_in r.0) r.1

-- timer NAME on e at e every e times e keep all ;
abbrev pub check_timer : Setting → Scope → ℕ → SettingTimer → Checked Scope
check_timer s scope at t = do
  _ ← check_new scope t.name (at + 1)
  _ ← check_asked s scope k.Activity (at + 3) t.activity
  _ ← check_asked s scope k.Int (at + 4 + tokens_in t.activity) t.start
  _ ← check_repeat s scope (at + 4 + tokens_in t.activity + tokens_in t.start) t.repeat
  _ ← not_on_remove s at
  Ok (with_value scope t.name k.Timer)

-- `return` is for methods that return, with that type
abbrev pub check_return : Setting → Scope → ℕ → Role → Expression → Checked (Unit {0})
check_return s scope at (InMethod (Some kind)) x = check_asked s scope kind (at + 1) x
check_return s scope at _ x = do
  _ ← check_expression s scope (at + 1) x
  misused bad.Place at

-- `suspend` is for handlers
abbrev pub check_handler : Role → ℕ → Checked (Unit {0})
check_handler (OnEvent fields) at = Ok tt
check_handler _ at = misused bad.Place at

-- end e ;      cancel e ;      unbind e ;      emit e ;      return e ;      throw e ;      suspend e ;      resume e ;
abbrev pub check_verb : Setting → Scope → ℕ → Verb → Expression → Checked (Unit {0})
check_verb s scope at v.End x = do
  _ ← check_asked s scope k.Activity (at + 1) x
  not_on_remove s at
check_verb s scope at v.Cancel x = do
  _ ← check_asked s scope k.Timer (at + 1) x
  not_on_remove s at
check_verb s scope at v.Unbind x = do
  _ ← check_asked s scope k.Text (at + 1) x
  not_on_remove s at
check_verb s scope at v.Emit x = check_asked s scope k.Text (at + 1) x
check_verb s scope at v.Return x = check_return s scope at s.role x
check_verb s scope at v.Throw x = do
  _ ← check_asked s scope k.Text (at + 1) x
  not_on_remove s at
check_verb s scope at v.Suspend x = do
  _ ← check_asked s scope k.Int (at + 1) x
  check_handler s.role at
check_verb s scope at v.Resume x = do
  _ ← check_asked s scope k.Activity (at + 1) x
  not_on_remove s at

-- the variable of a `for`: an activity, or a child of the relation that is named there
abbrev pub check_over : Setting → Scope → Bytes → ℕ → Over → Checked Scope
check_over s scope name at over.Activities = Ok (with_value scope name k.Activity)
check_over s scope name at (over.Children relation) = do
  found ← known at (relation_named relation s.block)
  Ok (with_child scope name found.block)

-- usage NAME e ;      rollback ;      if e { .. }      if e { .. } else { .. }      while e { .. }      for NAME in NAME { .. }
abbrev mutual
  pub check_statement : Setting → Scope → ℕ → Statement → Checked Scope
  check_statement s scope at (tree.Assign a) = check_assigning s scope at a
  check_statement s scope at (tree.Entity e) = check_on_entities s scope at e
  check_statement s scope at (tree.Activity a) = check_on_activities s scope at a
  check_statement s scope at (tree.Timer t) = check_timer s scope at t
  check_statement s scope at (tree.Do verb x) = do
    _ ← check_verb s scope at verb x
    Ok scope
  check_statement s scope at (tree.Usage name x) = do
    _ ← check_asked s scope k.Int (at + 2) x
    _ ← not_on_remove s at
    Ok scope
  check_statement s scope at tree.Rollback = do
    _ ← not_on_remove s at
    Ok scope
  check_statement s scope at (tree.If x body) = do
    _ ← check_asked s scope k.Bool (at + 1) x
    _ ← check_statements s scope (at + 2 + tokens_in x) body
    Ok scope
  check_statement s scope at (tree.IfElse x body other) = do
    _ ← check_asked s scope k.Bool (at + 1) x
    _ ← check_statements s scope (at + 2 + tokens_in x) body
    _ ← check_statements s scope (at + 5 + tokens_in x + tokens_in_statements body) other
    Ok scope
  check_statement s scope at (tree.While x body) = do
    _ ← check_asked s scope k.Bool (at + 1) x
    _ ← check_statements s scope (at + 2 + tokens_in x) body
    Ok scope
  check_statement s scope at (tree.For name list body) = do
    _ ← check_new scope name (at + 1)
    inner ← check_over s scope name (at + 3) list
    _ ← check_statements s inner (at + 5) body
    _ ← not_on_remove s at
    Ok scope

  -- statements in order; behind a block its variables are forgotten
  pub check_statements : Setting → Scope → ℕ → Statements → Checked Scope
  check_statements s scope at tree.Nothing = Ok scope
  check_statements s scope at (tree.Then x more) = do
    next ← check_statement s scope at x
    check_statements s next (at + tokens_in_statement x) more
