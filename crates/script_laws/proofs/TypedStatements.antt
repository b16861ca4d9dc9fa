-- Behind a script those variables are visible that are visible behind its steps.
use Rattle.std.proofs.Common.{◌≡◌, ◌+◌, ℕ, List, [], ◌∷◌, Option, Some, None, Ok, refl}
use Rattle.std.specs.Prelude.{◌==◌, not, length, map, drop, slice_get, bytes_eq, option_map, option_and_then}
use Rattle.std.specs.List.{list_any}
use Rattle.slee_value.specs.declared.kind.Kind.{Kind}
use Rattle.slee_value.specs.declared.kind.Kind.TheVariants as k
use Rattle.script_types.specs.declared.misuse.CheckBad.TheVariants as bad
use Rattle.script_types.specs.declared.codes.FieldCode.{FieldCode}
use Rattle.script_types.specs.declared.codes.RelationCode.{RelationCode}
use Rattle.script_types.specs.declared.codes.AttributeCode.{AttributeCode}
use Rattle.script_tree.specs.declared.symbol.Verb.{Verb}
use Rattle.script_tree.specs.declared.symbol.Verb.TheVariants as v
use Rattle.script_tree.specs.declared.tree.Who.{Who}
use Rattle.script_tree.specs.declared.tree.Who.TheVariants as w
use Rattle.script_tree.specs.declared.tree.Over.{Over}
use Rattle.script_tree.specs.declared.tree.Over.TheVariants as over
use Rattle.script_tree.specs.Tree as tree
use Rattle.script_tree.specs.Tree.{Bytes, Expression, Assigning, OnEntities, OnActivities, SettingTimer, Statement, Statements}
use Rattle.script_types.specs.Codes.{Block, Method, named, kind_in, any_event, declared_event, relation_named, method_named}
use Rattle.script_types.specs.TypingResult.{Checked, ◌>>=◌, known, tested}
use Rattle.script_types.specs.Scopes.{Scope, check_new}
use Rattle.script_types.specs.TokenCounts.{tokens_in, tokens_in_arguments, tokens_in_tail, tokens_in_statement, tokens_in_statements}
use Rattle.script_types.specs.TypingExpressions.{Role, OnEvent, InMethod, OnException, OnRolledBack, OnRemove, Setting, not_on_remove}
use Rattle.script_types.specs.TypingStatements.{check_assigning, argument_fits, check_arguments, check_result, check_priority, check_on_entities, check_who, check_service, check_fields, are_all_given, check_on_activities, check_repeat, check_timer, check_return, check_handler, check_verb, check_over, check_statement, check_statements}
use Rattle.script_types.specs.Elaboration.{attribute_named}
use Rattle.script_types.specs.ElaborationOfStatements.{Made, MadeAll, Loop, MethodAt, assigning_of, arguments_of, rank_of, method_from, method_in, on_entities_of, who_of, fields_of, on_activities_of, repeat_of, timer_of, return_of, verb_of, loop_of, statement_made, statements_made}
use Rattle.script_laws.proofs.TypedAlike.{Same, same_then, same_after, same_last, same_test, same_known, same_end}
use Rattle.script_laws.proofs.TypedLeaves.{kind_of, kind_at, value_same, block_at, child_same, method_is}
use Rattle.script_laws.proofs.TypedExpressions.{expression_same, nothing, asked_same}

abbrev pub scope_of : Made → Scope
scope_of made = made.scope

-- the last test of most statements
ended : (s : Setting) (at : ℕ) (made : Made) → Same scope_of (not_on_remove s at >>= λ _. (let z : Checked Made = Ok made in z)) (not_on_remove s at >>= λ _. (let z : Checked Scope = Ok made.scope in z))
ended s at made = same_after scope_of (not_on_remove s at) _ _ (λ _. refl)

abbrev attribute_kind_of : AttributeCode → Kind
attribute_kind_of a = a.kind

assigning_same : (s : Setting) (scope : Scope) (at : ℕ) (a : Assigning) → Same scope_of (assigning_of s scope at a) (check_assigning s scope at a)
assigning_same s scope at (tree.New name x) =
    same_after scope_of (check_new scope name (at + 1)) _ _ (λ _. same_then kind_of scope_of _ _ _ _ (expression_same s scope (at + 3) x) (λ _. refl))
assigning_same s scope at (tree.Variable name x) =
    same_then kind_at scope_of _ _ _ _ (value_same scope name at) (λ variable. same_then nothing scope_of _ _ _ _ (asked_same s scope variable.kind (at + 2) x) (λ _. refl))
assigning_same s scope at (tree.Field name x) =
    same_after scope_of (known (at + 2) (kind_in name s.block.fields)) _ _ (λ kind. same_then nothing scope_of _ _ _ _ (asked_same s scope kind (at + 4) x) (λ _. ended s at _))
assigning_same s scope at (tree.Attribute x name y) =
    same_then nothing scope_of _ _ _ _ (asked_same s scope k.Activity (at + 2) x) (λ _.
    same_then attribute_kind_of scope_of _ _ _ _ (same_known attribute_kind_of (at + 3 + tokens_in x) (attribute_named name s.block) _ refl) (λ attribute.
    same_then nothing scope_of _ _ _ _ (asked_same s scope attribute.kind (at + 6 + tokens_in x) y) (λ _. ended s at _)))

arguments_same : (s : Setting) (scope : Scope) (parameters : List FieldCode) (at : ℕ) (xs : List Expression) → Same nothing (arguments_of s scope parameters at xs) (check_arguments s scope parameters at xs)
arguments_same s scope parameters at [] = refl
arguments_same s scope parameters at (x ∷ more) =
    same_then kind_of nothing _ _ _ _ (expression_same s scope at x) (λ one.
    same_after nothing (tested bad.Mismatch at (argument_fits (slice_get parameters 0) x one.kind)) _ _ (λ _.
    same_last nothing _ _ _ (arguments_same s scope (drop 1 parameters) (at + tokens_in x + 1) more)))

priority_same : (s : Setting) (scope : Scope) (relation : RelationCode) (at : ℕ) (x : Option Expression) → Same nothing (rank_of s scope relation at x) (check_priority s scope at x)
priority_same s scope relation at None = refl
priority_same s scope relation at (Some x) = same_last nothing _ _ _ (asked_same s scope k.Int at x)

abbrev method_at : MethodAt → Method
method_at x = x.method

method_there : (o : Option Block) (name : Bytes) → option_and_then (λ b. named (λ m. m.name) name b.methods) o ≡ option_map method_at (option_and_then (λ b. method_from 0 name b.methods) o)
method_there None name = refl
method_there (Some b) name = method_is 0 name b.methods

method_same : (s : Setting) (block : ℕ) (name : Bytes) (at : ℕ) → Same method_at (known at (method_in s block name)) (known at (method_named block name s.codes))
method_same s block name at = same_known method_at at (method_in s block name) (method_named block name s.codes) (method_there (slice_get s.codes.blocks block) name)

entities_same : (s : Setting) (scope : Scope) (at : ℕ) (e : OnEntities) → Same scope_of (on_entities_of s scope at e) (check_on_entities s scope at e)
entities_same s scope at (tree.Create name child priority) =
    same_after scope_of (known (at + 1) (relation_named name s.block)) _ _ (λ relation. same_after scope_of (check_new scope child (at + 3)) _ _ (λ _.
    same_then nothing scope_of _ _ _ _ (priority_same s scope relation (at + 5) priority) (λ _. ended s at _)))
entities_same s scope at (tree.Remove child) =
    same_then block_at scope_of _ _ _ _ (child_same scope child (at + 1)) (λ _. ended s at _)
entities_same s scope at (tree.Priority child x) =
    same_then block_at scope_of _ _ _ _ (child_same scope child (at + 1)) (λ _.
    same_then nothing scope_of _ _ _ _ (asked_same s scope k.Int (at + 2) x) (λ _. ended s at _))
entities_same s scope at (tree.Call child name arguments result) =
    same_then block_at scope_of _ _ _ _ (child_same scope child (at + 1)) (λ found.
    same_then method_at scope_of _ _ _ _ (method_same s found.block name (at + 3)) (λ called.
    same_then nothing scope_of _ _ _ _ (arguments_same s scope called.method.parameters (at + 5) arguments) (λ _.
    same_after scope_of (tested bad.Count (at + 3) (length arguments == length called.method.parameters)) _ _ (λ _.
    same_after scope_of (check_result scope called.method.result (at + 7 + tokens_in_arguments arguments) result) _ _ (λ next. ended s at _)))))

who_same : (scope : Scope) (at : ℕ) (x : Who) → Same nothing (who_of scope at x) (check_who scope at x)
who_same scope at w.Own = refl
who_same scope at (w.Child child) = same_then block_at nothing _ _ _ _ (child_same scope child at) (λ _. refl)

fields_same : (s : Setting) (scope : Scope) (declared : List FieldCode) (given : List Bytes) (at : ℕ) (xs : List (Bytes × Expression)) → Same nothing (fields_of s scope declared given at xs) (check_fields s scope declared given at xs)
fields_same s scope declared given at [] = refl
fields_same s scope declared given at (field ∷ more) =
    same_after nothing (known at (kind_in field.0 declared)) _ _ (λ kind. same_after nothing (tested bad.Count at (not (list_any (bytes_eq field.0) given))) _ _ (λ _.
    same_then nothing nothing _ _ _ _ (asked_same s scope kind (at + 2) field.1) (λ _.
    same_last nothing _ _ _ (fields_same s scope declared (field.0 ∷ given) (at + 3 + tokens_in field.1) more))))

activities_same : (s : Setting) (scope : Scope) (at : ℕ) (a : OnActivities) → Same scope_of (on_activities_of s scope at a) (check_on_activities s scope at a)
activities_same s scope at (tree.Attach who x) =
    same_then nothing scope_of _ _ _ _ (who_same scope (at + 1) who) (λ _. same_then nothing scope_of _ _ _ _ (asked_same s scope k.Activity (at + 3) x) (λ _. ended s at _))
activities_same s scope at (tree.Detach who x) =
    same_then nothing scope_of _ _ _ _ (who_same scope (at + 1) who) (λ _. same_then nothing scope_of _ _ _ _ (asked_same s scope k.Activity (at + 3) x) (λ _. ended s at _))
activities_same s scope at (tree.Mask event x) =
    same_after scope_of (known (at + 1) (any_event event s.codes)) _ _ (λ _. same_then nothing scope_of _ _ _ _ (asked_same s scope k.Activity (at + 3) x) (λ _. ended s at _))
activities_same s scope at (tree.Unmask event x) =
    same_after scope_of (known (at + 1) (any_event event s.codes)) _ _ (λ _. same_then nothing scope_of _ _ _ _ (asked_same s scope k.Activity (at + 3) x) (λ _. ended s at _))
activities_same s scope at (tree.Fire name x service fields) =
    same_after scope_of (known (at + 1) (declared_event name s.codes)) _ _ (λ event.
    same_then nothing scope_of _ _ _ _ (asked_same s scope k.Activity (at + 3) x) (λ _.
    same_after scope_of (check_service s (at + 4 + tokens_in x) service) _ _ (λ _.
    same_then nothing scope_of _ _ _ _ (fields_same s scope event.fields [] (at + 4 + tokens_in x + tokens_in_tail service) fields) (λ _.
    same_after scope_of (tested bad.Count (at + 1) (are_all_given event.fields (map (λ f. f.0) fields))) _ _ (λ _. ended s at _)))))
activities_same s scope at (tree.Null name) = same_after scope_of (check_new scope name (at + 2)) _ _ (λ _. ended s at _)
activities_same s scope at (tree.Bind x y) =
    same_then nothing scope_of _ _ _ _ (asked_same s scope k.Text (at + 1) x) (λ _. same_then nothing scope_of _ _ _ _ (asked_same s scope k.Activity (at + 2 + tokens_in x) y) (λ _. ended s at _))

repeat_same : (s : Setting) (scope : Scope) (at : ℕ) (r : Option (Expression × Expression)) → Same nothing (repeat_of s scope at r) (check_repeat s scope at r)
repeat_same s scope at None = refl
repeat_same s scope at (Some r) =
    same_then nothing nothing _ _ _ _ (asked_same s scope k.Int (at + 1) r.0) (λ _. same_last nothing _ _ _ (asked_same s scope k.Int (at + 2 + tokens_in r.0) r.1))

timer_same : (s : Setting) (scope : Scope) (at : ℕ) (t : SettingTimer) → Same scope_of (timer_of s scope at t) (check_timer s scope at t)
timer_same s scope at t =
    same_after scope_of (check_new scope t.name (at + 1)) _ _ (λ _. same_then nothing scope_of _ _ _ _ (asked_same s scope k.Activity (at + 3) t.activity) (λ _.
    same_then nothing scope_of _ _ _ _ (asked_same s scope k.Int (at + 4 + tokens_in t.activity) t.start) (λ _.
    same_then nothing scope_of _ _ _ _ (repeat_same s scope (at + 4 + tokens_in t.activity + tokens_in t.start) t.repeat) (λ _. ended s at _))))

return_same : (s : Setting) (scope : Scope) (at : ℕ) (role : Role) (x : Expression) → Same nothing (return_of s scope at role x) (check_return s scope at role x)
return_same s scope at (InMethod (Some kind)) x = same_last nothing _ _ _ (asked_same s scope kind (at + 1) x)
return_same s scope at (InMethod None) x = same_then kind_of nothing _ _ _ _ (expression_same s scope (at + 1) x) (λ _. refl)
return_same s scope at (OnEvent fields) x = same_then kind_of nothing _ _ _ _ (expression_same s scope (at + 1) x) (λ _. refl)
return_same s scope at OnException x = same_then kind_of nothing _ _ _ _ (expression_same s scope (at + 1) x) (λ _. refl)
return_same s scope at OnRolledBack x = same_then kind_of nothing _ _ _ _ (expression_same s scope (at + 1) x) (λ _. refl)
return_same s scope at OnRemove x = same_then kind_of nothing _ _ _ _ (expression_same s scope (at + 1) x) (λ _. refl)

verb_same : (s : Setting) (scope : Scope) (at : ℕ) (verb : Verb) (x : Expression) → Same nothing (verb_of s scope at verb x) (check_verb s scope at verb x)
verb_same s scope at v.End x = same_then nothing nothing _ _ _ _ (asked_same s scope k.Activity (at + 1) x) (λ _. same_test (not_on_remove s at) _)
verb_same s scope at v.Cancel x = same_then nothing nothing _ _ _ _ (asked_same s scope k.Timer (at + 1) x) (λ _. same_test (not_on_remove s at) _)
verb_same s scope at v.Unbind x = same_then nothing nothing _ _ _ _ (asked_same s scope k.Text (at + 1) x) (λ _. same_test (not_on_remove s at) _)
verb_same s scope at v.Emit x = same_last nothing _ _ _ (asked_same s scope k.Text (at + 1) x)
verb_same s scope at v.Return x = return_same s scope at s.role x
verb_same s scope at v.Throw x = same_then nothing nothing _ _ _ _ (asked_same s scope k.Text (at + 1) x) (λ _. same_test (not_on_remove s at) _)
verb_same s scope at v.Suspend x = same_then nothing nothing _ _ _ _ (asked_same s scope k.Int (at + 1) x) (λ _. same_test (check_handler s.role at) _)
verb_same s scope at v.Resume x = same_then nothing nothing _ _ _ _ (asked_same s scope k.Activity (at + 1) x) (λ _. same_test (not_on_remove s at) _)

abbrev loop_scope : Loop → Scope
loop_scope loop = loop.scope

loop_same : (s : Setting) (scope : Scope) (name : Bytes) (at : ℕ) (x : Over) → Same loop_scope (loop_of s scope name at x) (check_over s scope name at x)
loop_same s scope name at over.Activities = refl
loop_same s scope name at (over.Children relation) = same_after loop_scope (known at (relation_named relation s.block)) _ _ (λ _. refl)

abbrev pub scope_behind : MadeAll → Scope
scope_behind made = made.scope

mutual
  statement_same : (s : Setting) (scope : Scope) (at : ℕ) (y : Statement) → Same scope_of (statement_made s scope at y) (check_statement s scope at y)
  statement_same s scope at (tree.Assign a) = assigning_same s scope at a
  statement_same s scope at (tree.Entity e) = entities_same s scope at e
  statement_same s scope at (tree.Activity a) = activities_same s scope at a
  statement_same s scope at (tree.Timer t) = timer_same s scope at t
  statement_same s scope at (tree.Do verb x) = same_then nothing scope_of _ _ _ _ (verb_same s scope at verb x) (λ _. refl)
  statement_same s scope at (tree.Usage name x) = same_then nothing scope_of _ _ _ _ (asked_same s scope k.Int (at + 2) x) (λ _. ended s at _)
  statement_same s scope at tree.Rollback = ended s at _
  statement_same s scope at (tree.If x body) =
      same_then nothing scope_of _ _ _ _ (asked_same s scope k.Bool (at + 1) x) (λ _. same_then scope_behind scope_of _ _ _ _ (statements_same s scope (at + 2 + tokens_in x) body) (λ _. refl))
  statement_same s scope at (tree.IfElse x body other) =
      same_then nothing scope_of _ _ _ _ (asked_same s scope k.Bool (at + 1) x) (λ _. same_then scope_behind scope_of _ _ _ _ (statements_same s scope (at + 2 + tokens_in x) body) (λ _.
      same_then scope_behind scope_of _ _ _ _ (statements_same s scope (at + 5 + tokens_in x + tokens_in_statements body) other) (λ _. refl)))
  statement_same s scope at (tree.While x body) =
      same_then nothing scope_of _ _ _ _ (asked_same s scope k.Bool (at + 1) x) (λ _. same_then scope_behind scope_of _ _ _ _ (statements_same s scope (at + 2 + tokens_in x) body) (λ _. refl))
  statement_same s scope at (tree.For name list body) =
      same_after scope_of (check_new scope name (at + 1)) _ _ (λ _. same_then loop_scope scope_of _ _ _ _ (loop_same s scope name (at + 3) list) (λ loop.
      same_then scope_behind scope_of _ _ _ _ (statements_same s loop.scope (at + 5) body) (λ _. ended s at _)))

  pub statements_same : (s : Setting) (scope : Scope) (at : ℕ) (ys : Statements) → Same scope_behind (statements_made s scope at ys) (check_statements s scope at ys)
  statements_same s scope at tree.Nothing = refl
  statements_same s scope at (tree.Then x more) =
      same_then scope_of scope_behind _ _ _ _ (statement_same s scope at x) (λ one.
      same_end scope_behind scope_behind (statements_made s one.scope (at + tokens_in_statement x) more) _ _ (statements_same s one.scope (at + tokens_in_statement x) more) (λ _. refl))
