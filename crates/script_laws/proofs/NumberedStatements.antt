-- The steps of statements have the numbers of their names.
use Rattle.std.proofs.Common.{◌+◌, ◌==◌, not, ℕ, List, [], ◌∷◌, length, map, Option, Some, None}
use Rattle.std.specs.Prelude.{slice_get, drop, bytes_eq}
use Rattle.std.specs.List.{AllByRecursion, list_any}
use Rattle.slee_value.specs.declared.kind.Kind.TheVariants as k
use Rattle.script_tree.specs.declared.symbol.Verb.{Verb}
use Rattle.script_tree.specs.declared.symbol.Verb.TheVariants as v
use Rattle.script_tree.specs.declared.tree.Over.{Over}
use Rattle.script_tree.specs.declared.tree.Over.TheVariants as over
use Rattle.script_tree.specs.Tree as tree
use Rattle.script_tree.specs.Tree.{Bytes, Expression, Assigning, OnEntities, OnActivities, SettingTimer, Statement, Statements}
use Rattle.script_types.specs.declared.misuse.CheckBad.TheVariants as bad
use Rattle.script_types.specs.declared.codes.FieldCode.{FieldCode}
use Rattle.script_types.specs.declared.codes.RelationCode.{RelationCode}
use Rattle.script_types.specs.Codes.{kind_in, any_event, declared_event, relation_named}
use Rattle.script_types.specs.TypingResult.{tested, known}
use Rattle.script_types.specs.TypingExpressions.{Setting, Role, InMethod, not_on_remove}
use Rattle.script_types.specs.TypingStatements.{argument_fits, check_handler, check_result, check_service, are_all_given}
use Rattle.script_types.specs.Scopes.{Scope, check_new}
use Rattle.script_types.specs.TokenCounts.{tokens_in, tokens_in_arguments, tokens_in_tail, tokens_in_statement, tokens_in_statements}
use Rattle.script_types.specs.Elaboration.{value_named, child_named, attribute_named, expression_of}
use Rattle.script_types.specs.ElaborationOfStatements.{Made, MadeAll, Loop, assigning_of, argument_of, arguments_of, rank_of, method_in, who_of, on_entities_of, fields_of, on_activities_of, repeat_of, timer_of, return_of, verb_of, loop_of, statement_made, statements_made}
use Rattle.script_types.specs.Numbers.{IsNumberedTerm, IsNumberedRank, IsNumberedRepeat, IsNumberedRange, IsNumberedStep, AreNumberedSteps}
use Rattle.script_types.specs.Program.{Term}
use Rattle.script_laws.proofs.NumberedResults.{AllOk, ok_then, skip}
use Rattle.script_laws.proofs.NumberedExpressions.{symbol_numbered, as_kind_numbered, after_expression, after_asked}

module _ (s : Setting) where
  abbrev IsNumberedMade : Made → Type 0
  IsNumberedMade made = IsNumberedStep s.codes.names made.step

  abbrev pub AreNumberedMade : MadeAll → Type 0
  AreNumberedMade made = AreNumberedSteps s.codes.names made.steps

  abbrev AreNumberedTerms : List Term → Type 0
  AreNumberedTerms terms = AllByRecursion (IsNumberedTerm s.codes.names) terms

  abbrev AreNumberedFields : List (Bytes × Term) → Type 0
  AreNumberedFields fields = AllByRecursion (λ field. IsNumberedTerm s.codes.names field.1) fields

  abbrev IsNumberedLoop : Loop → Type 0
  IsNumberedLoop loop = IsNumberedRange s.codes.names loop.range

  assigning_numbered : (scope : Scope) (at : ℕ) (x : Assigning) → AllOk IsNumberedMade (assigning_of s scope at x)
  assigning_numbered scope at (tree.New name x) = skip IsNumberedMade (check_new scope name (at + 1)) _ (λ _. after_expression s IsNumberedMade scope (at + 3) x _ (λ one h. h))
  assigning_numbered scope at (tree.Variable name x) = skip IsNumberedMade (value_named scope name at) _ (λ variable. after_asked s IsNumberedMade scope variable.kind (at + 2) x _ (λ term h. h))
  assigning_numbered scope at (tree.Field name x) =
      skip IsNumberedMade (known (at + 2) (kind_in name s.block.fields)) _ (λ kind. after_asked s IsNumberedMade scope kind (at + 4) x _ (λ term h.
      skip IsNumberedMade (not_on_remove s at) _ (λ _. (symbol_numbered s.codes name, h))))
  assigning_numbered scope at (tree.Attribute x name y) =
      after_asked s IsNumberedMade scope k.Activity (at + 2) x _ (λ one h. skip IsNumberedMade (known (at + 3 + tokens_in x) (attribute_named name s.block)) _ (λ attribute.
      after_asked s IsNumberedMade scope attribute.kind (at + 6 + tokens_in x) y _ (λ other g. skip IsNumberedMade (not_on_remove s at) _ (λ _. (h, (symbol_numbered s.codes attribute.key, g))))))

  argument_numbered : (parameter : Option FieldCode) (x : Expression) (term : Term) → IsNumberedTerm s.codes.names term → IsNumberedTerm s.codes.names (argument_of parameter x term)
  argument_numbered None x term h = h
  argument_numbered (Some parameter) x term h = as_kind_numbered s.codes.names parameter.kind x term h

  arguments_numbered : (scope : Scope) (parameters : List FieldCode) (at : ℕ) (xs : List Expression) → AllOk AreNumberedTerms (arguments_of s scope parameters at xs)
  arguments_numbered scope parameters at [] = tt
  arguments_numbered scope parameters at (x ∷ more) =
      after_expression s AreNumberedTerms scope at x _ (λ one h. skip AreNumberedTerms (tested bad.Mismatch at (argument_fits (slice_get parameters 0) x one.kind)) _ (λ _.
      ok_then AreNumberedTerms AreNumberedTerms (arguments_of s scope (drop 1 parameters) (at + tokens_in x + 1) more) _ (arguments_numbered scope (drop 1 parameters) (at + tokens_in x + 1) more) (λ terms g.
      (argument_numbered (slice_get parameters 0) x one.term h, g))))

  rank_numbered : (scope : Scope) (relation : RelationCode) (at : ℕ) (x : Option Expression) → AllOk (IsNumberedRank s.codes.names) (rank_of s scope relation at x)
  rank_numbered scope relation at None = tt
  rank_numbered scope relation at (Some x) = after_asked s (IsNumberedRank s.codes.names) scope k.Int at x _ (λ term h. h)

  entities_numbered : (scope : Scope) (at : ℕ) (x : OnEntities) → AllOk IsNumberedMade (on_entities_of s scope at x)
  entities_numbered scope at (tree.Create name child priority) =
      skip IsNumberedMade (known (at + 1) (relation_named name s.block)) _ (λ relation. skip IsNumberedMade (check_new scope child (at + 3)) _ (λ _.
      ok_then (IsNumberedRank s.codes.names) IsNumberedMade (rank_of s scope relation (at + 5) priority) _ (rank_numbered scope relation (at + 5) priority) (λ rank h.
      skip IsNumberedMade (not_on_remove s at) _ (λ _. (symbol_numbered s.codes name, h)))))
  entities_numbered scope at (tree.Remove child) = skip IsNumberedMade (child_named scope child (at + 1)) _ (λ found. skip IsNumberedMade (not_on_remove s at) _ (λ _. tt))
  entities_numbered scope at (tree.Priority child x) =
      skip IsNumberedMade (child_named scope child (at + 1)) _ (λ found. after_asked s IsNumberedMade scope k.Int (at + 2) x _ (λ term h. skip IsNumberedMade (not_on_remove s at) _ (λ _. h)))
  entities_numbered scope at (tree.Call child name arguments result) =
      skip IsNumberedMade (child_named scope child (at + 1)) _ (λ found. skip IsNumberedMade (known (at + 3) (method_in s found.block name)) _ (λ called.
      ok_then AreNumberedTerms IsNumberedMade (arguments_of s scope called.method.parameters (at + 5) arguments) _ (arguments_numbered scope called.method.parameters (at + 5) arguments) (λ terms h.
      skip IsNumberedMade (tested bad.Count (at + 3) (length arguments == length called.method.parameters)) _ (λ _.
      skip IsNumberedMade (check_result scope called.method.result (at + 7 + tokens_in_arguments arguments) result) _ (λ next. skip IsNumberedMade (not_on_remove s at) _ (λ _. h))))))

  fields_numbered : (scope : Scope) (declared : List FieldCode) (given : List Bytes) (at : ℕ) (fields : List (Bytes × Expression)) → AllOk AreNumberedFields (fields_of s scope declared given at fields)
  fields_numbered scope declared given at [] = tt
  fields_numbered scope declared given at (field ∷ more) =
      skip AreNumberedFields (known at (kind_in field.0 declared)) _ (λ kind. skip AreNumberedFields (tested bad.Count at (not (list_any (bytes_eq field.0) given))) _ (λ _.
      after_asked s AreNumberedFields scope kind (at + 2) field.1 _ (λ term h.
      ok_then AreNumberedFields AreNumberedFields (fields_of s scope declared (field.0 ∷ given) (at + 3 + tokens_in field.1) more) _ (fields_numbered scope declared (field.0 ∷ given) (at + 3 + tokens_in field.1) more) (λ rest g. (h, g)))))

  activities_numbered : (scope : Scope) (at : ℕ) (x : OnActivities) → AllOk IsNumberedMade (on_activities_of s scope at x)
  activities_numbered scope at (tree.Attach who x) =
      skip IsNumberedMade (who_of scope (at + 1) who) _ (λ someone. after_asked s IsNumberedMade scope k.Activity (at + 3) x _ (λ term h. skip IsNumberedMade (not_on_remove s at) _ (λ _. h)))
  activities_numbered scope at (tree.Detach who x) =
      skip IsNumberedMade (who_of scope (at + 1) who) _ (λ someone. after_asked s IsNumberedMade scope k.Activity (at + 3) x _ (λ term h. skip IsNumberedMade (not_on_remove s at) _ (λ _. h)))
  activities_numbered scope at (tree.Mask event x) =
      skip IsNumberedMade (known (at + 1) (any_event event s.codes)) _ (λ _. after_asked s IsNumberedMade scope k.Activity (at + 3) x _ (λ term h.
      skip IsNumberedMade (not_on_remove s at) _ (λ _. (symbol_numbered s.codes event, h))))
  activities_numbered scope at (tree.Unmask event x) =
      skip IsNumberedMade (known (at + 1) (any_event event s.codes)) _ (λ _. after_asked s IsNumberedMade scope k.Activity (at + 3) x _ (λ term h.
      skip IsNumberedMade (not_on_remove s at) _ (λ _. (symbol_numbered s.codes event, h))))
  activities_numbered scope at (tree.Fire name x service fields) =
      skip IsNumberedMade (known (at + 1) (declared_event name s.codes)) _ (λ event. after_asked s IsNumberedMade scope k.Activity (at + 3) x _ (λ term h.
      skip IsNumberedMade (check_service s (at + 4 + tokens_in x) service) _ (λ _.
      ok_then AreNumberedFields IsNumberedMade (fields_of s scope event.fields [] (at + 4 + tokens_in x + tokens_in_tail service) fields) _ (fields_numbered scope event.fields [] (at + 4 + tokens_in x + tokens_in_tail service) fields) (λ terms g.
      skip IsNumberedMade (tested bad.Count (at + 1) (are_all_given event.fields (map (λ f. f.0) fields))) _ (λ _. skip IsNumberedMade (not_on_remove s at) _ (λ _. (h, g)))))))
  activities_numbered scope at (tree.Null name) = skip IsNumberedMade (check_new scope name (at + 2)) _ (λ _. skip IsNumberedMade (not_on_remove s at) _ (λ _. tt))
  activities_numbered scope at (tree.Bind x y) =
      after_asked s IsNumberedMade scope k.Text (at + 1) x _ (λ one h. after_asked s IsNumberedMade scope k.Activity (at + 2 + tokens_in x) y _ (λ other g. skip IsNumberedMade (not_on_remove s at) _ (λ _. (h, g))))

  repeat_numbered : (scope : Scope) (at : ℕ) (x : Option (Expression × Expression)) → AllOk (IsNumberedRepeat s.codes.names) (repeat_of s scope at x)
  repeat_numbered scope at None = tt
  repeat_numbered scope at (Some r) =
      after_asked s (IsNumberedRepeat s.codes.names) scope k.Int (at + 1) r.0 _ (λ one h. after_asked s (IsNumberedRepeat s.codes.names) scope k.Int (at + 2 + tokens_in r.0) r.1 _ (λ other g. (h, g)))

  timer_numbered : (scope : Scope) (at : ℕ) (t : SettingTimer) → AllOk IsNumberedMade (timer_of s scope at t)
  timer_numbered scope at t =
      skip IsNumberedMade (check_new scope t.name (at + 1)) _ (λ _. after_asked s IsNumberedMade scope k.Activity (at + 3) t.activity _ (λ activity h.
      after_asked s IsNumberedMade scope k.Int (at + 4 + tokens_in t.activity) t.start _ (λ start g.
      ok_then (IsNumberedRepeat s.codes.names) IsNumberedMade (repeat_of s scope (at + 4 + tokens_in t.activity + tokens_in t.start) t.repeat) _ (repeat_numbered scope (at + 4 + tokens_in t.activity + tokens_in t.start) t.repeat) (λ again j.
      skip IsNumberedMade (not_on_remove s at) _ (λ _. (h, (g, j)))))))

  return_numbered : (scope : Scope) (at : ℕ) (role : Role) (x : Expression) → AllOk (IsNumberedStep s.codes.names) (return_of s scope at role x)
  return_numbered scope at (InMethod (Some kind)) x = after_asked s (IsNumberedStep s.codes.names) scope kind (at + 1) x _ (λ term h. h)
  return_numbered scope at _ x = skip (IsNumberedStep s.codes.names) (expression_of s scope (at + 1) x) _ (λ _. tt)

  verb_numbered : (scope : Scope) (at : ℕ) (verb : Verb) (x : Expression) → AllOk (IsNumberedStep s.codes.names) (verb_of s scope at verb x)
  verb_numbered scope at v.End x = after_asked s (IsNumberedStep s.codes.names) scope k.Activity (at + 1) x _ (λ term h. skip (IsNumberedStep s.codes.names) (not_on_remove s at) _ (λ _. h))
  verb_numbered scope at v.Cancel x = after_asked s (IsNumberedStep s.codes.names) scope k.Timer (at + 1) x _ (λ term h. skip (IsNumberedStep s.codes.names) (not_on_remove s at) _ (λ _. h))
  verb_numbered scope at v.Unbind x = after_asked s (IsNumberedStep s.codes.names) scope k.Text (at + 1) x _ (λ term h. skip (IsNumberedStep s.codes.names) (not_on_remove s at) _ (λ _. h))
  verb_numbered scope at v.Emit x = after_asked s (IsNumberedStep s.codes.names) scope k.Text (at + 1) x _ (λ term h. h)
  verb_numbered scope at v.Return x = return_numbered scope at s.role x
  verb_numbered scope at v.Throw x = after_asked s (IsNumberedStep s.codes.names) scope k.Text (at + 1) x _ (λ term h. skip (IsNumberedStep s.codes.names) (not_on_remove s at) _ (λ _. h))
  verb_numbered scope at v.Suspend x = after_asked s (IsNumberedStep s.codes.names) scope k.Int (at + 1) x _ (λ term h. skip (IsNumberedStep s.codes.names) (check_handler s.role at) _ (λ _. h))
  verb_numbered scope at v.Resume x = after_asked s (IsNumberedStep s.codes.names) scope k.Activity (at + 1) x _ (λ term h. skip (IsNumberedStep s.codes.names) (not_on_remove s at) _ (λ _. h))

  loop_numbered : (scope : Scope) (name : Bytes) (at : ℕ) (list : Over) → AllOk IsNumberedLoop (loop_of s scope name at list)
  loop_numbered scope name at over.Activities = tt
  loop_numbered scope name at (over.Children relation) = skip IsNumberedLoop (known at (relation_named relation s.block)) _ (λ found. symbol_numbered s.codes relation)

  mutual
    statement_numbered : (scope : Scope) (at : ℕ) (x : Statement) → AllOk IsNumberedMade (statement_made s scope at x)
    statement_numbered scope at (tree.Assign x) = assigning_numbered scope at x
    statement_numbered scope at (tree.Entity x) = entities_numbered scope at x
    statement_numbered scope at (tree.Activity x) = activities_numbered scope at x
    statement_numbered scope at (tree.Timer x) = timer_numbered scope at x
    statement_numbered scope at (tree.Do verb x) = ok_then (IsNumberedStep s.codes.names) IsNumberedMade (verb_of s scope at verb x) _ (verb_numbered scope at verb x) (λ step h. h)
    statement_numbered scope at (tree.Usage name x) = after_asked s IsNumberedMade scope k.Int (at + 2) x _ (λ term h. skip IsNumberedMade (not_on_remove s at) _ (λ _. h))
    statement_numbered scope at tree.Rollback = skip IsNumberedMade (not_on_remove s at) _ (λ _. tt)
    statement_numbered scope at (tree.If x body) =
        after_asked s IsNumberedMade scope k.Bool (at + 1) x _ (λ term h.
        ok_then AreNumberedMade IsNumberedMade (statements_made s scope (at + 2 + tokens_in x) body) _ (statements_numbered scope (at + 2 + tokens_in x) body) (λ inner g. (h, (g, tt))))
    statement_numbered scope at (tree.IfElse x body other) =
        after_asked s IsNumberedMade scope k.Bool (at + 1) x _ (λ term h.
        ok_then AreNumberedMade IsNumberedMade (statements_made s scope (at + 2 + tokens_in x) body) _ (statements_numbered scope (at + 2 + tokens_in x) body) (λ inner g.
        ok_then AreNumberedMade IsNumberedMade (statements_made s scope (at + 5 + tokens_in x + tokens_in_statements body) other) _ (statements_numbered scope (at + 5 + tokens_in x + tokens_in_statements body) other) (λ second j. (h, (g, j)))))
    statement_numbered scope at (tree.While x body) =
        after_asked s IsNumberedMade scope k.Bool (at + 1) x _ (λ term h.
        ok_then AreNumberedMade IsNumberedMade (statements_made s scope (at + 2 + tokens_in x) body) _ (statements_numbered scope (at + 2 + tokens_in x) body) (λ inner g. (h, g)))
    statement_numbered scope at (tree.For name list body) =
        skip IsNumberedMade (check_new scope name (at + 1)) _ (λ _.
        ok_then IsNumberedLoop IsNumberedMade (loop_of s scope name (at + 3) list) _ (loop_numbered scope name (at + 3) list) (λ loop h.
        ok_then AreNumberedMade IsNumberedMade (statements_made s loop.scope (at + 5) body) _ (statements_numbered loop.scope (at + 5) body) (λ inner g.
        skip IsNumberedMade (not_on_remove s at) _ (λ _. (h, g)))))

    pub statements_numbered : (scope : Scope) (at : ℕ) (xs : Statements) → AllOk AreNumberedMade (statements_made s scope at xs)
    statements_numbered scope at tree.Nothing = tt
    statements_numbered scope at (tree.Then x more) =
        ok_then IsNumberedMade AreNumberedMade (statement_made s scope at x) _ (statement_numbered scope at x) (λ one h.
        ok_then AreNumberedMade AreNumberedMade (statements_made s one.scope (at + tokens_in_statement x) more) _ (statements_numbered one.scope (at + tokens_in_statement x) more) (λ others g. (h, g)))
