-- The constants of the steps that statements are made into have spellings where those of the statements have.
use Rattle.std.proofs.Common.{◌≡◌, ◌+◌, ◌==◌, not, true, ℕ, List, [], ◌∷◌, length, map, Option, Some, None, refl}
use Rattle.std.specs.Prelude.{slice_get, drop, bytes_eq}
use Rattle.std.specs.List.{AllByRecursion, list_any}
use Rattle.slee_value.specs.declared.kind.Kind.TheVariants as k
use Rattle.script_tree.specs.declared.symbol.Verb.{Verb}
use Rattle.script_tree.specs.declared.symbol.Verb.TheVariants as v
use Rattle.script_tree.specs.declared.tree.Over.{Over}
use Rattle.script_tree.specs.declared.tree.Over.TheVariants as over
use Rattle.script_tree.specs.Tree as tree
use Rattle.script_tree.specs.Tree.{Bytes, Expression, Assigning, OnEntities, OnActivities, SettingTimer, Statement, Statements}
use Rattle.script_types.specs.declared.misuse.CheckBad.TheVariants as bad
use Rattle.script_types.specs.declared.codes.FieldCode.{FieldCode}
use Rattle.script_types.specs.declared.codes.RelationCode.{RelationCode}
use Rattle.script_types.specs.Codes.{kind_in, any_event, declared_event, relation_named}
use Rattle.script_types.specs.TypingResult.{tested, known}
use Rattle.script_types.specs.TypingExpressions.{Setting, Role, InMethod, not_on_remove}
use Rattle.script_types.specs.TypingStatements.{argument_fits, check_handler, check_result, check_service, are_all_given}
use Rattle.script_types.specs.Scopes.{Scope, check_new}
use Rattle.script_types.specs.TokenCounts.{tokens_in, tokens_in_arguments, tokens_in_tail, tokens_in_statement, tokens_in_statements}
use Rattle.script_types.specs.Elaboration.{value_named, child_named, attribute_named, expression_of}
use Rattle.script_types.specs.ElaborationOfStatements.{Made, MadeAll, Loop, assigning_of, argument_of, arguments_of, rank_of, method_in, who_of, on_entities_of, fields_of, on_activities_of, repeat_of, timer_of, return_of, verb_of, loop_of, statement_made, statements_made}
use Rattle.script_types.specs.Program.{Term}
use Rattle.script_laws.proofs.NumberedResults.{AllOk, ok_then, skip}
use Rattle.router_laws_spelled.proofs.Expressions.{after_asked, after_expression, as_kind_spelled}
use Rattle.router_laws_spelled.specs.Written.{ActedSpelled, AssignedSpelled, BothSpelled, ChildrenSpelled, MaybeSpelled, StatementSpelled, StatementsSpelled, TimerSpelled, WrittenSpelled}
use Rattle.router_laws_values.specs.Spelled.{RankSpelled, RepeatSpelled, StepSpelled, StepsSpelled, TermSpelled}
use Rattle.router_state.specs.Fits.{is_i64}

module _ (s : Setting) (ranks : (name : Bytes) (r : RelationCode) → relation_named name s.block ≡ Some r → is_i64 r.priority ≡ true) where
  abbrev MadeSpelled : Made → Type 0
  MadeSpelled made = StepSpelled made.step

  abbrev pub AllSpelled : MadeAll → Type 0
  AllSpelled made = StepsSpelled made.steps

  abbrev TermsSpelled : List Term → Type 0
  TermsSpelled terms = AllByRecursion TermSpelled terms

  abbrev FieldsSpelled : List (Bytes × Term) → Type 0
  FieldsSpelled fields = AllByRecursion (λ field. TermSpelled field.1) fields

  assigning_spelled : (scope : Scope) (at : ℕ) (x : Assigning) → AssignedSpelled x → AllOk MadeSpelled (assigning_of s scope at x)
  assigning_spelled scope at (tree.New name x) written = skip MadeSpelled (check_new scope name (at + 1)) _ (λ _. after_expression s MadeSpelled scope (at + 3) x written _ (λ one h. h))
  assigning_spelled scope at (tree.Variable name x) written = skip MadeSpelled (value_named scope name at) _ (λ variable. after_asked s MadeSpelled scope variable.kind (at + 2) x written _ (λ term h. h))
  assigning_spelled scope at (tree.Field name x) written =
      skip MadeSpelled (known (at + 2) (kind_in name s.block.fields)) _ (λ kind. after_asked s MadeSpelled scope kind (at + 4) x written _ (λ term h.
      skip MadeSpelled (not_on_remove s at) _ (λ _. h)))
  assigning_spelled scope at (tree.Attribute x name y) written =
      after_asked s MadeSpelled scope k.Activity (at + 2) x written.0 _ (λ one h. skip MadeSpelled (known (at + 3 + tokens_in x) (attribute_named name s.block)) _ (λ attribute.
      after_asked s MadeSpelled scope attribute.kind (at + 6 + tokens_in x) y written.1 _ (λ other g. skip MadeSpelled (not_on_remove s at) _ (λ _. (h, g)))))

  argument_spelled : (parameter : Option FieldCode) (x : Expression) (term : Term) → TermSpelled term → TermSpelled (argument_of parameter x term)
  argument_spelled None x term h = h
  argument_spelled (Some parameter) x term h = as_kind_spelled parameter.kind x term h

  arguments_spelled : (scope : Scope) (parameters : List FieldCode) (at : ℕ) (xs : List Expression) → AllByRecursion WrittenSpelled xs → AllOk TermsSpelled (arguments_of s scope parameters at xs)
  arguments_spelled scope parameters at [] written = tt
  arguments_spelled scope parameters at (x ∷ more) written =
      after_expression s TermsSpelled scope at x written.0 _ (λ one h. skip TermsSpelled (tested bad.Mismatch at (argument_fits (slice_get parameters 0) x one.kind)) _ (λ _.
      ok_then TermsSpelled TermsSpelled (arguments_of s scope (drop 1 parameters) (at + tokens_in x + 1) more) _ (arguments_spelled scope (drop 1 parameters) (at + tokens_in x + 1) more written.1) (λ terms g.
      (argument_spelled (slice_get parameters 0) x one.term h, g))))

  known_rank : (at : ℕ) (o : Option RelationCode) → ((r : RelationCode) → o ≡ Some r → is_i64 r.priority ≡ true) → AllOk (λ (r : RelationCode). is_i64 r.priority ≡ true) (known at o)
  known_rank at None each = tt
  known_rank at (Some r) each = each r refl

  rank_spelled : (scope : Scope) (relation : RelationCode) (at : ℕ) (x : Option Expression) → is_i64 relation.priority ≡ true → MaybeSpelled x → AllOk RankSpelled (rank_of s scope relation at x)
  rank_spelled scope relation at None fits written = fits
  rank_spelled scope relation at (Some x) fits written = after_asked s RankSpelled scope k.Int at x written _ (λ term h. h)

  entities_spelled : (scope : Scope) (at : ℕ) (x : OnEntities) → ChildrenSpelled x → AllOk MadeSpelled (on_entities_of s scope at x)
  entities_spelled scope at (tree.Create name child priority) written =
      ok_then (λ (r : RelationCode). is_i64 r.priority ≡ true) MadeSpelled (known (at + 1) (relation_named name s.block)) _ (known_rank (at + 1) (relation_named name s.block) (ranks name)) (λ relation fits. skip MadeSpelled (check_new scope child (at + 3)) _ (λ _.
      ok_then RankSpelled MadeSpelled (rank_of s scope relation (at + 5) priority) _ (rank_spelled scope relation (at + 5) priority fits written) (λ rank h.
      skip MadeSpelled (not_on_remove s at) _ (λ _. h))))
  entities_spelled scope at (tree.Remove child) written = skip MadeSpelled (child_named scope child (at + 1)) _ (λ found. skip MadeSpelled (not_on_remove s at) _ (λ _. tt))
  entities_spelled scope at (tree.Priority child x) written =
      skip MadeSpelled (child_named scope child (at + 1)) _ (λ found. after_asked s MadeSpelled scope k.Int (at + 2) x written _ (λ term h. skip MadeSpelled (not_on_remove s at) _ (λ _. h)))
  entities_spelled scope at (tree.Call child name arguments result) written =
      skip MadeSpelled (child_named scope child (at + 1)) _ (λ found. skip MadeSpelled (known (at + 3) (method_in s found.block name)) _ (λ called.
      ok_then TermsSpelled MadeSpelled (arguments_of s scope called.method.parameters (at + 5) arguments) _ (arguments_spelled scope called.method.parameters (at + 5) arguments written) (λ terms h.
      skip MadeSpelled (tested bad.Count (at + 3) (length arguments == length called.method.parameters)) _ (λ _.
      skip MadeSpelled (check_result scope called.method.result (at + 7 + tokens_in_arguments arguments) result) _ (λ next. skip MadeSpelled (not_on_remove s at) _ (λ _. h))))))

  fields_spelled : (scope : Scope) (declared : List FieldCode) (given : List Bytes) (at : ℕ) (fields : List (Bytes × Expression)) → AllByRecursion (λ (f : Bytes × Expression). WrittenSpelled f.1) fields → AllOk FieldsSpelled (fields_of s scope declared given at fields)
  fields_spelled scope declared given at [] written = tt
  fields_spelled scope declared given at (field ∷ more) written =
      skip FieldsSpelled (known at (kind_in field.0 declared)) _ (λ kind. skip FieldsSpelled (tested bad.Count at (not (list_any (bytes_eq field.0) given))) _ (λ _.
      after_asked s FieldsSpelled scope kind (at + 2) field.1 written.0 _ (λ term h.
      ok_then FieldsSpelled FieldsSpelled (fields_of s scope declared (field.0 ∷ given) (at + 3 + tokens_in field.1) more) _ (fields_spelled scope declared (field.0 ∷ given) (at + 3 + tokens_in field.1) more written.1) (λ rest g. (h, g)))))

  activities_spelled : (scope : Scope) (at : ℕ) (x : OnActivities) → ActedSpelled x → AllOk MadeSpelled (on_activities_of s scope at x)
  activities_spelled scope at (tree.Attach who x) written =
      skip MadeSpelled (who_of scope (at + 1) who) _ (λ someone. after_asked s MadeSpelled scope k.Activity (at + 3) x written _ (λ term h. skip MadeSpelled (not_on_remove s at) _ (λ _. h)))
  activities_spelled scope at (tree.Detach who x) written =
      skip MadeSpelled (who_of scope (at + 1) who) _ (λ someone. after_asked s MadeSpelled scope k.Activity (at + 3) x written _ (λ term h. skip MadeSpelled (not_on_remove s at) _ (λ _. h)))
  activities_spelled scope at (tree.Mask event x) written =
      skip MadeSpelled (known (at + 1) (any_event event s.codes)) _ (λ _. after_asked s MadeSpelled scope k.Activity (at + 3) x written _ (λ term h.
      skip MadeSpelled (not_on_remove s at) _ (λ _. h)))
  activities_spelled scope at (tree.Unmask event x) written =
      skip MadeSpelled (known (at + 1) (any_event event s.codes)) _ (λ _. after_asked s MadeSpelled scope k.Activity (at + 3) x written _ (λ term h.
      skip MadeSpelled (not_on_remove s at) _ (λ _. h)))
  activities_spelled scope at (tree.Fire name x service fields) written =
      skip MadeSpelled (known (at + 1) (declared_event name s.codes)) _ (λ event. after_asked s MadeSpelled scope k.Activity (at + 3) x written.0 _ (λ term h.
      skip MadeSpelled (check_service s (at + 4 + tokens_in x) service) _ (λ _.
      ok_then FieldsSpelled MadeSpelled (fields_of s scope event.fields [] (at + 4 + tokens_in x + tokens_in_tail service) fields) _ (fields_spelled scope event.fields [] (at + 4 + tokens_in x + tokens_in_tail service) fields written.1) (λ terms g.
      skip MadeSpelled (tested bad.Count (at + 1) (are_all_given event.fields (map (λ f. f.0) fields))) _ (λ _. skip MadeSpelled (not_on_remove s at) _ (λ _. (h, g)))))))
  activities_spelled scope at (tree.Null name) written = skip MadeSpelled (check_new scope name (at + 2)) _ (λ _. skip MadeSpelled (not_on_remove s at) _ (λ _. tt))
  activities_spelled scope at (tree.Bind x y) written =
      after_asked s MadeSpelled scope k.Text (at + 1) x written.0 _ (λ one h. after_asked s MadeSpelled scope k.Activity (at + 2 + tokens_in x) y written.1 _ (λ other g. skip MadeSpelled (not_on_remove s at) _ (λ _. (h, g))))

  repeat_spelled : (scope : Scope) (at : ℕ) (x : Option (Expression × Expression)) → BothSpelled x → AllOk RepeatSpelled (repeat_of s scope at x)
  repeat_spelled scope at None written = tt
  repeat_spelled scope at (Some r) written =
      after_asked s RepeatSpelled scope k.Int (at + 1) r.0 written.0 _ (λ one h. after_asked s RepeatSpelled scope k.Int (at + 2 + tokens_in r.0) r.1 written.1 _ (λ other g. (h, g)))

  timer_spelled : (scope : Scope) (at : ℕ) (t : SettingTimer) → TimerSpelled t → AllOk MadeSpelled (timer_of s scope at t)
  timer_spelled scope at t written =
      skip MadeSpelled (check_new scope t.name (at + 1)) _ (λ _. after_asked s MadeSpelled scope k.Activity (at + 3) t.activity written.0 _ (λ activity h.
      after_asked s MadeSpelled scope k.Int (at + 4 + tokens_in t.activity) t.start written.1 _ (λ start g.
      ok_then RepeatSpelled MadeSpelled (repeat_of s scope (at + 4 + tokens_in t.activity + tokens_in t.start) t.repeat) _ (repeat_spelled scope (at + 4 + tokens_in t.activity + tokens_in t.start) t.repeat written.2) (λ again j.
      skip MadeSpelled (not_on_remove s at) _ (λ _. (h, g, j))))))

  return_spelled : (scope : Scope) (at : ℕ) (role : Role) (x : Expression) → WrittenSpelled x → AllOk StepSpelled (return_of s scope at role x)
  return_spelled scope at (InMethod (Some kind)) x written = after_asked s StepSpelled scope kind (at + 1) x written _ (λ term h. h)
  return_spelled scope at _ x written = skip StepSpelled (expression_of s scope (at + 1) x) _ (λ _. tt)

  verb_spelled : (scope : Scope) (at : ℕ) (verb : Verb) (x : Expression) → WrittenSpelled x → AllOk StepSpelled (verb_of s scope at verb x)
  verb_spelled scope at v.End x written = after_asked s StepSpelled scope k.Activity (at + 1) x written _ (λ term h. skip StepSpelled (not_on_remove s at) _ (λ _. h))
  verb_spelled scope at v.Cancel x written = after_asked s StepSpelled scope k.Timer (at + 1) x written _ (λ term h. skip StepSpelled (not_on_remove s at) _ (λ _. h))
  verb_spelled scope at v.Unbind x written = after_asked s StepSpelled scope k.Text (at + 1) x written _ (λ term h. skip StepSpelled (not_on_remove s at) _ (λ _. h))
  verb_spelled scope at v.Emit x written = after_asked s StepSpelled scope k.Text (at + 1) x written _ (λ term h. h)
  verb_spelled scope at v.Return x written = return_spelled scope at s.role x written
  verb_spelled scope at v.Throw x written = after_asked s StepSpelled scope k.Text (at + 1) x written _ (λ term h. skip StepSpelled (not_on_remove s at) _ (λ _. h))
  verb_spelled scope at v.Suspend x written = after_asked s StepSpelled scope k.Int (at + 1) x written _ (λ term h. skip StepSpelled (check_handler s.role at) _ (λ _. h))
  verb_spelled scope at v.Resume x written = after_asked s StepSpelled scope k.Activity (at + 1) x written _ (λ term h. skip StepSpelled (not_on_remove s at) _ (λ _. h))

  mutual
    statement_spelled : (scope : Scope) (at : ℕ) (x : Statement) → StatementSpelled x → AllOk MadeSpelled (statement_made s scope at x)
    statement_spelled scope at (tree.Assign x) written = assigning_spelled scope at x written
    statement_spelled scope at (tree.Entity x) written = entities_spelled scope at x written
    statement_spelled scope at (tree.Activity x) written = activities_spelled scope at x written
    statement_spelled scope at (tree.Timer x) written = timer_spelled scope at x written
    statement_spelled scope at (tree.Do verb x) written = ok_then StepSpelled MadeSpelled (verb_of s scope at verb x) _ (verb_spelled scope at verb x written) (λ step h. h)
    statement_spelled scope at (tree.Usage name x) written = after_asked s MadeSpelled scope k.Int (at + 2) x written _ (λ term h. skip MadeSpelled (not_on_remove s at) _ (λ _. h))
    statement_spelled scope at tree.Rollback written = skip MadeSpelled (not_on_remove s at) _ (λ _. tt)
    statement_spelled scope at (tree.If x body) written =
        after_asked s MadeSpelled scope k.Bool (at + 1) x written.0 _ (λ term h.
        ok_then AllSpelled MadeSpelled (statements_made s scope (at + 2 + tokens_in x) body) _ (statements_spelled scope (at + 2 + tokens_in x) body written.1) (λ inner g. (h, g, tt)))
    statement_spelled scope at (tree.IfElse x body other) written =
        after_asked s MadeSpelled scope k.Bool (at + 1) x written.0 _ (λ term h.
        ok_then AllSpelled MadeSpelled (statements_made s scope (at + 2 + tokens_in x) body) _ (statements_spelled scope (at + 2 + tokens_in x) body written.1) (λ inner g.
        ok_then AllSpelled MadeSpelled (statements_made s scope (at + 5 + tokens_in x + tokens_in_statements body) other) _ (statements_spelled scope (at + 5 + tokens_in x + tokens_in_statements body) other written.2) (λ second j. (h, g, j))))
    statement_spelled scope at (tree.While x body) written =
        after_asked s MadeSpelled scope k.Bool (at + 1) x written.0 _ (λ term h.
        ok_then AllSpelled MadeSpelled (statements_made s scope (at + 2 + tokens_in x) body) _ (statements_spelled scope (at + 2 + tokens_in x) body written.1) (λ inner g. (h, g)))
    statement_spelled scope at (tree.For name list body) written =
        skip MadeSpelled (check_new scope name (at + 1)) _ (λ _.
        skip MadeSpelled (loop_of s scope name (at + 3) list) _ (λ loop.
        ok_then AllSpelled MadeSpelled (statements_made s loop.scope (at + 5) body) _ (statements_spelled loop.scope (at + 5) body written) (λ inner g.
        skip MadeSpelled (not_on_remove s at) _ (λ _. g))))

    pub statements_spelled : (scope : Scope) (at : ℕ) (xs : Statements) → StatementsSpelled xs → AllOk AllSpelled (statements_made s scope at xs)
    statements_spelled scope at tree.Nothing written = tt
    statements_spelled scope at (tree.Then x more) written =
        ok_then MadeSpelled AllSpelled (statement_made s scope at x) _ (statement_spelled scope at x written.0) (λ one h.
        ok_then AllSpelled AllSpelled (statements_made s one.scope (at + tokens_in_statement x) more) _ (statements_spelled one.scope (at + tokens_in_statement x) more written.1) (λ others g. (h, g)))
