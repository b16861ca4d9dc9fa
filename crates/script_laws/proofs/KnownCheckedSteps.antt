-- The constants of what statements and scripts are made into are known.
use Rattle.std.proofs.Common.{◌≡◌, ◌+◌, ◌==◌, not, ℕ, List, [], ◌∷◌, length, map, Option, Some, None, Ok, Err, subst}
use Rattle.std.specs.Prelude.{slice_get, drop, bytes_eq}
use Rattle.std.specs.List.{AllByRecursion, list_any}
use Rattle.slee_value.specs.declared.kind.Kind.TheVariants as k
use Rattle.script_tree.specs.declared.symbol.Verb.{Verb}
use Rattle.script_tree.specs.declared.symbol.Verb.TheVariants as v
use Rattle.script_tree.specs.Tree as tree
use Rattle.script_tree.specs.Tree.{Bytes, Expression, Assigning, OnEntities, OnActivities, SettingTimer, Statement, Statements}
use Rattle.script_types.specs.declared.codes.FieldCode.{FieldCode}
use Rattle.script_types.specs.declared.codes.RelationCode.{RelationCode}
use Rattle.script_types.specs.declared.codes.CodePart.TheVariants as part
use Rattle.script_types.specs.declared.codes.CodePlace.{CodePlace}
use Rattle.script_types.specs.declared.misuse.CheckBad.TheVariants as bad
use Rattle.script_types.specs.Codes.{Codes, Block, Handler, Method, kind_in, any_event, declared_event, relation_named}
use Rattle.script_types.specs.Typing.{Task, handler_task, method_task, task_for}
use Rattle.script_types.specs.TypingResult.{Checked, tested, known as found}
use Rattle.script_types.specs.TypingExpressions.{Role, OnEvent, InMethod, OnException, OnRolledBack, OnRemove, not_on_remove}
use Rattle.script_types.specs.TypingExpressions as typing
use Rattle.script_types.specs.TypingStatements.{argument_fits, check_handler, check_result, check_service, are_all_given}
use Rattle.script_types.specs.TokenCounts.{tokens_in, tokens_in_arguments, tokens_in_tail, tokens_in_statement, tokens_in_statements}
use Rattle.script_types.specs.Scopes.{Scope, check_new}
use Rattle.script_types.specs.Elaboration.{value_named, child_named, attribute_named, expression_of, asked_of}
use Rattle.script_types.specs.ElaborationOfStatements.{Made, MadeAll, assigning_of, argument_of, arguments_of, rank_of, method_in, who_of, on_entities_of, fields_of, on_activities_of, repeat_of, timer_of, return_of, verb_of, loop_of, statement_made, statements_made}
use Rattle.script_types.specs.Program.{Term, HandlerProgram, MethodProgram, Program}
use Rattle.script_types.specs.Programs.{Built, placed, place_of, steps_of, handlers_of, methods_of, callback_of, block_of, blocks_of, program_of}
use Rattle.script_types.specs.Programs as built
use Rattle.script_laws.specs.References.{Reference}
use Rattle.script_laws.proofs.KnownConstants.{OfTerm, OfRank, OfRepeat, OfStep, OfSteps, OfScript, OfBlock, OfProgram}
use Rattle.script_laws.proofs.KnownChecked.{AllOk, ok_then, skip, HasConstants, TypedIs, as_kind_is, expression_is, asked_is}

module _ (known : Reference → Type 0) (s : typing.Setting) (given : HasConstants known s.codes) where
  -- the constants of a step are known
  abbrev pub MadeIs : Made → Type 0
  MadeIs made = OfStep known made.step

  abbrev pub AllMade : MadeAll → Type 0
  AllMade made = OfSteps known made.steps

  assigning_is : (scope : Scope) (at : ℕ) (x : Assigning) → AllOk MadeIs (assigning_of s scope at x)
  assigning_is scope at (tree.New name x) = skip MadeIs (check_new scope name (at + 1)) _ (λ _. ok_then (TypedIs known s given) MadeIs (expression_of s scope (at + 3) x) _ (expression_is known s given scope (at + 3) x) (λ one h. h))
  assigning_is scope at (tree.Variable name x) = skip MadeIs (value_named scope name at) _ (λ variable. ok_then (OfTerm known) MadeIs (asked_of s scope variable.kind (at + 2) x) _ (asked_is known s given scope variable.kind (at + 2) x) (λ term h. h))
  assigning_is scope at (tree.Field name x) = skip MadeIs (found (at + 2) (kind_in name s.block.fields)) _ (λ kind. ok_then (OfTerm known) MadeIs (asked_of s scope kind (at + 4) x) _ (asked_is known s given scope kind (at + 4) x) (λ term h. skip MadeIs (not_on_remove s at) _ (λ _. h)))
  assigning_is scope at (tree.Attribute x name y) = ok_then (OfTerm known) MadeIs (asked_of s scope k.Activity (at + 2) x) _ (asked_is known s given scope k.Activity (at + 2) x) (λ one h. skip MadeIs (found (at + 3 + tokens_in x) (attribute_named name s.block)) _ (λ attribute. ok_then (OfTerm known) MadeIs (asked_of s scope attribute.kind (at + 6 + tokens_in x) y) _ (asked_is known s given scope attribute.kind (at + 6 + tokens_in x) y) (λ other g. skip MadeIs (not_on_remove s at) _ (λ _. (h, g)))))

  argument_is : (parameter : Option FieldCode) (x : Expression) (term : Term) → OfTerm known term → OfTerm known (argument_of parameter x term)
  argument_is None x term h = h
  argument_is (Some parameter) x term h = as_kind_is known s given parameter.kind x term h

  arguments_are : (scope : Scope) (parameters : List FieldCode) (at : ℕ) (xs : List Expression) → AllOk (AllByRecursion (OfTerm known)) (arguments_of s scope parameters at xs)
  arguments_are scope parameters at [] = tt
  arguments_are scope parameters at (x ∷ more) = ok_then (TypedIs known s given) (AllByRecursion (OfTerm known)) (expression_of s scope at x) _ (expression_is known s given scope at x) (λ one h. skip (AllByRecursion (OfTerm known)) (tested bad.Mismatch at (argument_fits (slice_get parameters 0) x one.kind)) _ (λ _.
      ok_then (AllByRecursion (OfTerm known)) (AllByRecursion (OfTerm known)) (arguments_of s scope (drop 1 parameters) (at + tokens_in x + 1) more) _ (arguments_are scope (drop 1 parameters) (at + tokens_in x + 1) more) (λ terms g. (argument_is (slice_get parameters 0) x one.term h, g))))

  rank_is : (scope : Scope) (relation : RelationCode) (at : ℕ) (x : Option Expression) → AllOk (OfRank known) (rank_of s scope relation at x)
  rank_is scope relation at None = tt
  rank_is scope relation at (Some x) = ok_then (OfTerm known) (OfRank known) (asked_of s scope k.Int at x) _ (asked_is known s given scope k.Int at x) (λ term h. h)

  entities_are : (scope : Scope) (at : ℕ) (x : OnEntities) → AllOk MadeIs (on_entities_of s scope at x)
  entities_are scope at (tree.Create name child priority) = skip MadeIs (found (at + 1) (relation_named name s.block)) _ (λ relation. skip MadeIs (check_new scope child (at + 3)) _ (λ _. ok_then (OfRank known) MadeIs (rank_of s scope relation (at + 5) priority) _ (rank_is scope relation (at + 5) priority) (λ rank h. skip MadeIs (not_on_remove s at) _ (λ _. h))))
  entities_are scope at (tree.Remove child) = skip MadeIs (child_named scope child (at + 1)) _ (λ found. skip MadeIs (not_on_remove s at) _ (λ _. tt))
  entities_are scope at (tree.Priority child x) = skip MadeIs (child_named scope child (at + 1)) _ (λ found. ok_then (OfTerm known) MadeIs (asked_of s scope k.Int (at + 2) x) _ (asked_is known s given scope k.Int (at + 2) x) (λ term h. skip MadeIs (not_on_remove s at) _ (λ _. h)))
  entities_are scope at (tree.Call child name arguments result) = skip MadeIs (child_named scope child (at + 1)) _ (λ one. skip MadeIs (found (at + 3) (method_in s one.block name)) _ (λ called. ok_then (AllByRecursion (OfTerm known)) MadeIs (arguments_of s scope called.method.parameters (at + 5) arguments) _ (arguments_are scope called.method.parameters (at + 5) arguments) (λ terms h.
      skip MadeIs (tested bad.Count (at + 3) (length arguments == length called.method.parameters)) _ (λ _. skip MadeIs (check_result scope called.method.result (at + 7 + tokens_in_arguments arguments) result) _ (λ next. skip MadeIs (not_on_remove s at) _ (λ _. h))))))

  fields_are : (scope : Scope) (declared : List FieldCode) (done : List Bytes) (at : ℕ) (fields : List (Bytes × Expression)) → AllOk (AllByRecursion (λ y. OfTerm known y.1)) (fields_of s scope declared done at fields)
  fields_are scope declared done at [] = tt
  fields_are scope declared done at (field ∷ more) = skip (AllByRecursion (λ y. OfTerm known y.1)) (found at (kind_in field.0 declared)) _ (λ kind. skip (AllByRecursion (λ y. OfTerm known y.1)) (tested bad.Count at (not (list_any (bytes_eq field.0) done))) _ (λ _. ok_then (OfTerm known) (AllByRecursion (λ y. OfTerm known y.1)) (asked_of s scope kind (at + 2) field.1) _ (asked_is known s given scope kind (at + 2) field.1) (λ term h.
      ok_then (AllByRecursion (λ y. OfTerm known y.1)) (AllByRecursion (λ y. OfTerm known y.1)) (fields_of s scope declared (field.0 ∷ done) (at + 3 + tokens_in field.1) more) _ (fields_are scope declared (field.0 ∷ done) (at + 3 + tokens_in field.1) more) (λ rest g. (h, g)))))

  activities_are : (scope : Scope) (at : ℕ) (x : OnActivities) → AllOk MadeIs (on_activities_of s scope at x)
  activities_are scope at (tree.Attach who x) = skip MadeIs (who_of scope (at + 1) who) _ (λ someone. ok_then (OfTerm known) MadeIs (asked_of s scope k.Activity (at + 3) x) _ (asked_is known s given scope k.Activity (at + 3) x) (λ term h. skip MadeIs (not_on_remove s at) _ (λ _. h)))
  activities_are scope at (tree.Detach who x) = skip MadeIs (who_of scope (at + 1) who) _ (λ someone. ok_then (OfTerm known) MadeIs (asked_of s scope k.Activity (at + 3) x) _ (asked_is known s given scope k.Activity (at + 3) x) (λ term h. skip MadeIs (not_on_remove s at) _ (λ _. h)))
  activities_are scope at (tree.Mask event x) = skip MadeIs (found (at + 1) (any_event event s.codes)) _ (λ _. ok_then (OfTerm known) MadeIs (asked_of s scope k.Activity (at + 3) x) _ (asked_is known s given scope k.Activity (at + 3) x) (λ term h. skip MadeIs (not_on_remove s at) _ (λ _. h)))
  activities_are scope at (tree.Unmask event x) = skip MadeIs (found (at + 1) (any_event event s.codes)) _ (λ _. ok_then (OfTerm known) MadeIs (asked_of s scope k.Activity (at + 3) x) _ (asked_is known s given scope k.Activity (at + 3) x) (λ term h. skip MadeIs (not_on_remove s at) _ (λ _. h)))
  activities_are scope at (tree.Fire name x service fields) = skip MadeIs (found (at + 1) (declared_event name s.codes)) _ (λ event. ok_then (OfTerm known) MadeIs (asked_of s scope k.Activity (at + 3) x) _ (asked_is known s given scope k.Activity (at + 3) x) (λ term h. skip MadeIs (check_service s (at + 4 + tokens_in x) service) _ (λ _.
      ok_then (AllByRecursion (λ y. OfTerm known y.1)) MadeIs (fields_of s scope event.fields [] (at + 4 + tokens_in x + tokens_in_tail service) fields) _ (fields_are scope event.fields [] (at + 4 + tokens_in x + tokens_in_tail service) fields) (λ terms g. skip MadeIs (tested bad.Count (at + 1) (are_all_given event.fields (map (λ f. f.0) fields))) _ (λ _. skip MadeIs (not_on_remove s at) _ (λ _. (h, g)))))))
  activities_are scope at (tree.Null name) = skip MadeIs (check_new scope name (at + 2)) _ (λ _. skip MadeIs (not_on_remove s at) _ (λ _. tt))
  activities_are scope at (tree.Bind x y) = ok_then (OfTerm known) MadeIs (asked_of s scope k.Text (at + 1) x) _ (asked_is known s given scope k.Text (at + 1) x) (λ one h. ok_then (OfTerm known) MadeIs (asked_of s scope k.Activity (at + 2 + tokens_in x) y) _ (asked_is known s given scope k.Activity (at + 2 + tokens_in x) y) (λ other g. skip MadeIs (not_on_remove s at) _ (λ _. (h, g))))

  repeat_is : (scope : Scope) (at : ℕ) (x : Option (Expression × Expression)) → AllOk (OfRepeat known) (repeat_of s scope at x)
  repeat_is scope at None = tt
  repeat_is scope at (Some r) = ok_then (OfTerm known) (OfRepeat known) (asked_of s scope k.Int (at + 1) r.0) _ (asked_is known s given scope k.Int (at + 1) r.0) (λ one h. ok_then (OfTerm known) (OfRepeat known) (asked_of s scope k.Int (at + 2 + tokens_in r.0) r.1) _ (asked_is known s given scope k.Int (at + 2 + tokens_in r.0) r.1) (λ other g. (h, g)))

  timer_is : (scope : Scope) (at : ℕ) (t : SettingTimer) → AllOk MadeIs (timer_of s scope at t)
  timer_is scope at t = skip MadeIs (check_new scope t.name (at + 1)) _ (λ _. ok_then (OfTerm known) MadeIs (asked_of s scope k.Activity (at + 3) t.activity) _ (asked_is known s given scope k.Activity (at + 3) t.activity) (λ activity h. ok_then (OfTerm known) MadeIs (asked_of s scope k.Int (at + 4 + tokens_in t.activity) t.start) _ (asked_is known s given scope k.Int (at + 4 + tokens_in t.activity) t.start) (λ start g.
      ok_then (OfRepeat known) MadeIs (repeat_of s scope (at + 4 + tokens_in t.activity + tokens_in t.start) t.repeat) _ (repeat_is scope (at + 4 + tokens_in t.activity + tokens_in t.start) t.repeat) (λ again j. skip MadeIs (not_on_remove s at) _ (λ _. (h, g, j))))))

  return_is : (scope : Scope) (at : ℕ) (role : Role) (x : Expression) → AllOk (OfStep known) (return_of s scope at role x)
  return_is scope at (InMethod (Some kind)) x = ok_then (OfTerm known) (OfStep known) (asked_of s scope kind (at + 1) x) _ (asked_is known s given scope kind (at + 1) x) (λ term h. h)
  return_is scope at (InMethod None) x = skip (OfStep known) (expression_of s scope (at + 1) x) _ (λ _. tt)
  return_is scope at (OnEvent fields) x = skip (OfStep known) (expression_of s scope (at + 1) x) _ (λ _. tt)
  return_is scope at OnException x = skip (OfStep known) (expression_of s scope (at + 1) x) _ (λ _. tt)
  return_is scope at OnRolledBack x = skip (OfStep known) (expression_of s scope (at + 1) x) _ (λ _. tt)
  return_is scope at OnRemove x = skip (OfStep known) (expression_of s scope (at + 1) x) _ (λ _. tt)

  verb_is : (scope : Scope) (at : ℕ) (verb : Verb) (x : Expression) → AllOk (OfStep known) (verb_of s scope at verb x)
  verb_is scope at v.End x = ok_then (OfTerm known) (OfStep known) (asked_of s scope k.Activity (at + 1) x) _ (asked_is known s given scope k.Activity (at + 1) x) (λ term h. skip (OfStep known) (not_on_remove s at) _ (λ _. h))
  verb_is scope at v.Cancel x = ok_then (OfTerm known) (OfStep known) (asked_of s scope k.Timer (at + 1) x) _ (asked_is known s given scope k.Timer (at + 1) x) (λ term h. skip (OfStep known) (not_on_remove s at) _ (λ _. h))
  verb_is scope at v.Unbind x = ok_then (OfTerm known) (OfStep known) (asked_of s scope k.Text (at + 1) x) _ (asked_is known s given scope k.Text (at + 1) x) (λ term h. skip (OfStep known) (not_on_remove s at) _ (λ _. h))
  verb_is scope at v.Emit x = ok_then (OfTerm known) (OfStep known) (asked_of s scope k.Text (at + 1) x) _ (asked_is known s given scope k.Text (at + 1) x) (λ term h. h)
  verb_is scope at v.Return x = return_is scope at s.role x
  verb_is scope at v.Throw x = ok_then (OfTerm known) (OfStep known) (asked_of s scope k.Text (at + 1) x) _ (asked_is known s given scope k.Text (at + 1) x) (λ term h. skip (OfStep known) (not_on_remove s at) _ (λ _. h))
  verb_is scope at v.Suspend x = ok_then (OfTerm known) (OfStep known) (asked_of s scope k.Int (at + 1) x) _ (asked_is known s given scope k.Int (at + 1) x) (λ term h. skip (OfStep known) (check_handler s.role at) _ (λ _. h))
  verb_is scope at v.Resume x = ok_then (OfTerm known) (OfStep known) (asked_of s scope k.Activity (at + 1) x) _ (asked_is known s given scope k.Activity (at + 1) x) (λ term h. skip (OfStep known) (not_on_remove s at) _ (λ _. h))

  mutual
    statement_is : (scope : Scope) (at : ℕ) (x : Statement) → AllOk MadeIs (statement_made s scope at x)
    statement_is scope at (tree.Assign x) = assigning_is scope at x
    statement_is scope at (tree.Entity x) = entities_are scope at x
    statement_is scope at (tree.Activity x) = activities_are scope at x
    statement_is scope at (tree.Timer x) = timer_is scope at x
    statement_is scope at (tree.Do verb x) = ok_then (OfStep known) MadeIs (verb_of s scope at verb x) _ (verb_is scope at verb x) (λ step h. h)
    statement_is scope at (tree.Usage name x) = ok_then (OfTerm known) MadeIs (asked_of s scope k.Int (at + 2) x) _ (asked_is known s given scope k.Int (at + 2) x) (λ term h. skip MadeIs (not_on_remove s at) _ (λ _. h))
    statement_is scope at tree.Rollback = skip MadeIs (not_on_remove s at) _ (λ _. tt)
    statement_is scope at (tree.If x body) = ok_then (OfTerm known) MadeIs (asked_of s scope k.Bool (at + 1) x) _ (asked_is known s given scope k.Bool (at + 1) x) (λ term h. ok_then AllMade MadeIs (statements_made s scope (at + 2 + tokens_in x) body) _ (statements_are scope (at + 2 + tokens_in x) body) (λ inner g. (h, g, tt)))
    statement_is scope at (tree.IfElse x body other) = ok_then (OfTerm known) MadeIs (asked_of s scope k.Bool (at + 1) x) _ (asked_is known s given scope k.Bool (at + 1) x) (λ term h. ok_then AllMade MadeIs (statements_made s scope (at + 2 + tokens_in x) body) _ (statements_are scope (at + 2 + tokens_in x) body) (λ inner g.
        ok_then AllMade MadeIs (statements_made s scope (at + 5 + tokens_in x + tokens_in_statements body) other) _ (statements_are scope (at + 5 + tokens_in x + tokens_in_statements body) other) (λ second j. (h, g, j))))
    statement_is scope at (tree.While x body) = ok_then (OfTerm known) MadeIs (asked_of s scope k.Bool (at + 1) x) _ (asked_is known s given scope k.Bool (at + 1) x) (λ term h. ok_then AllMade MadeIs (statements_made s scope (at + 2 + tokens_in x) body) _ (statements_are scope (at + 2 + tokens_in x) body) (λ inner g. (h, g)))
    statement_is scope at (tree.For name list body) = skip MadeIs (check_new scope name (at + 1)) _ (λ _. skip MadeIs (loop_of s scope name (at + 3) list) _ (λ loop. ok_then AllMade MadeIs (statements_made s loop.scope (at + 5) body) _ (statements_are loop.scope (at + 5) body) (λ inner g. skip MadeIs (not_on_remove s at) _ (λ _. g))))

    pub statements_are : (scope : Scope) (at : ℕ) (xs : Statements) → AllOk AllMade (statements_made s scope at xs)
    statements_are scope at tree.Nothing = tt
    statements_are scope at (tree.Then x more) = ok_then MadeIs AllMade (statement_made s scope at x) _ (statement_is scope at x) (λ one h. ok_then AllMade AllMade (statements_made s one.scope (at + tokens_in_statement x) more) _ (statements_are one.scope (at + tokens_in_statement x) more) (λ others g. (h, g)))

-- what is built, if no script has a fault, is so
abbrev pub AllBuilt : {A : Type 0} → (A → Type 0) → Built A → Type 0
AllBuilt P (Ok x) = P x
AllBuilt P (Err fault) = Unit {0}

built_then : {A B : Type 0} (P : A → Type 0) (Q : B → Type 0) (r : Built A) (g : A → Built B) → AllBuilt P r → ((x : A) → P x → AllBuilt Q (g x)) → AllBuilt Q (built.◌>>=◌ r g)
built_then P Q (Ok x) g h go = go x h
built_then P Q (Err fault) g h go = tt

module _ (known : Reference → Type 0) (all : Codes) (given : HasConstants known all) where
  placed_is : (place : CodePlace) (r : Checked MadeAll) → AllOk (λ made. OfSteps known made.steps) r → AllBuilt (OfSteps known) (placed place r)
  placed_is place (Ok made) h = h
  placed_is place (Err fault) h = tt

  steps_are : (block : Block) (place : CodePlace) (task : Task) → AllBuilt (OfSteps known) (steps_of all block place task)
  steps_are block place task =
      let s : typing.Setting = record { codes = all; block = block; role = task.role } in
      placed_is place (statements_made s task.scope 0 task.script) (statements_are known s given task.scope 0 task.script)

  abbrev HandlersAre : List HandlerProgram → Type 0
  HandlersAre handlers = AllByRecursion (λ (h : HandlerProgram). OfSteps known h.steps) handlers

  abbrev MethodsAre : List MethodProgram → Type 0
  MethodsAre methods = AllByRecursion (λ (method : MethodProgram). OfSteps known method.steps) methods

  handlers_are : (block : Block) (number n : ℕ) (handlers : List Handler) → AllBuilt HandlersAre (handlers_of all block number n handlers)
  handlers_are block number n [] = tt
  handlers_are block number n (x ∷ handlers) = built_then (OfSteps known) HandlersAre (steps_of all block (place_of number (part.Handler n)) (handler_task all x)) _ (steps_are block (place_of number (part.Handler n)) (handler_task all x)) (λ steps h. built_then HandlersAre HandlersAre (handlers_of all block number (n + 1) handlers) _ (handlers_are block number (n + 1) handlers) (λ others g. (h, g)))

  methods_are : (block : Block) (number n : ℕ) (methods : List Method) → AllBuilt MethodsAre (methods_of all block number n methods)
  methods_are block number n [] = tt
  methods_are block number n (x ∷ methods) = built_then (OfSteps known) MethodsAre (steps_of all block (place_of number (part.Method n)) (method_task x)) _ (steps_are block (place_of number (part.Method n)) (method_task x)) (λ steps h. built_then MethodsAre MethodsAre (methods_of all block number (n + 1) methods) _ (methods_are block number (n + 1) methods) (λ others g. (h, g)))

  callback_is : (block : Block) (place : CodePlace) (role : Role) (script : Option Statements) → AllBuilt (OfScript known) (callback_of all block place role script)
  callback_is block place role None = tt
  callback_is block place role (Some script) = built_then (OfSteps known) (OfScript known) (steps_of all block place (task_for role script)) _ (steps_are block place (task_for role script)) (λ steps h. h)

  block_is : (number : ℕ) (block : Block) → AllBuilt (OfBlock known) (block_of all number block)
  block_is number block = built_then HandlersAre (OfBlock known) (handlers_of all block number 0 block.handlers) _ (handlers_are block number 0 block.handlers) (λ handlers h.
      built_then MethodsAre (OfBlock known) (methods_of all block number 0 block.methods) _ (methods_are block number 0 block.methods) (λ methods g.
      built_then (OfScript known) (OfBlock known) (callback_of all block (place_of number part.Exception) OnException block.exception) _ (callback_is block (place_of number part.Exception) OnException block.exception) (λ exception j.
      built_then (OfScript known) (OfBlock known) (callback_of all block (place_of number part.RolledBack) OnRolledBack block.rolled_back) _ (callback_is block (place_of number part.RolledBack) OnRolledBack block.rolled_back) (λ rolled_back l.
      built_then (OfScript known) (OfBlock known) (callback_of all block (place_of number part.Remove) OnRemove block.remove) _ (callback_is block (place_of number part.Remove) OnRemove block.remove) (λ remove r. (h, g, j, l, r))))))

  blocks_are : (number : ℕ) (blocks : List Block) → AllBuilt (OfProgram known) (blocks_of all number blocks)
  blocks_are number [] = tt
  blocks_are number (block ∷ blocks) = built_then (OfBlock known) (OfProgram known) (block_of all number block) _ (block_is number block) (λ one h. built_then (OfProgram known) (OfProgram known) (blocks_of all (number + 1) blocks) _ (blocks_are (number + 1) blocks) (λ others g. (h, g)))

  -- the constants of a checked program are known
  pub program_is : (program : Program) → program_of all ≡ Ok program → OfProgram known program
  program_is program e = subst (AllBuilt (OfProgram known)) e (blocks_are 0 all.blocks)
