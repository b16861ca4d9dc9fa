-- What statements are made into is tidy.
use Rattle.std.proofs.Common.{◌≡◌, ◌+◌, true, false, Bool, ℕ, List, [], ◌∷◌, map, length, Some, Ok, Err, refl, subst}
use Rattle.std.specs.Prelude.{not, bytes_eq, ◌==◌}
use Rattle.std.specs.List.{list_any}
use Rattle.script_tree.specs.declared.symbol.Verb.{Verb}
use Rattle.script_tree.specs.declared.symbol.Verb.TheVariants as v
use Rattle.script_tree.specs.Tree as tree
use Rattle.script_tree.specs.Tree.{Bytes, Expression, Assigning, OnEntities, OnActivities, SettingTimer, Statement, Statements}
use Rattle.script_types.specs.declared.misuse.CheckBad.TheVariants as bad
use Rattle.script_types.specs.declared.codes.FieldCode.{FieldCode}
use Rattle.slee_value.specs.declared.kind.Kind.TheVariants as k
use Rattle.script_types.specs.TypingResult.{Checked, tested, known}
use Rattle.script_types.specs.TypingResult as checked
use Rattle.script_types.specs.Codes.{kind_in, any_event, declared_event, relation_named}
use Rattle.script_types.specs.Scopes.{Scope, check_new}
use Rattle.script_types.specs.TokenCounts.{tokens_in, tokens_in_arguments, tokens_in_statement, tokens_in_statements, tokens_in_tail}
use Rattle.script_types.specs.TypingExpressions.{Setting, Role, InMethod, not_on_remove}
use Rattle.script_types.specs.TypingStatements.{check_handler, check_result, check_service, are_all_given}
use Rattle.script_types.specs.Elaboration.{value_named, child_named, attribute_named, expression_of, asked_of}
use Rattle.script_types.specs.ElaborationOfStatements.{Made, MadeAll, assigning_of, arguments_of, rank_of, method_in, on_entities_of, who_of, fields_of, on_activities_of, repeat_of, timer_of, return_of, verb_of, loop_of, statement_made, statements_made}
use Rattle.script_types.specs.Program.{Term, Step}
use Rattle.script_laws.proofs.SafeRuns.{bind_ok, ok_same, tested_true}
use Rattle.script_run_steps.specs.Firing.{AreApart, names_in}
use Rattle.script_run_blocks.specs.Tidy.{IsTidy, AreTidy}

abbrev TidyMade : Checked Made → Type 0
TidyMade (Ok made) = IsTidy made.step
TidyMade (Err fault) = Unit {0}

abbrev TidyStep : Checked Step → Type 0
TidyStep (Ok step) = IsTidy step
TidyStep (Err fault) = Unit {0}

abbrev pub TidyAll : Checked MadeAll → Type 0
TidyAll (Ok made) = AreTidy made.steps
TidyAll (Err fault) = Unit {0}

made_then : {A : Type 0} (r : Checked A) (g : A → Checked Made) → ((x : A) → r ≡ Ok x → TidyMade (g x)) → TidyMade (checked.◌>>=◌ r g)
made_then (Ok x) g h = h x refl
made_then (Err fault) g h = tt

step_then : {A : Type 0} (r : Checked A) (g : A → Checked Step) → ((x : A) → r ≡ Ok x → TidyStep (g x)) → TidyStep (checked.◌>>=◌ r g)
step_then (Ok x) g h = h x refl
step_then (Err fault) g h = tt

all_then : {A : Type 0} (r : Checked A) (g : A → Checked MadeAll) → ((x : A) → r ≡ Ok x → TidyAll (g x)) → TidyAll (checked.◌>>=◌ r g)
all_then (Ok x) g h = h x refl
all_then (Err fault) g h = tt

step_is : (r : Checked Step) (x : Step) → r ≡ Ok x → TidyStep r → IsTidy x
step_is r x e h = subst TidyStep e h

all_is : (r : Checked MadeAll) (x : MadeAll) → r ≡ Ok x → TidyAll r → AreTidy x.steps
all_is r x e h = subst TidyAll e h

not_true : (b : Bool) → not b ≡ true → b ≡ false
not_true true h = cc
not_true false h = refl

-- fields of which none stands twice
fields_apart : (s : Setting) (scope : Scope) (declared : List FieldCode) (given : List Bytes) (at : ℕ) (fields : List (Bytes × Expression)) (terms : List (Bytes × Term)) → fields_of s scope declared given at fields ≡ Ok terms → AreApart given (names_in terms)
fields_apart s scope declared given at [] terms e = subst (λ z. AreApart given (names_in z)) (ok_same [] terms e) tt
fields_apart s scope declared given at (field ∷ more) terms e =
    let a = bind_ok (known at (kind_in field.0 declared)) _ terms e in
    let b = bind_ok (tested bad.Count at (not (list_any (bytes_eq field.0) given))) _ terms a.2 in
    let c = bind_ok (asked_of s scope a.0 (at + 2) field.1) _ terms b.2 in
    let d = bind_ok (fields_of s scope declared (field.0 ∷ given) (at + 3 + tokens_in field.1) more) _ terms c.2 in
    subst (λ z. AreApart given (names_in z)) (ok_same ((field.0, c.0) ∷ d.0) terms d.2)
    (not_true (list_any (bytes_eq field.0) given) (tested_true bad.Count at (not (list_any (bytes_eq field.0) given)) b.0 b.1), fields_apart s scope declared (field.0 ∷ given) (at + 3 + tokens_in field.1) more d.0 d.1)

assigning_tidy : (s : Setting) (scope : Scope) (at : ℕ) (x : Assigning) → TidyMade (assigning_of s scope at x)
assigning_tidy s scope at (tree.New name x) = made_then (check_new scope name (at + 1)) _ (λ _ _. made_then (expression_of s scope (at + 3) x) _ (λ _ _. tt))
assigning_tidy s scope at (tree.Variable name x) = made_then (value_named scope name at) _ (λ found _. made_then (asked_of s scope found.kind (at + 2) x) _ (λ _ _. tt))
assigning_tidy s scope at (tree.Field name x) = made_then (known (at + 2) (kind_in name s.block.fields)) _ (λ kind _. made_then (asked_of s scope kind (at + 4) x) _ (λ _ _. made_then (not_on_remove s at) _ (λ _ _. tt)))
assigning_tidy s scope at (tree.Attribute x name y) = made_then (asked_of s scope k.Activity (at + 2) x) _ (λ _ _. made_then (known (at + 3 + tokens_in x) (attribute_named name s.block)) _ (λ attribute _. made_then (asked_of s scope attribute.kind (at + 6 + tokens_in x) y) _ (λ _ _. made_then (not_on_remove s at) _ (λ _ _. tt))))

entities_tidy : (s : Setting) (scope : Scope) (at : ℕ) (x : OnEntities) → TidyMade (on_entities_of s scope at x)
entities_tidy s scope at (tree.Create name child priority) = made_then (known (at + 1) (relation_named name s.block)) _ (λ relation _. made_then (check_new scope child (at + 3)) _ (λ _ _. made_then (rank_of s scope relation (at + 5) priority) _ (λ _ _. made_then (not_on_remove s at) _ (λ _ _. tt))))
entities_tidy s scope at (tree.Remove child) = made_then (child_named scope child (at + 1)) _ (λ _ _. made_then (not_on_remove s at) _ (λ _ _. tt))
entities_tidy s scope at (tree.Priority child x) = made_then (child_named scope child (at + 1)) _ (λ _ _. made_then (asked_of s scope k.Int (at + 2) x) _ (λ _ _. made_then (not_on_remove s at) _ (λ _ _. tt)))
entities_tidy s scope at (tree.Call child name arguments result) = made_then (child_named scope child (at + 1)) _ (λ found _. made_then (known (at + 3) (method_in s found.block name)) _ (λ called _. made_then (arguments_of s scope called.method.parameters (at + 5) arguments) _ (λ _ _. made_then (tested bad.Count (at + 3) (length arguments == length called.method.parameters)) _ (λ _ _. made_then (check_result scope called.method.result (at + 7 + tokens_in_arguments arguments) result) _ (λ _ _. made_then (not_on_remove s at) _ (λ _ _. tt))))))

activities_tidy : (s : Setting) (scope : Scope) (at : ℕ) (x : OnActivities) → TidyMade (on_activities_of s scope at x)
activities_tidy s scope at (tree.Attach who x) = made_then (who_of scope (at + 1) who) _ (λ _ _. made_then (asked_of s scope k.Activity (at + 3) x) _ (λ _ _. made_then (not_on_remove s at) _ (λ _ _. tt)))
activities_tidy s scope at (tree.Detach who x) = made_then (who_of scope (at + 1) who) _ (λ _ _. made_then (asked_of s scope k.Activity (at + 3) x) _ (λ _ _. made_then (not_on_remove s at) _ (λ _ _. tt)))
activities_tidy s scope at (tree.Mask event x) = made_then (known (at + 1) (any_event event s.codes)) _ (λ _ _. made_then (asked_of s scope k.Activity (at + 3) x) _ (λ _ _. made_then (not_on_remove s at) _ (λ _ _. tt)))
activities_tidy s scope at (tree.Unmask event x) = made_then (known (at + 1) (any_event event s.codes)) _ (λ _ _. made_then (asked_of s scope k.Activity (at + 3) x) _ (λ _ _. made_then (not_on_remove s at) _ (λ _ _. tt)))
activities_tidy s scope at (tree.Fire name x service fields) = made_then (known (at + 1) (declared_event name s.codes)) _ (λ event _. made_then (asked_of s scope k.Activity (at + 3) x) _ (λ _ _. made_then (check_service s (at + 4 + tokens_in x) service) _ (λ _ _. made_then (fields_of s scope event.fields [] (at + 4 + tokens_in x + tokens_in_tail service) fields) _ (λ terms e. made_then (tested bad.Count (at + 1) (are_all_given event.fields (map (λ f. f.0) fields))) _ (λ _ _. made_then (not_on_remove s at) _ (λ _ _. fields_apart s scope event.fields [] (at + 4 + tokens_in x + tokens_in_tail service) fields terms e))))))
activities_tidy s scope at (tree.Null name) = made_then (check_new scope name (at + 2)) _ (λ _ _. made_then (not_on_remove s at) _ (λ _ _. tt))
activities_tidy s scope at (tree.Bind x y) = made_then (asked_of s scope k.Text (at + 1) x) _ (λ _ _. made_then (asked_of s scope k.Activity (at + 2 + tokens_in x) y) _ (λ _ _. made_then (not_on_remove s at) _ (λ _ _. tt)))

timer_tidy : (s : Setting) (scope : Scope) (at : ℕ) (x : SettingTimer) → TidyMade (timer_of s scope at x)
timer_tidy s scope at t = made_then (check_new scope t.name (at + 1)) _ (λ _ _. made_then (asked_of s scope k.Activity (at + 3) t.activity) _ (λ _ _. made_then (asked_of s scope k.Int (at + 4 + tokens_in t.activity) t.start) _ (λ _ _. made_then (repeat_of s scope (at + 4 + tokens_in t.activity + tokens_in t.start) t.repeat) _ (λ _ _. made_then (not_on_remove s at) _ (λ _ _. tt)))))

return_tidy : (s : Setting) (scope : Scope) (at : ℕ) (role : Role) (x : Expression) → TidyStep (return_of s scope at role x)
return_tidy s scope at (InMethod (Some kind)) x = step_then (asked_of s scope kind (at + 1) x) _ (λ _ _. tt)
return_tidy s scope at _ x = step_then (expression_of s scope (at + 1) x) _ (λ _ _. tt)

verb_tidy : (s : Setting) (scope : Scope) (at : ℕ) (verb : Verb) (x : Expression) → TidyStep (verb_of s scope at verb x)
verb_tidy s scope at v.End x = step_then (asked_of s scope k.Activity (at + 1) x) _ (λ _ _. step_then (not_on_remove s at) _ (λ _ _. tt))
verb_tidy s scope at v.Cancel x = step_then (asked_of s scope k.Timer (at + 1) x) _ (λ _ _. step_then (not_on_remove s at) _ (λ _ _. tt))
verb_tidy s scope at v.Unbind x = step_then (asked_of s scope k.Text (at + 1) x) _ (λ _ _. step_then (not_on_remove s at) _ (λ _ _. tt))
verb_tidy s scope at v.Emit x = step_then (asked_of s scope k.Text (at + 1) x) _ (λ _ _. tt)
verb_tidy s scope at v.Return x = return_tidy s scope at s.role x
verb_tidy s scope at v.Throw x = step_then (asked_of s scope k.Text (at + 1) x) _ (λ _ _. step_then (not_on_remove s at) _ (λ _ _. tt))
verb_tidy s scope at v.Suspend x = step_then (asked_of s scope k.Int (at + 1) x) _ (λ _ _. step_then (check_handler s.role at) _ (λ _ _. tt))
verb_tidy s scope at v.Resume x = step_then (asked_of s scope k.Activity (at + 1) x) _ (λ _ _. step_then (not_on_remove s at) _ (λ _ _. tt))

mutual
  statement_tidy : (s : Setting) (scope : Scope) (at : ℕ) (x : Statement) → TidyMade (statement_made s scope at x)
  statement_tidy s scope at (tree.Assign x) = assigning_tidy s scope at x
  statement_tidy s scope at (tree.Entity x) = entities_tidy s scope at x
  statement_tidy s scope at (tree.Activity x) = activities_tidy s scope at x
  statement_tidy s scope at (tree.Timer x) = timer_tidy s scope at x
  statement_tidy s scope at (tree.Do verb x) = made_then (verb_of s scope at verb x) _ (λ step e. step_is (verb_of s scope at verb x) step e (verb_tidy s scope at verb x))
  statement_tidy s scope at (tree.Usage name x) = made_then (asked_of s scope k.Int (at + 2) x) _ (λ _ _. made_then (not_on_remove s at) _ (λ _ _. tt))
  statement_tidy s scope at tree.Rollback = made_then (not_on_remove s at) _ (λ _ _. tt)
  statement_tidy s scope at (tree.If x body) = made_then (asked_of s scope k.Bool (at + 1) x) _ (λ _ _. made_then (statements_made s scope (at + 2 + tokens_in x) body) _ (λ inner e. (all_is (statements_made s scope (at + 2 + tokens_in x) body) inner e (statements_tidy s scope (at + 2 + tokens_in x) body), tt)))
  statement_tidy s scope at (tree.IfElse x body other) = made_then (asked_of s scope k.Bool (at + 1) x) _ (λ _ _. made_then (statements_made s scope (at + 2 + tokens_in x) body) _ (λ inner e. made_then (statements_made s scope (at + 5 + tokens_in x + tokens_in_statements body) other) _ (λ second g. (all_is (statements_made s scope (at + 2 + tokens_in x) body) inner e (statements_tidy s scope (at + 2 + tokens_in x) body), all_is (statements_made s scope (at + 5 + tokens_in x + tokens_in_statements body) other) second g (statements_tidy s scope (at + 5 + tokens_in x + tokens_in_statements body) other)))))
  statement_tidy s scope at (tree.While x body) = made_then (asked_of s scope k.Bool (at + 1) x) _ (λ _ _. made_then (statements_made s scope (at + 2 + tokens_in x) body) _ (λ inner e. all_is (statements_made s scope (at + 2 + tokens_in x) body) inner e (statements_tidy s scope (at + 2 + tokens_in x) body)))
  statement_tidy s scope at (tree.For name list body) = made_then (check_new scope name (at + 1)) _ (λ _ _. made_then (loop_of s scope name (at + 3) list) _ (λ loop _. made_then (statements_made s loop.scope (at + 5) body) _ (λ inner e. made_then (not_on_remove s at) _ (λ _ _. all_is (statements_made s loop.scope (at + 5) body) inner e (statements_tidy s loop.scope (at + 5) body)))))

  pub statements_tidy : (s : Setting) (scope : Scope) (at : ℕ) (xs : Statements) → TidyAll (statements_made s scope at xs)
  statements_tidy s scope at tree.Nothing = tt
  statements_tidy s scope at (tree.Then x more) = all_then (statement_made s scope at x) _ (λ one e. all_then (statements_made s one.scope (at + tokens_in_statement x) more) _ (λ others g. (subst TidyMade e (statement_tidy s scope at x), all_is (statements_made s one.scope (at + tokens_in_statement x) more) others g (statements_tidy s one.scope (at + tokens_in_statement x) more))))
