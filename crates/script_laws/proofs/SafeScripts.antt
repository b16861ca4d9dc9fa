-- What statements are made into is safe.
use Rattle.std.proofs.Common.{◌≡◌, ◌+◌, true, false, ℕ, List, [], ◌∷◌, ◌++◌, length, Option, Some, None, Ok, Err, refl, sym, ap, subst, append-nil}
use Rattle.std.specs.Prelude.{ℤ, ◌==◌, is_some, codes}
use Rattle.std.proofs.lemmas.Bool.{eqb-true}
use Rattle.slee_value.specs.declared.kind.Kind.{Kind}
use Rattle.slee_value.specs.declared.kind.Kind.TheVariants as k
use Rattle.slee_effect.specs.declared.reference.Ref.{Ref}
use Rattle.slee_effect.specs.declared.value.Val.{Val}
use Rattle.slee_effect.specs.declared.effect.Effect.TheVariants as ef
use Rattle.script_tree.specs.declared.tree.Over.TheVariants as over
use Rattle.script_tree.specs.Tree as tree
use Rattle.script_tree.specs.Tree.{Bytes, Expression, Statement, Statements, OnEntities}
use Rattle.script_types.specs.declared.misuse.CheckBad.TheVariants as bad
use Rattle.script_types.specs.Codes.{symbol_of, relation_named}
use Rattle.script_types.specs.TypingResult.{Checked, tested, known}
use Rattle.script_types.specs.TypingResult as checked
use Rattle.script_types.specs.TypingExpressions.{not_on_remove}
use Rattle.script_types.specs.TypingExpressions as typing
use Rattle.script_types.specs.TypingStatements.{check_result}
use Rattle.script_types.specs.TokenCounts.{tokens_in, tokens_in_arguments, tokens_in_statement, tokens_in_statements}
use Rattle.script_types.specs.declared.step.Range.{Range}
use Rattle.script_types.specs.declared.step.Range.TheVariants as range
use Rattle.script_types.specs.Scopes.{Scope, with_value, check_new}
use Rattle.script_types.specs.Scopes as expected
use Rattle.script_types.specs.Elaboration.{child_named, asked_of}
use Rattle.script_types.specs.ElaborationOfStatements.{MadeAll, MethodAt, method_in, arguments_of, on_entities_of, verb_of, Loop, loop_of, statement_made, statements_made}
use Rattle.script_types.specs.Program as p
use Rattle.script_types.specs.Program.{Term, Step, Steps}
use Rattle.script_check_steps.proofs.Grown.{Longer, AllGrow, statements_grow}
use Rattle.script_meaning.specs.Running.{Setting, State, ticked, scoped, effect}
use Rattle.script_meaning.specs.Observing as read
use Rattle.script_meaning.specs.Terms.{eval}
use Rattle.script_meaning.specs.Doing as doing
use Rattle.script_meaning.specs.Steps.{Flow, Next, Calling, next, followed, choose, repeat, walk, items, does_call, act, act_all}
use Rattle.script_meaning.specs.Steps as steps
use Rattle.script_laws.specs.Fitting.{Safe, Is, Keeps, Flows, result_in, AreOf, SafeCalls, Sound}
use Rattle.script_laws.proofs.SafeRuns.{safe_then, safe_tick, bind_ok, ok_same, tested_true, known_some}
use Rattle.script_laws.proofs.SafePlaces.{child_safe}
use Rattle.script_laws.proofs.SafeExpressions.{eval_safe}
use Rattle.script_laws.proofs.SafeDoing.{keep_then, asked_yields, int_safe, effect_safe}
use Rattle.script_laws.proofs.SafeSteps.{Does, GoodStep, GoodVerb, step_then, goes_on, assigning_good, create_good, remove_good, priority_good, on_activities_good, timer_good, verb_good}
use Rattle.script_laws.proofs.SafeBlocks.{followed_safe, choose_safe, turns_safe, scoped_safe, Goes, walk_safe, over_activities_safe, over_children_safe, Given, arguments_safe}

kept_result : (m : Setting) (call : Calling) (s : typing.Setting) (scope behind : Scope) (at block : ℕ) (name : Bytes) (found : MethodAt) (local : Bytes) (e : Ref) (xs : List Val) (st : State) (kind : Option Kind) → found.method.result ≡ kind → SafeCalls m s call → method_in s block name ≡ Some found → check_result scope kind at (Some local) ≡ Ok behind → AreOf found.method.parameters xs → Sound m scope st → Safe m (Keeps m behind) (call block found.number e xs true st)
kept_result m call s scope behind at block name found local e xs st None is safe names h are fits = cc
kept_result m call s scope behind at block name found local e xs st (Some kind) is safe names h are fits =
    let a = bind_ok (check_new scope local at) _ behind h in
    subst (λ z. Safe m (Keeps m z) (call block found.number e xs true st)) (ok_same (with_value scope local kind) behind a.2) ((safe block name found e xs scope st names are fits).1 kind local is)

-- a call, with its result behind the variables where it is kept
result_safe : (m : Setting) (call : Calling) (s : typing.Setting) (scope behind : Scope) (at block : ℕ) (name : Bytes) (found : MethodAt) (result : Option Bytes) (e : Ref) (xs : List Val) (st : State) → SafeCalls m s call → method_in s block name ≡ Some found → check_result scope found.method.result at result ≡ Ok behind → AreOf found.method.parameters xs → Sound m scope st → Safe m (Keeps m behind) (call block found.number e xs (is_some result) st)
result_safe m call s scope behind at block name found None e xs st safe names h are fits =
    subst (λ z. Safe m (Keeps m z) (call block found.number e xs false st)) (ok_same scope behind h) (safe block name found e xs scope st names are fits).0
result_safe m call s scope behind at block name found (Some local) e xs st safe names h are fits = kept_result m call s scope behind at block name found local e xs st found.method.result refl safe names h are fits

call_good : (m : Setting) (call : Calling) (result : Option Kind) (s : typing.Setting) (scope : Scope) (at : ℕ) (child name : Bytes) (arguments : List Expression) (local : Option Bytes) → SafeCalls m s call → GoodStep m call result scope (on_entities_of s scope at (tree.Call child name arguments local))
call_good m call result s scope at child name arguments local safe = step_then m call result scope (child_named scope child (at + 1)) _ (λ found e. step_then m call result scope (known (at + 3) (method_in s found.block name)) _ (λ called g. step_then m call result scope (arguments_of s scope called.method.parameters (at + 5) arguments) _ (λ terms h.
    step_then m call result scope (tested bad.Count (at + 3) (length arguments == length called.method.parameters)) _ (λ u n. step_then m call result scope (check_result scope called.method.result (at + 7 + tokens_in_arguments arguments) local) _ (λ behind r. step_then m call result scope (not_on_remove s at) _ (λ _ _ st fits.
    goes_on m result behind (does_call m call (record { child = found.place; block = found.block; method = called.number; arguments = terms; keeps = is_some local })) st
    (keep_then m (Keeps m behind) scope (read.child m found.place st) _ (child_safe m scope child (at + 1) found st e fits) (λ entity st fits.
    safe_then m (Given m called.method.parameters scope) (Keeps m behind) (steps.arguments_of m terms st) (λ xs. call found.block called.number entity xs (is_some local))
    (arguments_safe m s scope called.method.parameters (at + 5) arguments terms st h (eqb-true (length arguments) (length called.method.parameters) (tested_true bad.Count (at + 3) (length arguments == length called.method.parameters) u n)) fits)
    (λ xs new q. result_safe m call s scope behind (at + 7 + tokens_in_arguments arguments) found.block name called local entity xs new safe (known_some (at + 3) (method_in s found.block name) called g) r q.0 q.1)))))))))

on_entities_good : (m : Setting) (call : Calling) (result : Option Kind) (s : typing.Setting) (scope : Scope) (at : ℕ) (x : OnEntities) → SafeCalls m s call → GoodStep m call result scope (on_entities_of s scope at x)
on_entities_good m call result s scope at (tree.Create name child priority) safe = create_good m call result s scope at name child priority
on_entities_good m call result s scope at (tree.Remove child) safe = remove_good m call result s scope at child
on_entities_good m call result s scope at (tree.Priority child x) safe = priority_good m call result s scope at child x
on_entities_good m call result s scope at (tree.Call child name arguments local) safe = call_good m call result s scope at child name arguments local safe

-- steps one behind another are safe wherever variables fit
abbrev pub DoesAll : Setting → Calling → Option Kind → Scope → Scope → Steps → Type 0
DoesAll m call result scope behind steps = (st : State) → Sound m scope st → Safe m (Flows m result behind) (act_all m call steps st)

abbrev pub GoodSteps : Setting → Calling → Option Kind → Scope → Checked MadeAll → Type 0
GoodSteps m call result scope (Ok made) = DoesAll m call result scope made.scope made.steps
GoodSteps m call result scope (Err fault) = Unit {0}

all_then : {A : Type 0} (m : Setting) (call : Calling) (result : Option Kind) (scope : Scope) (r : Checked A) (g : A → Checked MadeAll) → ((x : A) → r ≡ Ok x → GoodSteps m call result scope (g x)) → GoodSteps m call result scope (checked.◌>>=◌ r g)
all_then m call result scope (Ok x) g h = h x refl
all_then m call result scope (Err fault) g h = tt

-- a block, behind which its variables are forgotten
block_safe : (m : Setting) (call : Calling) (result : Option Kind) (s : typing.Setting) (scope : Scope) (at : ℕ) (body : Statements) (made : MadeAll) (st : State) → statements_made s scope at body ≡ Ok made → GoodSteps m call result scope (statements_made s scope at body) → Sound m scope st → Safe m (Flows m result scope) (scoped (act_all m call made.steps) st)
block_safe m call result s scope at body made st e h fits =
    let grown : Longer scope made.scope = subst (AllGrow scope) e (statements_grow s scope at body) in
    let good : DoesAll m call result scope made.scope made.steps = subst (GoodSteps m call result scope) e h in
    scoped_safe m result scope made.scope grown.0 (act_all m call made.steps) st grown.1 fits (good st fits)

nothing_safe : (m : Setting) (call : Calling) (result : Option Kind) (scope : Scope) (st : State) → Sound m scope st → Safe m (Flows m result scope) (scoped (act_all m call p.Nothing) st)
nothing_safe m call result scope st fits = scoped_safe m result scope scope [] (act_all m call p.Nothing) st (sym (append-nil scope)) fits fits

-- a loop with its variable
loop_safe : (m : Setting) (call : Calling) (result : Option Kind) (s : typing.Setting) (scope : Scope) (local : expected.Variable) (range : Range) (at : ℕ) (body : Statements) (made : MadeAll) (st : State) → Safe m (Goes m local.holds scope) (items m range st) → statements_made s (scope ++ local ∷ []) at body ≡ Ok made → GoodSteps m call result (scope ++ local ∷ []) (statements_made s (scope ++ local ∷ []) at body) → Safe m (Flows m result scope) (act m call (p.For range made.steps) st)
loop_safe m call result s scope local range at body made st over e h =
    let grown : Longer (scope ++ local ∷ []) made.scope = subst (AllGrow (scope ++ local ∷ [])) e (statements_grow s (scope ++ local ∷ []) at body) in
    let good : DoesAll m call result (scope ++ local ∷ []) made.scope made.steps = subst (GoodSteps m call result (scope ++ local ∷ [])) e h in
    safe_then m (Goes m local.holds scope) (Flows m result scope) (items m range st) (λ xs. walk xs (act_all m call made.steps)) over
    (λ xs new r. walk_safe m result scope made.scope grown.0 local xs (act_all m call made.steps) new grown.1 r.0 (λ s kept. good s kept) r.1)

-- a loop over children
children_safe : (m : Setting) (call : Calling) (s : typing.Setting) (scope : Scope) (name relation : Bytes) (before : ℕ) (loop : Loop) → loop_of s scope name before (over.Children relation) ≡ Ok loop → (at : ℕ) (body : Statements) (inner : MadeAll) (st : State) → statements_made s loop.scope at body ≡ Ok inner → GoodSteps m call (result_in s.role) loop.scope (statements_made s loop.scope at body) → Sound m scope st → Safe m (Flows m (result_in s.role) scope) (act m call (p.For loop.range inner.steps) st)
children_safe m call s scope name relation before loop l at body inner st e h fits =
    let a = bind_ok (known before (relation_named relation s.block)) _ loop l in
    let local : expected.Variable = record { name = name; holds = expected.Child a.0.block } in
    let is : (let one : Loop = record { scope = scope ++ local ∷ []; range = range.Children (symbol_of s.codes relation) } in one) ≡ loop = ok_same _ loop a.2 in
    let same : loop.scope ≡ scope ++ local ∷ [] = ap (λ o. o.scope) (sym is) in
    subst (λ z. Safe m (Flows m (result_in s.role) scope) (act m call (p.For z inner.steps) st)) (ap (λ o. o.range) is)
    (loop_safe m call (result_in s.role) s scope local (range.Children (symbol_of s.codes relation)) at body inner st (over_children_safe m scope (symbol_of s.codes relation) a.0.block st fits)
    (subst (λ z. statements_made s z at body ≡ Ok inner) same e) (subst (λ z. GoodSteps m call (result_in s.role) z (statements_made s z at body)) same h))

usage_safe : (m : Setting) (result : Option Kind) (scope : Scope) (name : Bytes) (n : ℤ) (st : State) → Sound m scope st → Safe m (Flows m result scope) (next (effect (ef.Usage m.me name n)) st)
usage_safe m result scope name n st fits = goes_on m result scope (effect (ef.Usage m.me name n)) st (effect_safe m (ef.Usage m.me name n) scope st fits)

-- a step that adds no variable
said : (m : Setting) (call : Calling) (result : Option Kind) (scope : Scope) (r : Checked Step) → GoodVerb m call result scope r → GoodStep m call result scope (checked.◌>>=◌ r (λ step. Ok (record { scope = scope; step = step })))
said m call result scope (Ok step) h = h
said m call result scope (Err fault) h = tt

mutual
  pub statement_good : (m : Setting) (call : Calling) (s : typing.Setting) → SafeCalls m s call → (scope : Scope) (at : ℕ) (x : Statement) → GoodStep m call (result_in s.role) scope (statement_made s scope at x)
  statement_good m call s safe scope at (tree.Assign x) = assigning_good m call (result_in s.role) s scope at x
  statement_good m call s safe scope at (tree.Entity x) = on_entities_good m call (result_in s.role) s scope at x safe
  statement_good m call s safe scope at (tree.Activity x) = on_activities_good m call (result_in s.role) s scope at x
  statement_good m call s safe scope at (tree.Timer x) = timer_good m call (result_in s.role) s scope at x
  statement_good m call s safe scope at (tree.Do verb x) = said m call (result_in s.role) scope (verb_of s scope at verb x) (verb_good m call s scope at verb x)
  statement_good m call s safe scope at (tree.Usage name x) = step_then m call (result_in s.role) scope (asked_of s scope k.Int (at + 2) x) _ (λ term e. step_then m call (result_in s.role) scope (not_on_remove s at) _ (λ _ _ st fits.
      keep_then m (Flows m (result_in s.role) scope) scope (doing.int_of m term st) _ (int_safe m scope term st (asked_yields m s scope k.Int (at + 2) x term e) fits) (λ n st fits. usage_safe m (result_in s.role) scope (s.block.key ++ codes "." ++ name) n st fits)))
  statement_good m call s safe scope at tree.Rollback = step_then m call (result_in s.role) scope (not_on_remove s at) _ (λ _ _ st fits. fits)
  statement_good m call s safe scope at (tree.If x body) = step_then m call (result_in s.role) scope (asked_of s scope k.Bool (at + 1) x) _ (λ term e. step_then m call (result_in s.role) scope (statements_made s scope (at + 2 + tokens_in x) body) _ (λ inner g st fits.
      safe_then m (Is m k.Bool scope) (Flows m (result_in s.role) scope) (eval m term st) (λ y. choose y (scoped (act_all m call inner.steps)) (scoped (act_all m call p.Nothing))) (eval_safe m scope k.Bool term st (asked_yields m s scope k.Bool (at + 1) x term e) fits)
      (λ y new r. choose_safe m (Flows m (result_in s.role) scope) y _ _ new r.0 (block_safe m call (result_in s.role) s scope (at + 2 + tokens_in x) body inner new g (statements_good m call s safe scope (at + 2 + tokens_in x) body) r.1) (nothing_safe m call (result_in s.role) scope new r.1))))
  statement_good m call s safe scope at (tree.IfElse x body other) = step_then m call (result_in s.role) scope (asked_of s scope k.Bool (at + 1) x) _ (λ term e. step_then m call (result_in s.role) scope (statements_made s scope (at + 2 + tokens_in x) body) _ (λ inner g.
      step_then m call (result_in s.role) scope (statements_made s scope (at + 5 + tokens_in x + tokens_in_statements body) other) _ (λ second h st fits.
      safe_then m (Is m k.Bool scope) (Flows m (result_in s.role) scope) (eval m term st) (λ y. choose y (scoped (act_all m call inner.steps)) (scoped (act_all m call second.steps))) (eval_safe m scope k.Bool term st (asked_yields m s scope k.Bool (at + 1) x term e) fits)
      (λ y new r. choose_safe m (Flows m (result_in s.role) scope) y _ _ new r.0 (block_safe m call (result_in s.role) s scope (at + 2 + tokens_in x) body inner new g (statements_good m call s safe scope (at + 2 + tokens_in x) body) r.1)
      (block_safe m call (result_in s.role) s scope (at + 5 + tokens_in x + tokens_in_statements body) other second new h (statements_good m call s safe scope (at + 5 + tokens_in x + tokens_in_statements body) other) r.1)))))
  statement_good m call s safe scope at (tree.While x body) = step_then m call (result_in s.role) scope (asked_of s scope k.Bool (at + 1) x) _ (λ term e. step_then m call (result_in s.role) scope (statements_made s scope (at + 2 + tokens_in x) body) _ (λ inner g st fits.
      turns_safe m (result_in s.role) scope (st.left + 1) (eval m term) (scoped (act_all m call inner.steps)) st (λ new kept. eval_safe m scope k.Bool term new (asked_yields m s scope k.Bool (at + 1) x term e) kept)
      (λ new kept. block_safe m call (result_in s.role) s scope (at + 2 + tokens_in x) body inner new g (statements_good m call s safe scope (at + 2 + tokens_in x) body) kept) fits))
  statement_good m call s safe scope at (tree.For name over.Activities body) = step_then m call (result_in s.role) scope (check_new scope name (at + 1)) _ (λ _ _. step_then m call (result_in s.role) scope (statements_made s (with_value scope name k.Activity) (at + 5) body) _ (λ inner g. step_then m call (result_in s.role) scope (not_on_remove s at) _ (λ _ _ st fits.
      loop_safe m call (result_in s.role) s scope (record { name = name; holds = expected.Value k.Activity }) range.Activities (at + 5) body inner st (over_activities_safe m scope st fits) g (statements_good m call s safe (with_value scope name k.Activity) (at + 5) body))))
  statement_good m call s safe scope at (tree.For name (over.Children relation) body) = step_then m call (result_in s.role) scope (check_new scope name (at + 1)) _ (λ _ _. step_then m call (result_in s.role) scope (loop_of s scope name (at + 3) (over.Children relation)) _ (λ loop l.
      step_then m call (result_in s.role) scope (statements_made s loop.scope (at + 5) body) _ (λ inner g. step_then m call (result_in s.role) scope (not_on_remove s at) _ (λ _ _ st fits.
      children_safe m call s scope name relation (at + 3) loop l (at + 5) body inner st g (statements_good m call s safe loop.scope (at + 5) body) fits))))

  pub statements_good : (m : Setting) (call : Calling) (s : typing.Setting) → SafeCalls m s call → (scope : Scope) (at : ℕ) (body : Statements) → GoodSteps m call (result_in s.role) scope (statements_made s scope at body)
  statements_good m call s safe scope at tree.Nothing = λ st fits. fits
  statements_good m call s safe scope at (tree.Then x more) = all_then m call (result_in s.role) scope (statement_made s scope at x) _ (λ one e. all_then m call (result_in s.role) scope (statements_made s one.scope (at + tokens_in_statement x) more) _ (λ others g st fits.
      let first : Does m call (result_in s.role) scope one.scope one.step = subst (GoodStep m call (result_in s.role) scope) e (statement_good m call s safe scope at x) in
      let rest : DoesAll m call (result_in s.role) one.scope others.scope others.steps = subst (GoodSteps m call (result_in s.role) one.scope) g (statements_good m call s safe one.scope (at + tokens_in_statement x) more) in
      safe_then m (Flows m (result_in s.role) one.scope) (Flows m (result_in s.role) others.scope) (ticked (act m call one.step) st) (λ flow. followed flow (act_all m call others.steps))
      (safe_tick m (Flows m (result_in s.role) one.scope) (act m call one.step) st fits.1 (λ left. first (record st { left = left }) fits))
      (λ flow new r. followed_safe m (result_in s.role) one.scope others.scope flow (act_all m call others.steps) new r (λ kept. rest new kept))))
