-- Blocks, loops and calls.
use Rattle.std.proofs.Common.{◌≡◌, ◌+◌, true, false, Bool, ℕ, zero, suc, List, [], ◌∷◌, ◌++◌, length, take, map, Option, Some, Ok, refl, sym, ◌∙◌, subst, append_assoc}
use native.Mathlib.Omega.{arith}
use Rattle.slee_value.specs.declared.kind.Kind.{Kind}
use Rattle.slee_value.specs.declared.kind.Kind.TheVariants as k
use Rattle.slee_effect.specs.declared.reference.Ref.{Ref}
use Rattle.slee_effect.specs.declared.value.Val.{Val}
use Rattle.script_tree.specs.Tree.{Bytes, Expression}
use Rattle.script_types.specs.declared.symbol.Symbol.{Symbol}
use Rattle.script_types.specs.declared.misuse.CheckBad.TheVariants as bad
use Rattle.script_types.specs.declared.codes.FieldCode.{FieldCode}
use Rattle.script_types.specs.declared.step.Range.TheVariants as range
use Rattle.script_types.specs.TypingResult.{tested}
use Rattle.script_types.specs.TypingExpressions as typing
use Rattle.script_types.specs.TypingStatements.{argument_fits}
use Rattle.script_types.specs.TokenCounts.{tokens_in}
use Rattle.script_types.specs.Scopes.{Scope, Holding}
use Rattle.script_types.specs.Scopes as expected
use Rattle.script_types.specs.Elaboration.{expression_of}
use Rattle.script_types.specs.ElaborationOfStatements.{arguments_of, argument_of}
use Rattle.script_types.specs.Program.{Term}
use Rattle.script_meaning.specs.Answers.{is_of}
use Rattle.script_meaning.specs.Running.{Setting, Variable, Holds, Child, State, Gave, Run, then_run, give, declare, scoped}
use Rattle.script_meaning.specs.Values.{activity_value}
use Rattle.script_meaning.specs.Observing as read
use Rattle.script_meaning.specs.Terms.{eval}
use Rattle.script_meaning.specs.Steps.{Flow, Next, Returned, followed, choose, either, turns, walk, items}
use Rattle.script_meaning.specs.Steps as steps
use Rattle.script_laws.specs.Fitting.{is_as_expected, Fits, Safe, Is, Keeps, Flows, AreOf, Sound}
use Rattle.script_laws.proofs.SafeRuns.{safe_then, bind_ok, ok_same, tested_true, with_flag_safe}
use Rattle.script_laws.proofs.SafeObserved.{activities_safe, children_safe}
use Rattle.script_laws.proofs.SafeOperators.{activity_is}
use Rattle.script_laws.proofs.SafeExpressions.{served, eval_safe}
use Rattle.script_laws.proofs.SafeDoing.{keep_then, expression_yields, declare_safe, fits_length, fits_before}

pub followed_safe : (given : Setting) (result : Option Kind) (before behind : Scope) (flow : Flow) (m : Run Flow) (st : State) → Flows given result before flow st → (Sound given before st → Safe given (Flows given result behind) (m st)) → Safe given (Flows given result behind) (followed flow m st)
followed_safe given result before behind Next m st h go = go h
followed_safe given result before behind (Returned x) m st h go = h

either_safe : (given : Setting) (Q : Flow → State → Type 0) (b : Bool) (m n : Run Flow) (st : State) → Safe given Q (m st) → Safe given Q (n st) → Safe given Q (either b m n st)
either_safe given Q true m n st g h = g
either_safe given Q false m n st g h = h

pub choose_safe : (given : Setting) (Q : Flow → State → Type 0) (x : Val) (m n : Run Flow) (st : State) → is_of k.Bool x ≡ true → Safe given Q (m st) → Safe given Q (n st) → Safe given Q (choose x m n st)
choose_safe given Q x m n st h g j = with_flag_safe given Q x (λ b. either b m n) st h (λ b. either_safe given Q b m n st g j)

pub turns_safe : (given : Setting) (result : Option Kind) (scope : Scope) (n : ℕ) (test : Run Val) (body : Run Flow) (st : State) → ((s : State) → Sound given scope s → Safe given (Is given k.Bool scope) (test s)) → ((s : State) → Sound given scope s → Safe given (Flows given result scope) (body s)) → Sound given scope st → Safe given (Flows given result scope) (turns n test body st)
turns_safe given result scope zero test body st ht hb fits = fits.1
turns_safe given result scope (suc n) test body st ht hb fits =
    let rest : Flow → Run Flow = λ flow. followed flow (turns n test body) in
    let go : Run Flow = λ st. then_run (body st) rest in
    safe_then given (Is given k.Bool scope) (Flows given result scope) (test st) (λ x. choose x go (give Next)) (ht st fits)
    (λ x s r. choose_safe given (Flows given result scope) x go (give Next) s r.0
    (safe_then given (Flows given result scope) (Flows given result scope) (body s) rest (hb s r.1) (λ flow t h. followed_safe given result scope scope flow (turns n test body) t h (λ kept. turns_safe given result scope n test body t ht hb kept))) r.1)

cut : (given : Setting) (result : Option Kind) (scope more : Scope) (flow : Flow) (st new : State) → Sound given scope st → Flows given result (scope ++ more) flow new → Flows given result scope flow (record new { variables = take (length st.variables) new.variables })
cut given result scope more (Returned x) st new fits h = h
cut given result scope more Next st new fits h = (subst (λ n. Fits scope (take n new.variables)) (sym (fits_length scope st.variables fits.0)) (fits_before scope more new.variables h.0), h.1)

-- behind a block the variables before it fit as they did
pub scoped_safe : (given : Setting) (result : Option Kind) (scope inner more : Scope) (m : Run Flow) (st : State) → inner ≡ scope ++ more → Sound given scope st → Safe given (Flows given result inner) (m st) → Safe given (Flows given result scope) (scoped m st)
scoped_safe given result scope inner more m st e fits h =
    safe_then given (Flows given result inner) (Flows given result scope) (m st) (λ flow new. Gave flow (record new { variables = take (length st.variables) new.variables })) h
    (λ flow new r. cut given result scope more flow st new fits (subst (λ z. Flows given result z flow new) e r))

-- each of them is what is expected
abbrev pub AllAre : Holding → List Variable → Type 0
AllAre holds [] = Unit {0}
AllAre holds (x ∷ xs) = (is_as_expected holds x ≡ true) × AllAre holds xs

pub walk_safe : (given : Setting) (result : Option Kind) (scope inner more : Scope) (local : expected.Variable) (xs : List Variable) (body : Run Flow) (st : State) → inner ≡ (scope ++ local ∷ []) ++ more → AllAre local.holds xs → ((s : State) → Sound given (scope ++ local ∷ []) s → Safe given (Flows given result inner) (body s)) → Sound given scope st → Safe given (Flows given result scope) (walk xs body st)
walk_safe given result scope inner more local [] body st e are h fits = fits
walk_safe given result scope inner more local (x ∷ xs) body st e are h fits =
    let turn : Run Flow = λ st. then_run (declare x st) (λ _. body) in
    safe_then given (Flows given result scope) (Flows given result scope) (scoped turn st) (λ flow. followed flow (walk xs body))
    (scoped_safe given result scope inner ((local ∷ []) ++ more) turn st (e ∙ append_assoc scope (local ∷ []) more) fits
    (safe_then given (Keeps given (scope ++ local ∷ [])) (Flows given result inner) (declare x st) (λ _. body) (declare_safe given scope local x st are.0 fits) (λ _ new kept. h new kept)))
    (λ flow new r. followed_safe given result scope scope flow (walk xs body) new r (λ kept. walk_safe given result scope inner more local xs body new e are.1 h kept))

activities_are : (refs : List Ref) → AllAre (expected.Value k.Activity) (map (λ r. Holds (activity_value r)) refs)
activities_are [] = tt
activities_are (r ∷ refs) = (activity_is r, activities_are refs)

children_are : (block : ℕ) (refs : List Ref) → AllAre (expected.Child block) (map Child refs)
children_are block [] = tt
children_are block (r ∷ refs) = (refl, children_are block refs)

-- what a loop goes over
abbrev pub Goes : Setting → Holding → Scope → List Variable → State → Type 0
Goes m holds scope xs st = AllAre holds xs × Sound m scope st

pub over_activities_safe : (m : Setting) (scope : Scope) (st : State) → Sound m scope st → Safe m (Goes m (expected.Value k.Activity) scope) (items m range.Activities st)
over_activities_safe m scope st fits = keep_then m (Goes m (expected.Value k.Activity) scope) scope (read.activities m st) _ (activities_safe m scope st fits) (λ refs new kept. (activities_are refs, kept))

pub over_children_safe : (m : Setting) (scope : Scope) (relation : Symbol Bytes) (block : ℕ) (st : State) → Sound m scope st → Safe m (Goes m (expected.Child block) scope) (items m (range.Children relation) st)
over_children_safe m scope relation block st fits = keep_then m (Goes m (expected.Child block) scope) scope (read.children m relation.name st) _ (children_safe m relation.name scope st fits) (λ refs new kept. (children_are block refs, kept))

-- arguments of the types of the parameters, with variables that fit
abbrev pub Given : Setting → List FieldCode → Scope → List Val → State → Type 0
Given m parameters scope xs st = AreOf parameters xs × Sound m scope st

length_rest : {A B : Type 0} (x : A) (y : B) (xs : List A) (ys : List B) → length (x ∷ xs) ≡ length (y ∷ ys) → length xs ≡ length ys
length_rest x y xs ys h = omega (arith, h)

pub arguments_safe : (m : Setting) (s : typing.Setting) (scope : Scope) (parameters : List FieldCode) (at : ℕ) (xs : List Expression) (terms : List Term) (st : State) → arguments_of s scope parameters at xs ≡ Ok terms → length xs ≡ length parameters → Sound m scope st → Safe m (Given m parameters scope) (steps.arguments_of m terms st)
arguments_safe m s scope [] at [] terms st e n fits = subst (λ z. Safe m (Given m [] scope) (steps.arguments_of m z st)) (ok_same _ terms e) (tt, fits)
arguments_safe m s scope (p ∷ ps) at [] terms st e n fits = cc
arguments_safe m s scope [] at (x ∷ xs) terms st e n fits = cc
arguments_safe m s scope (p ∷ ps) at (x ∷ xs) terms st e n fits =
    let a = bind_ok (expression_of s scope at x) _ terms e in
    let b = bind_ok (tested bad.Mismatch at (argument_fits (Some p) x a.0.kind)) _ terms a.2 in
    let c = bind_ok (arguments_of s scope ps (at + tokens_in x + 1) xs) _ terms b.2 in
    let term : Term = argument_of (Some p) x a.0.term in
    subst (λ z. Safe m (Given m (p ∷ ps) scope) (steps.arguments_of m z st)) (ok_same (term ∷ c.0) terms c.2)
    (safe_then m (Is m p.kind scope) (Given m (p ∷ ps) scope) (eval m term st) (λ y st. then_run (steps.arguments_of m c.0 st) (λ ys. give (y ∷ ys)))
    (eval_safe m scope p.kind term st (served m s scope at x a.0 p.kind a.1 (expression_yields m s scope at x a.0 a.1) (tested_true bad.Mismatch at (argument_fits (Some p) x a.0.kind) b.0 b.1)) fits)
    (λ y new r. safe_then m (Given m ps scope) (Given m (p ∷ ps) scope) (steps.arguments_of m c.0 new) (λ ys. give (y ∷ ys)) (arguments_safe m s scope ps (at + tokens_in x + 1) xs c.0 new c.1 (length_rest x p xs ps n) r.1)
    (λ ys newer q. ((r.0, q.0), q.1))))
