-- What plain steps do: their terms, the effect, and new variables.
use Rattle.std.proofs.Common.{◌<◌, ◌≡◌, true, false, Bool, ℕ, zero, suc, List, [], ◌∷◌, ◌++◌, length, take, Some, Ok, refl, ap, ◌∙◌, subst}
use Rattle.std.specs.Prelude.{nat_lt, nat_le, cond, slice_get, slice_set}
use Rattle.std.proofs.lemmas.Option.{slice_get_within}
use native.Mathlib.Omega.{arith}
use Rattle.std.proofs.lemmas.Bool.{lt-ltb, ltb-true, leb-true}
use Rattle.std.proofs.lemmas.List.{length-append}
use Rattle.slee_value.specs.declared.kind.Kind.{Kind}
use Rattle.slee_value.specs.declared.kind.Kind.TheVariants as k
use Rattle.slee_effect.specs.declared.effect.Effect.{Effect}
use Rattle.slee_effect.specs.declared.value.Val.{Val}
use Rattle.script_tree.specs.Tree.{Bytes, Expression}
use Rattle.script_types.specs.declared.misuse.CheckBad.TheVariants as bad
use Rattle.script_types.specs.TypingResult.{tested}
use Rattle.script_types.specs.TypingExpressions.{serves}
use Rattle.script_types.specs.TypingExpressions as typing
use Rattle.script_types.specs.Scopes.{Scope, Holding}
use Rattle.script_types.specs.Scopes as expected
use Rattle.script_types.specs.Elaboration.{Typed, ValueAt, as_kind, value_named, expression_of, asked_of}
use Rattle.script_types.specs.Program.{Term}
use Rattle.script_meaning.specs.declared.outcome.FailKind.TheVariants as f
use Rattle.script_meaning.specs.Answers.{is_of}
use Rattle.script_meaning.specs.Running.{Setting, Variable, Holds, State, Ending, Gave, Stays, Run, then_run, give, break, effect, effect_limit, effect_bytes_limit, bytes_of, declare, assign}
use Rattle.script_meaning.specs.Values.{with_int, with_text, with_activity, with_timer}
use Rattle.script_meaning.specs.Terms.{eval}
use Rattle.script_meaning.specs.Doing.{int_of, text_of, activity_of, timer_of, asked_rank}
use Rattle.script_laws.specs.Fitting.{is_as_expected, Fits, Safe, Is, Keeps, Sound}
use Rattle.script_laws.proofs.SafeRuns.{safe_then, safe_tested, bind_ok, ok_same, tested_true, with_int_safe, with_text_safe, with_activity_safe, with_timer_safe}
use Rattle.script_laws.proofs.SafePlaces.{place_fits, value_place}
use Rattle.script_laws.proofs.SafeExpressions.{Yields, served, eval_safe}
use Rattle.script_laws.proofs.SafeChecked.{expression_good, good_is}

-- one part of a run behind another that leaves the variables
pub keep_then : {A B : Type 0} (given : Setting) (Q : B → State → Type 0) (scope : Scope) (m : Ending A) (g : A → Run B) → Safe given (Keeps given scope) m → ((x : A) (st : State) → Sound given scope st → Safe given Q (g x st)) → Safe given Q (then_run m g)
keep_then given Q scope m g h go = safe_then given (Keeps given scope) Q m g h go

pub expression_yields : (m : Setting) (s : typing.Setting) (scope : Scope) (at : ℕ) (x : Expression) (one : Typed) → expression_of s scope at x ≡ Ok one → Yields m scope one.kind one.term
expression_yields m s scope at x one e = good_is m s scope at x one e (expression_good m s scope at x)

pub asked_yields : (m : Setting) (s : typing.Setting) (scope : Scope) (kind : Kind) (at : ℕ) (x : Expression) (term : Term) → asked_of s scope kind at x ≡ Ok term → Yields m scope kind term
asked_yields m s scope kind at x term e =
    let a = bind_ok (expression_of s scope at x) _ term e in
    let b = bind_ok (tested bad.Mismatch at (serves x a.0.kind kind)) _ term a.2 in
    subst (Yields m scope kind) (ok_same (as_kind kind x a.0.term) term b.2)
    (served m s scope at x a.0 kind a.1 (expression_yields m s scope at x a.0 a.1) (tested_true bad.Mismatch at (serves x a.0.kind kind) b.0 b.1))

-- terms of a known type
pub int_safe : (m : Setting) (scope : Scope) (term : Term) (st : State) → Yields m scope k.Int term → Sound m scope st → Safe m (Keeps m scope) (int_of m term st)
int_safe m scope term st h fits = safe_then m (Is m k.Int scope) (Keeps m scope) (eval m term st) (λ x. with_int x give) (eval_safe m scope k.Int term st h fits) (λ x new r. with_int_safe m (Keeps m scope) x give new r.0 (λ n. r.1))

pub text_safe : (m : Setting) (scope : Scope) (term : Term) (st : State) → Yields m scope k.Text term → Sound m scope st → Safe m (Keeps m scope) (text_of m term st)
text_safe m scope term st h fits = safe_then m (Is m k.Text scope) (Keeps m scope) (eval m term st) (λ x. with_text x give) (eval_safe m scope k.Text term st h fits) (λ x new r. with_text_safe m (Keeps m scope) x give new r.0 (λ n. r.1))

pub activity_safe : (m : Setting) (scope : Scope) (term : Term) (st : State) → Yields m scope k.Activity term → Sound m scope st → Safe m (Keeps m scope) (activity_of m term st)
activity_safe m scope term st h fits = safe_then m (Is m k.Activity scope) (Keeps m scope) (eval m term st) (λ x. with_activity x give) (eval_safe m scope k.Activity term st h fits) (λ x new r. with_activity_safe m (Keeps m scope) x give new r.0 (λ n. r.1))

pub timer_safe : (m : Setting) (scope : Scope) (term : Term) (st : State) → Yields m scope k.Timer term → Sound m scope st → Safe m (Keeps m scope) (timer_of m term st)
timer_safe m scope term st h fits = safe_then m (Is m k.Timer scope) (Keeps m scope) (eval m term st) (λ x. with_timer x give) (eval_safe m scope k.Timer term st h fits) (λ x new r. with_timer_safe m (Keeps m scope) x give new r.0 (λ n. r.1))

pub rank_safe : (m : Setting) (scope : Scope) (term : Term) (st : State) → Yields m scope k.Int term → Sound m scope st → Safe m (Keeps m scope) (asked_rank m term st)
rank_safe m scope term st h fits = keep_then m (Keeps m scope) scope (int_of m term st) _ (int_safe m scope term st h fits) (λ n new kept. safe_tested m (Keeps m scope) f.Range _ (give n) new kept.1 kept)

bytes_fit : (given : Setting) (e : Effect) (scope : Scope) (st : State) (b : Bool) → nat_le (bytes_of (st.effects ++ e ∷ [])) effect_bytes_limit ≡ b → length st.effects < effect_limit → Sound given scope st →
    (let new : Ending (Unit {0}) = Gave tt (record st { effects = st.effects ++ e ∷ [] }) in
    let full : Ending (Unit {0}) = break f.TooMuch st in
    Safe given (Keeps given scope) (cond b new full))
bytes_fit given e scope st true h room fits = (fits.0, (omega (arith, length-append st.effects (e ∷ []), room), leb-true (bytes_of (st.effects ++ e ∷ [])) effect_bytes_limit h, fits.1.2))
bytes_fit given e scope st false h room fits = fits.1

effect_fits : (given : Setting) (e : Effect) (scope : Scope) (st : State) (b : Bool) → nat_lt (length st.effects) effect_limit ≡ b → Sound given scope st →
    (let new : Ending (Unit {0}) = Gave tt (record st { effects = st.effects ++ e ∷ [] }) in
    let full : Ending (Unit {0}) = break f.TooMuch st in
    Safe given (Keeps given scope) (cond b (cond (nat_le (bytes_of (st.effects ++ e ∷ [])) effect_bytes_limit) new full) full))
effect_fits given e scope st true h fits = bytes_fit given e scope st (nat_le (bytes_of (st.effects ++ e ∷ [])) effect_bytes_limit) refl (ltb-true (length st.effects) effect_limit h) fits
effect_fits given e scope st false h fits = fits.1

pub effect_safe : (given : Setting) (e : Effect) (scope : Scope) (st : State) → Sound given scope st → Safe given (Keeps given scope) (effect e st)
unfolding effect
effect_safe given e scope st fits = effect_fits given e scope st (nat_lt (length st.effects) effect_limit) refl fits

-- a new variable that is what the check expects of it
pub fits_behind : (scope : Scope) (variables : List Variable) (local : expected.Variable) (x : Variable) → Fits scope variables → is_as_expected local.holds x ≡ true → Fits (scope ++ local ∷ []) (variables ++ x ∷ [])
fits_behind [] [] local x fits h = (h, tt)
fits_behind [] (y ∷ variables) local x fits h = absurd fits
fits_behind (one ∷ scope) [] local x fits h = absurd fits
fits_behind (one ∷ scope) (y ∷ variables) local x fits h = (fits.0, fits_behind scope variables local x fits.1 h)

pub declare_safe : (given : Setting) (scope : Scope) (local : expected.Variable) (x : Variable) (st : State) → is_as_expected local.holds x ≡ true → Sound given scope st → Safe given (Keeps given (scope ++ local ∷ [])) (declare x st)
declare_safe given scope local x st h fits = (fits_behind scope st.variables local x fits.0 h, fits.1)

pub fits_length : (scope : Scope) (variables : List Variable) → Fits scope variables → length variables ≡ length scope
fits_length [] [] fits = refl
fits_length [] (y ∷ variables) fits = absurd fits
fits_length (one ∷ scope) [] fits = absurd fits
fits_length (one ∷ scope) (y ∷ variables) fits = ap suc (fits_length scope variables fits.1)

-- behind a block the variables before it fit as they did
pub fits_before : (scope more : Scope) (variables : List Variable) → Fits (scope ++ more) variables → Fits scope (take (length scope) variables)
fits_before [] more variables fits = tt
fits_before (one ∷ scope) more [] fits = absurd fits
fits_before (one ∷ scope) more (y ∷ variables) fits = (fits.0, fits_before scope more variables fits.1)

head_is : (one local : expected.Variable) → Some one ≡ Some local → one ≡ local
head_is one local e = cc

-- a variable that gets another value of its type
fits_set : (scope : Scope) (variables : List Variable) (i : ℕ) (local : expected.Variable) (x : Variable) → Fits scope variables → slice_get scope i ≡ Some local → is_as_expected local.holds x ≡ true → Fits scope (slice_set variables i x)
fits_set [] [] i local x fits e h = cc
fits_set [] (y ∷ variables) i local x fits e h = absurd fits
fits_set (one ∷ scope) [] i local x fits e h = absurd fits
fits_set (one ∷ scope) (y ∷ variables) zero local x fits e h = (ap (λ l. is_as_expected l.holds x) (head_is one local e) ∙ h, fits.1)
fits_set (one ∷ scope) (y ∷ variables) (suc i) local x fits e h = (fits.0, fits_set scope variables i local x fits.1 e h)

assign_by : (given : Setting) (b : Bool) (scope : Scope) (good : Ending (Unit {0})) → b ≡ true → Safe given (Keeps given scope) good → (let bad : Ending (Unit {0}) = Stays in Safe given (Keeps given scope) (cond b good bad))
assign_by given true scope good e h = h
assign_by given false scope good e h = cc

pub assign_safe : (given : Setting) (scope : Scope) (name : Bytes) (at : ℕ) (x : ValueAt) (y : Val) (st : State) → value_named scope name at ≡ Ok x → is_of x.kind y ≡ true → Sound given scope st → Safe given (Keeps given scope) (assign x.place y st)
assign_safe given scope name at x y st e h fits =
    let p = value_place scope name at x e in
    let q = place_fits scope st.variables x.place p.0 fits.0 p.1 in
    assign_by given (nat_lt x.place (length st.variables)) scope (Gave tt (record st { variables = slice_set st.variables x.place (Holds y) })) (lt-ltb x.place (length st.variables) (slice_get_within st.variables x.place q.0 q.1))
    (fits_set scope st.variables x.place p.0 (Holds y) fits.0 p.1 (ap (λ w. is_as_expected w (Holds y)) p.2 ∙ h), fits.1)
