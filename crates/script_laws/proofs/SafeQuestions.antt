-- What is asked of a value of the right type.
use Rattle.std.proofs.Common.{◌≡◌, true, false, Bool, ℕ, List, Option, Some, None, Ok, refl, sym, ap, ◌∙◌, subst, ◌⊎◌, inl, inr}
use Rattle.std.specs.Prelude.{neg_ℤ, ◌||◌, cond, is_some}
use Rattle.std.specs.List.{list_any}
use Rattle.slee_value.specs.declared.kind.Kind.{Kind}
use Rattle.slee_value.specs.declared.kind.Kind.TheVariants as k
use Rattle.slee_value.specs.declared.value.Value.{Value}
use Rattle.slee_effect.specs.declared.reference.Ref.{Ref}
use Rattle.slee_effect.specs.declared.value.Val.{Val}
use Rattle.script_tree.specs.declared.symbol.Function.{Function}
use Rattle.script_tree.specs.declared.symbol.Function.TheVariants as f
use Rattle.script_tree.specs.declared.tree.Query.{Query}
use Rattle.script_tree.specs.declared.tree.Query.TheVariants as q
use Rattle.script_tree.specs.Tree.{Expression}
use Rattle.script_types.specs.declared.term.Question.{Question}
use Rattle.script_types.specs.declared.term.Question.TheVariants as g
use Rattle.script_types.specs.Codes.{row_kind}
use Rattle.script_types.specs.TypingResult.{known}
use Rattle.script_types.specs.TypingExpressions.{same_kind, is_nothing, serves, query_takes, function_takes}
use Rattle.script_types.specs.TypingExpressions as typing
use Rattle.script_types.specs.Scopes.{Scope}
use Rattle.script_types.specs.Elaboration.{Asking, asking_of, operand_kind, question_of, attribute_named}
use Rattle.script_types.specs.Program.{Term, Ask}
use Rattle.script_meaning.specs.declared.key.Key.TheVariants as keys
use Rattle.script_meaning.specs.declared.outcome.FailKind.TheVariants as fail
use Rattle.script_meaning.specs.Answers.{is_of, row_in}
use Rattle.script_meaning.specs.Running.{Setting, State, Run, then_run, give, break, ticked, look}
use Rattle.script_meaning.specs.Observing as read
use Rattle.script_meaning.specs.Values.{flag}
use Rattle.script_meaning.specs.Terms.{is_active, is_masked, looked_up, in_row, of_row, row, ask, node}
use Rattle.script_laws.specs.Fitting.{Safe, Is, Keeps, Sound}
use Rattle.script_laws.proofs.SafeRuns.{safe_then, bind_ok, ok_same, with_int_safe, with_text_safe, with_flag_safe, with_activity_safe, with_timer_safe}
use Rattle.script_laws.proofs.SafeObserved.{look_safe, attribute_safe, state_safe, used_safe, attached_safe, masks_safe, named_safe, timer_safe}
use Rattle.script_laws.proofs.SafeOperators.{number_safe, text_of_int_safe, text_of_bool_safe, activity_is}
use Rattle.script_laws.proofs.SafeExpressions.{Yields, eval_safe, plainly_serves, or_false}
use Rattle.script_laws.proofs.SafeComposed.{like_serves, either_true}

-- the type of the value that a question is asked of, and of its answer
abbrev pub asks : Question → Kind
asks g.Negative = k.Int
asks g.Not = k.Bool
asks g.TextOfInt = k.Int
asks g.TextOfBool = k.Bool
asks g.Len = k.Text
asks g.Active = k.Activity
asks g.Attached = k.Activity
asks (g.Masked event) = k.Activity
asks (g.Attribute key kind) = k.Activity
asks g.Bound = k.Text
asks g.Lookup = k.Text
asks (g.Profile table name kind) = k.Text
asks (g.HasProfile table) = k.Text
asks g.HasTimer = k.Timer

abbrev pub tells : Question → Kind
tells g.Negative = k.Int
tells g.TextOfInt = k.Text
tells g.TextOfBool = k.Text
tells g.Len = k.Int
tells (g.Attribute key kind) = kind
tells g.Lookup = k.Activity
tells (g.Profile table name kind) = kind
tells _ = k.Bool

masked_safe : (given : Setting) (event : List ℕ) (o : Option (List (List ℕ))) (scope : Scope) (st : State) → Sound given scope st → Safe given (Is given k.Bool scope) (is_masked event o st)
masked_safe given event None scope st fits = fits.1
masked_safe given event (Some names) scope st fits = (refl, fits)

looked_up_safe : (given : Setting) (o : Option Ref) (scope : Scope) (st : State) → Sound given scope st → Safe given (Is given k.Activity scope) (looked_up o st)
looked_up_safe given None scope st fits = fits.1
looked_up_safe given (Some a) scope st fits = (activity_is a, fits)

in_row_by : (given : Setting) (b : Bool) (kind : Kind) (x : Val) (scope : Scope) (st : State) → is_of kind x ≡ b → Sound given scope st → (let good : Run Val = give x in let bad : Run Val = break fail.NoRow in Safe given (Is given kind scope) (cond b good bad st))
in_row_by given true kind x scope st h fits = (h, fits)
in_row_by given false kind x scope st h fits = fits.1

in_row_safe : (given : Setting) (kind : Kind) (o : Option Val) (scope : Scope) (st : State) → Sound given scope st → Safe given (Is given kind scope) (in_row kind o st)
in_row_safe given kind None scope st fits = fits.1
in_row_safe given kind (Some x) scope st fits = in_row_by given (is_of kind x) kind x scope st refl fits

of_row_safe : (given : Setting) (name : List ℕ) (kind : Kind) (o : Option (List (List ℕ × Value))) (scope : Scope) (st : State) → Sound given scope st → Safe given (Is given kind scope) (of_row name kind o st)
of_row_safe given name kind None scope st fits = fits.1
of_row_safe given name kind (Some row) scope st fits = in_row_safe given kind _ scope st fits

row_safe : (m : Setting) (table name : List ℕ) (scope : Scope) (st : State) → Sound m scope st → Safe m (Keeps m scope) (row m table name st)
row_safe m table name scope st fits = safe_then m (Keeps m scope) (Keeps m scope) (look m (Some (keys.Profile table name)) st) (λ seen. give (row_in seen)) (look_safe m (Some (keys.Profile table name)) scope st fits) (λ seen new kept. kept)

-- a question to a value of its type has an answer of its type
pub ask_safe : (m : Setting) (question : Question) (x : Val) (scope : Scope) (st : State) → is_of (asks question) x ≡ true → Sound m scope st → Safe m (Is m (tells question) scope) (ask m question x st)
ask_safe m g.Negative x scope st h fits = with_int_safe m (Is m k.Int scope) x _ st h (λ n. number_safe m (neg_ℤ n) scope st fits)
ask_safe m g.Not x scope st h fits = with_flag_safe m (Is m k.Bool scope) x _ st h (λ b. (refl, fits))
ask_safe m g.TextOfInt x scope st h fits = text_of_int_safe m x scope st h fits
ask_safe m g.TextOfBool x scope st h fits = text_of_bool_safe m x scope st h fits
ask_safe m g.Len x scope st h fits = with_text_safe m (Is m k.Int scope) x _ st h (λ t. (refl, fits))
ask_safe m g.Active x scope st h fits = with_activity_safe m (Is m k.Bool scope) x _ st h (λ a. safe_then m (Keeps m scope) (Is m k.Bool scope) (read.state_of m a st) (λ seen. give (flag (is_active seen))) (state_safe m a scope st fits) (λ seen new kept. (refl, kept)))
ask_safe m g.Attached x scope st h fits = with_activity_safe m (Is m k.Bool scope) x _ st h (λ a. safe_then m (Keeps m scope) (Is m k.Bool scope) (read.used m a st) (λ _ st. then_run (read.attached m a st) (λ b. give (flag b))) (used_safe m a scope st fits)
    (λ _ new kept. safe_then m (Keeps m scope) (Is m k.Bool scope) (read.attached m a new) (λ b. give (flag b)) (attached_safe m a scope new kept) (λ b newer k. (refl, k))))
ask_safe m (g.Masked event) x scope st h fits = with_activity_safe m (Is m k.Bool scope) x _ st h (λ a. safe_then m (Keeps m scope) (Is m k.Bool scope) (read.used m a st) (λ _ st. then_run (read.masks m a st) (is_masked event.name)) (used_safe m a scope st fits)
    (λ _ new kept. safe_then m (Keeps m scope) (Is m k.Bool scope) (read.masks m a new) (is_masked event.name) (masks_safe m a scope new kept) (λ names newer k. masked_safe m event.name names scope newer k)))
ask_safe m (g.Attribute key kind) x scope st h fits = with_activity_safe m (Is m kind scope) x _ st h (λ a. safe_then m (Keeps m scope) (Is m kind scope) (read.used m a st) (λ _. read.attribute m key.name kind a) (used_safe m a scope st fits)
    (λ _ new kept. attribute_safe m key.name kind a scope new kept))
ask_safe m g.Bound x scope st h fits = with_text_safe m (Is m k.Bool scope) x _ st h (λ name. safe_then m (Keeps m scope) (Is m k.Bool scope) (read.named m name st) (λ a. give (flag (is_some a))) (named_safe m name scope st fits) (λ a new kept. (refl, kept)))
ask_safe m g.Lookup x scope st h fits = with_text_safe m (Is m k.Activity scope) x _ st h (λ name. safe_then m (Keeps m scope) (Is m k.Activity scope) (read.named m name st) looked_up (named_safe m name scope st fits) (λ a new kept. looked_up_safe m a scope new kept))
ask_safe m (g.Profile table name kind) x scope st h fits = with_text_safe m (Is m kind scope) x _ st h (λ key. safe_then m (Keeps m scope) (Is m kind scope) (row m table.name key st) (of_row name.name kind) (row_safe m table.name key scope st fits) (λ found new kept. of_row_safe m name.name kind found scope new kept))
ask_safe m (g.HasProfile table) x scope st h fits = with_text_safe m (Is m k.Bool scope) x _ st h (λ key. safe_then m (Keeps m scope) (Is m k.Bool scope) (row m table.name key st) (λ found. give (flag (is_some found))) (row_safe m table.name key scope st fits) (λ found new kept. (refl, kept)))
ask_safe m g.HasTimer x scope st h fits = with_timer_safe m (Is m k.Bool scope) x _ st h (λ t. safe_then m (Keeps m scope) (Is m k.Bool scope) (read.timer m t st) (λ a. give (flag (is_some a))) (timer_safe m t scope st fits) (λ a new kept. (refl, kept)))

pub ask_yields : (m : Setting) (scope : Scope) (question : Question) (x : Term) → Yields m scope (asks question) x → Yields m scope (tells question) (Ask question x)
ask_yields m scope question x one st fits = safe_then m (Is m (asks question) scope) (Is m (tells question) scope) (ticked (node m x) st) (ask m question) (eval_safe m scope (asks question) x st one fits) (λ p new r. ask_safe m question p scope new r.0 r.1)

-- A function that a check found: its operand serves where its type is asked for, and its answer is of the type that is given.
pub record QueryFits (x : Expression) (found : Kind) (query : Query) (asking : Asking) : Type 0 where
  pub serves_there : serves x found (operand_kind query found) ≡ true
  pub asked : asks asking.question ≡ operand_kind query found
  pub told : tells asking.question ≡ asking.kind

-- a function that takes one type, which isn't a timer
takes_one : (x : Expression) (found asked : Kind) → same_kind asked k.Timer ≡ false → (serves x found asked || false) ≡ true → found ≡ asked
takes_one x found asked plain h = plainly_serves (is_nothing x) found asked plain (or_false (serves x found asked) h)

fits_plainly : (x : Expression) (found : Kind) (query : Query) (asking : Asking) → operand_kind query found ≡ found → asks asking.question ≡ found → tells asking.question ≡ asking.kind → QueryFits x found query asking
fits_plainly x found query asking same e h = record { serves_there = ap (serves x found) same ∙ like_serves (is_nothing x) found; asked = e ∙ sym same; told = h }

text_kinds : (x : Expression) (found : Kind) → (serves x found k.Int ≡ true) ⊎ ((serves x found k.Bool || false) ≡ true) → (found ≡ k.Int) ⊎ (found ≡ k.Bool)
text_kinds x found (inl e) = inl (plainly_serves (is_nothing x) found k.Int refl e)
text_kinds x found (inr e) = inr (takes_one x found k.Bool refl e)

text_asks : (found : Kind) → (found ≡ k.Int) ⊎ (found ≡ k.Bool) → (asks (question_of f.Text found) ≡ found) × (tells (question_of f.Text found) ≡ k.Text)
text_asks found (inl e) = subst (λ z. (asks (question_of f.Text z) ≡ z) × (tells (question_of f.Text z) ≡ k.Text)) (sym e) (refl, refl)
text_asks found (inr e) = subst (λ z. (asks (question_of f.Text z) ≡ z) × (tells (question_of f.Text z) ≡ k.Text)) (sym e) (refl, refl)

text_fits : (x : Expression) (found : Kind) → list_any (serves x found) (query_takes (q.Plain f.Text)) ≡ true → QueryFits x found (q.Plain f.Text) (record { kind = k.Text; question = question_of f.Text found })
text_fits x found h = let e = text_asks found (text_kinds x found (either_true (serves x found k.Int) (serves x found k.Bool || false) h)) in fits_plainly x found (q.Plain f.Text) _ refl e.0 e.1

function_fits : (x : Expression) (found : Kind) (function : Function) → list_any (serves x found) (function_takes function) ≡ true → QueryFits x found (q.Plain function) (record { kind = typing.function_gives function; question = question_of function found })
function_fits x found f.Text h = text_fits x found h
function_fits x found f.Len h = fits_plainly x found (q.Plain f.Len) _ refl (sym (takes_one x found k.Text refl h)) refl
function_fits x found f.Active h = fits_plainly x found (q.Plain f.Active) _ refl (sym (takes_one x found k.Activity refl h)) refl
function_fits x found f.Attached h = fits_plainly x found (q.Plain f.Attached) _ refl (sym (takes_one x found k.Activity refl h)) refl
function_fits x found f.Bound h = fits_plainly x found (q.Plain f.Bound) _ refl (sym (takes_one x found k.Text refl h)) refl
function_fits x found f.Lookup h = fits_plainly x found (q.Plain f.Lookup) _ refl (sym (takes_one x found k.Text refl h)) refl
function_fits x found f.HasTimer h = record { serves_there = or_false (serves x found k.Timer) h; asked = refl; told = refl }

pub query_fits : (s : typing.Setting) (at : ℕ) (x : Expression) (found : Kind) (query : Query) (asking : Asking) → list_any (serves x found) (query_takes query) ≡ true → asking_of s at found query ≡ Ok asking → QueryFits x found query asking
query_fits s at x found (q.Plain function) asking h e = subst (QueryFits x found (q.Plain function)) (ok_same _ asking e) (function_fits x found function h)
query_fits s at x found (q.Masked event) asking h e = subst (QueryFits x found (q.Masked event)) (ok_same _ asking e) (fits_plainly x found (q.Masked event) _ refl (sym (takes_one x found k.Activity refl h)) refl)
query_fits s at x found (q.Attribute name) asking h e =
    let r = bind_ok (known at (attribute_named name s.block)) _ asking e in
    subst (QueryFits x found (q.Attribute name)) (ok_same _ asking r.2) (fits_plainly x found (q.Attribute name) _ refl (sym (takes_one x found k.Activity refl h)) refl)
query_fits s at x found (q.Profile table name) asking h e =
    let r = bind_ok (known at (row_kind table name s.codes)) _ asking e in
    subst (QueryFits x found (q.Profile table name)) (ok_same _ asking r.2) (fits_plainly x found (q.Profile table name) _ refl (sym (takes_one x found k.Text refl h)) refl)
query_fits s at x found (q.HasProfile table) asking h e = subst (QueryFits x found (q.HasProfile table)) (ok_same _ asking e) (fits_plainly x found (q.HasProfile table) _ refl (sym (takes_one x found k.Text refl h)) refl)
