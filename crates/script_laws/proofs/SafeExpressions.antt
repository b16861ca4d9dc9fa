-- What an expression is made into gives a value of its type.
use Rattle.std.proofs.Common.{◌≡◌, ◌+◌, true, false, Bool, ℕ, List, [], ◌∷◌, length, Option, Some, None, Ok, Err, refl, sym, ap, ◌∙◌, subst}
use Rattle.std.specs.Prelude.{pos, ◌||◌, ◌&&◌, cond, position, option_map, bytes_eq}
use Rattle.slee_value.specs.declared.kind.Kind.{Kind}
use Rattle.slee_value.specs.declared.kind.Kind.TheVariants as k
use Rattle.slee_value.specs.declared.value.Value.TheVariants as v
use Rattle.slee_effect.specs.declared.value.Val.{Val}
use Rattle.slee_effect.specs.declared.value.Val.TheVariants.{Plain}
use Rattle.script_tree.specs.declared.symbol.Constant.{Constant}
use Rattle.script_tree.specs.declared.symbol.Constant.TheVariants as c
use Rattle.script_tree.specs.declared.tree.Leaf.{Leaf}
use Rattle.script_tree.specs.declared.tree.Leaf.TheVariants as l
use Rattle.script_tree.specs.Tree as tree
use Rattle.script_tree.specs.Tree.{Bytes, Expression}
use Rattle.script_types.specs.declared.codes.FieldCode.{FieldCode}
use Rattle.script_types.specs.declared.term.Atom.TheVariants as a
use Rattle.script_types.specs.declared.term.Joint.{Joint}
use Rattle.script_types.specs.declared.term.Test.{Test}
use Rattle.script_types.specs.Codes.{kind_in, relation_named}
use Rattle.script_types.specs.TypingResult.{Checked, misused, known}
use Rattle.script_types.specs.TypingResult as checked
use Rattle.script_types.specs.TypingExpressions.{Role, OnEvent, InMethod, OnException, OnRolledBack, OnRemove, same_kind, is_nothing, serves, not_on_remove, Rule, Both, Ordered, Equated, rule_of, left_fits, right_fits, result_kind, alike}
use Rattle.script_types.specs.TypingExpressions as typing
use Rattle.script_types.specs.Scopes.{Scope}
use Rattle.script_types.specs.Elaboration.{Typed, typed, none_of, as_kind, value_named, child_named, failure_for, constant_of, event_field, event_field_for, table_activity, leaf_of, expression_of}
use Rattle.script_types.specs.Program.{Term, Single, Compare, Combine}
use Rattle.script_meaning.specs.Answers.{is_of}
use Rattle.script_meaning.specs.Running.{Setting, State, then_run, give, ticked}
use Rattle.script_meaning.specs.Observing as read
use Rattle.script_meaning.specs.Values.{int, compare}
use Rattle.script_meaning.specs.Terms.{or_initial, field_at, node, eval, combine}
use Rattle.script_laws.specs.Fitting.{Safe, Is, Keeps, Sound}
use Rattle.script_laws.proofs.SafeRuns.{safe_then, safe_tick, ok_same, known_some}
use Rattle.script_laws.proofs.SafePlaces.{some_same, value_safe, child_safe}
use Rattle.script_laws.proofs.SafeObserved.{now_safe, children_safe, priority_safe, initial_is, fit_is, field_safe}
use Rattle.script_laws.proofs.SafeOperators.{side_of, combine_safe, compares, compare_safe}

-- the term gives a value of the type, wherever variables fit
abbrev pub Yields : Setting → Scope → Kind → Term → Type 0
Yields m scope kind term = (st : State) → Sound m scope st → Safe m (Is m kind scope) (node m term st)

-- and the same of what a check finds
abbrev pub Good : Setting → Scope → Checked Typed → Type 0
Good m scope (Ok one) = Yields m scope one.kind one.term
Good m scope (Err fault) = Unit {0}

pub good_then : {A : Type 0} (m : Setting) (scope : Scope) (r : Checked A) (g : A → Checked Typed) → ((x : A) → r ≡ Ok x → Good m scope (g x)) → Good m scope (checked.◌>>=◌ r g)
good_then m scope (Ok x) g h = h x refl
good_then m scope (Err fault) g h = tt

pub eval_safe : (m : Setting) (scope : Scope) (kind : Kind) (term : Term) (st : State) → Yields m scope kind term → Sound m scope st → Safe m (Is m kind scope) (eval m term st)
eval_safe m scope kind term st h fits = safe_tick m (Is m kind scope) (node m term) st fits.1 (λ left. h (record st { left = left }) fits)

failure_good : (m : Setting) (scope : Scope) (role : Role) (at : ℕ) → Good m scope (failure_for role at)
failure_good m scope OnException at = λ st fits. (refl, fits)
failure_good m scope OnRolledBack at = λ st fits. (refl, fits)
failure_good m scope (OnEvent fields) at = tt
failure_good m scope (InMethod result) at = tt
failure_good m scope OnRemove at = tt

constant_good : (m : Setting) (s : typing.Setting) (scope : Scope) (at : ℕ) (word : Constant) → Good m scope (constant_of s at word)
constant_good m s scope at c.True = λ st fits. (refl, fits)
constant_good m s scope at c.False = λ st fits. (refl, fits)
constant_good m s scope at c.Nothing = λ st fits. (refl, fits)
constant_good m s scope at c.Now = good_then m scope (not_on_remove s at) _ (λ _ _ st fits.
    safe_then m (Keeps m scope) (Is m k.Int scope) (read.now m st) (λ n. give (int n)) (now_safe m scope st fits) (λ n new kept. (refl, kept)))
constant_good m s scope at c.Activity = good_then m scope (not_on_remove s at) _ (λ _ _ st fits. (refl, fits))
constant_good m s scope at c.Failure = failure_good m scope s.role at

or_initial_is : (kind : Kind) (x : Option Val) → is_of kind (or_initial kind x) ≡ true
or_initial_is kind None = initial_is kind
or_initial_is kind (Some x) = fit_is kind x

known_good : (m : Setting) (scope : Scope) (at : ℕ) (b : Bool) (x : Typed) (rest : Option Typed) → Yields m scope x.kind x.term → Good m scope (known at rest) → Good m scope (known at (cond b (Some x) rest))
known_good m scope at true x rest g h = g
known_good m scope at false x rest g h = h

event_field_good : (m : Setting) (scope : Scope) (at place : ℕ) (name : Bytes) (fields : List FieldCode) → Good m scope (known at (event_field place name fields))
event_field_good m scope at place name [] = tt
event_field_good m scope at place name (field ∷ fields) =
    known_good m scope at (bytes_eq field.name name) (typed field.kind (a.EventField place field.kind)) (event_field (place + 1) name fields)
    (λ st fits. (or_initial_is field.kind (field_at place m.arguments.fields), fits)) (event_field_good m scope at (place + 1) name fields)

event_good : (m : Setting) (scope : Scope) (role : Role) (at : ℕ) (name : Bytes) → Good m scope (event_field_for role at name)
event_good m scope (OnEvent fields) at name = event_field_good m scope (at + 2) 0 name fields
event_good m scope (InMethod result) at name = tt
event_good m scope OnException at name = tt
event_good m scope OnRolledBack at name = tt
event_good m scope OnRemove at name = tt

table_yields : (m : Setting) (scope : Scope) (o : Option ℕ) (x : Typed) → option_map (λ place. typed k.Activity (a.Constant (v.Activity (record { 0 = place + 1 })))) o ≡ Some x → Yields m scope x.kind x.term
table_yields m scope None x h = cc
table_yields m scope (Some place) x h = subst (λ x. Yields m scope x.kind x.term) (some_same _ x h) (λ st fits. (refl, fits))

pub leaf_good : (m : Setting) (s : typing.Setting) (scope : Scope) (at : ℕ) (leaf : Leaf) → Good m scope (leaf_of s scope at leaf)
leaf_good m s scope at (l.Int n) = λ st fits. (refl, fits)
leaf_good m s scope at (l.Text text) = λ st fits. (refl, fits)
leaf_good m s scope at (l.Constant word) = constant_good m s scope at word
leaf_good m s scope at (l.Variable name) = good_then m scope (value_named scope name at) _ (λ x e st fits. value_safe m scope name at x st e fits)
leaf_good m s scope at (l.Field name) = good_then m scope (known (at + 2) (kind_in name s.block.fields)) _ (λ kind e st fits. field_safe m name kind scope st fits)
leaf_good m s scope at (l.EventField name) = event_good m scope s.role at name
leaf_good m s scope at (l.Table name) = good_then m scope (known (at + 2) (table_activity s.codes name)) _ (λ x e. good_then m scope (not_on_remove s at) _ (λ _ _. table_yields m scope (position (λ x. bytes_eq x.name name) s.codes.tables) x (known_some (at + 2) (table_activity s.codes name) x e)))
leaf_good m s scope at (l.Count name) = good_then m scope (known (at + 2) (relation_named name s.block)) _ (λ _ _. good_then m scope (not_on_remove s at) _ (λ _ _ st fits.
    safe_then m (Keeps m scope) (Is m k.Int scope) (read.children m name st) (λ refs. give (int (pos (length refs)))) (children_safe m name scope st fits) (λ refs new kept. (refl, kept))))
leaf_good m s scope at (l.Priority name) = good_then m scope (child_named scope name (at + 2)) _ (λ x e. good_then m scope (not_on_remove s at) _ (λ _ _ st fits.
    safe_then m (Keeps m scope) (Is m k.Int scope) (read.child m x.place st) (λ e st. then_run (read.priority m e st) (λ n. give (int n))) (child_safe m scope name (at + 2) x st e fits)
    (λ e new kept. safe_then m (Keeps m scope) (Is m k.Int scope) (read.priority m e new) (λ n. give (int n)) (priority_safe m e scope new kept) (λ n newer kept. (refl, kept)))))

-- `none` alone is an activity where nothing is asked
pub nothing_is_activity : (s : typing.Setting) (scope : Scope) (at : ℕ) (x : Expression) (one : Typed) → expression_of s scope at x ≡ Ok one → is_nothing x ≡ true → one.kind ≡ k.Activity
nothing_is_activity s scope at (tree.Leaf (l.Constant c.Nothing)) one e h = ap (λ o. o.kind) (sym (ok_same _ one e))
nothing_is_activity s scope at (tree.Group x) one e h = nothing_is_activity s scope (at + 1) x one e h
nothing_is_activity s scope at _ one e h = cc

pub kinds_same : (a b : Kind) → same_kind a b ≡ true → a ≡ b
kinds_same k.Int k.Int h = refl
kinds_same k.Text k.Text h = refl
kinds_same k.Bool k.Bool h = refl
kinds_same k.Activity k.Activity h = refl
kinds_same k.Timer k.Timer h = refl
kinds_same _ _ h = cc

pub or_false : (p : Bool) → (p || false) ≡ true → p ≡ true
or_false true h = refl
or_false false h = cc

pub and_false : (p : Bool) → (p && false) ≡ false
and_false true = refl
and_false false = refl

-- what serves where no timer is asked for is of that type
pub plainly_serves : (b : Bool) (found asked : Kind) → same_kind asked k.Timer ≡ false → (same_kind found asked || (b && same_kind asked k.Timer)) ≡ true → found ≡ asked
plainly_serves b found asked plain h = kinds_same found asked (or_false (same_kind found asked) (ap (λ z. same_kind found asked || z) (sym (ap (λ z. b && z) plain ∙ and_false b)) ∙ h))

nothing_serves : (asked : Kind) → (same_kind k.Activity asked || same_kind asked k.Timer) ≡ true → is_of asked (Plain (none_of asked)) ≡ true
nothing_serves k.Activity h = refl
nothing_serves k.Timer h = refl
nothing_serves _ h = cc

served_by : (b : Bool) (m : Setting) (scope : Scope) (found asked : Kind) (term : Term) → (b ≡ true → found ≡ k.Activity) → Yields m scope found term → (same_kind found asked || (b && same_kind asked k.Timer)) ≡ true → Yields m scope asked (cond b (Single (a.Constant (none_of asked))) term)
served_by true m scope found asked term nothing yields h = λ st fits. (nothing_serves asked (ap (λ z. same_kind z asked || same_kind asked k.Timer) (sym (nothing refl)) ∙ h), fits)
served_by false m scope found asked term nothing yields h = subst (λ z. Yields m scope z term) (kinds_same found asked (or_false (same_kind found asked) h)) yields

-- an expression that serves where a type is asked for yields that type
pub served : (m : Setting) (s : typing.Setting) (scope : Scope) (at : ℕ) (x : Expression) (one : Typed) (asked : Kind) → expression_of s scope at x ≡ Ok one → Yields m scope one.kind one.term → serves x one.kind asked ≡ true → Yields m scope asked (as_kind asked x one.term)
served m s scope at x one asked e yields h = served_by (is_nothing x) m scope one.kind asked one.term (nothing_is_activity s scope at x one e) yields h

pub combine_yields : (m : Setting) (scope : Scope) (joint : Joint) (x y : Term) → Yields m scope (side_of joint) x → Yields m scope (side_of joint) y → Yields m scope (side_of joint) (Combine joint x y)
combine_yields m scope joint x y one other st fits = safe_then m (Is m (side_of joint) scope) (Is m (side_of joint) scope) (ticked (node m x) st) (λ p. combine joint p (ticked (node m y))) (eval_safe m scope (side_of joint) x st one fits)
    (λ p new r. combine_safe m joint p (ticked (node m y)) scope new r.0 r.1 (eval_safe m scope (side_of joint) y new other r.1))

pub compare_yields : (m : Setting) (scope : Scope) (test : Test) (x y : Term) → Yields m scope (compares test) x → Yields m scope (compares test) y → Yields m scope k.Bool (Compare test x y)
compare_yields m scope test x y one other st fits = safe_then m (Is m (compares test) scope) (Is m k.Bool scope) (ticked (node m x) st) (λ p st. then_run (ticked (node m y) st) (λ q. compare test p q)) (eval_safe m scope (compares test) x st one fits)
    (λ p new r. safe_then m (Is m (compares test) scope) (Is m k.Bool scope) (ticked (node m y) new) (compare test p) (eval_safe m scope (compares test) y new other r.1)
    (λ q newer z. compare_safe m test p q scope newer r.0 z.0 z.1))
