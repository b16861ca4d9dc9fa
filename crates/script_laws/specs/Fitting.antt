-- When variables fit what a check takes them for, and when a part of a run is safe: it may give something, fail, or ask for an answer that isn't there, but it never comes to what a checked program doesn't have.
use Rattle.std.specs.Prelude.{◌≡◌, ℕ, ◌+◌, ◌≤◌, Bool, true, false, List, [], ◌∷◌, length, Option, Some, None}
use Rattle.slee_value.specs.declared.kind.Kind.{Kind}
use Rattle.slee_effect.specs.declared.reference.Ref.{Ref}
use Rattle.slee_effect.specs.declared.value.Val.{Val}
use Rattle.script_tree.specs.Tree.{Bytes}
use Rattle.script_types.specs.declared.codes.FieldCode.{FieldCode}
use Rattle.script_types.specs.TypingExpressions.{Role, InMethod}
use Rattle.script_types.specs.TypingExpressions as typing
use Rattle.script_types.specs.Scopes.{Scope, Holding, with_value}
use Rattle.script_types.specs.Scopes as expected
use Rattle.script_types.specs.ElaborationOfStatements.{MethodAt, method_in}
use Rattle.script_meaning.specs.Answers.{Answers, is_of}
use Rattle.script_meaning.specs.Running.{Setting, Variable, Holds, Child, effect_limit, effect_bytes_limit, key_limit, bytes_of, State, Ending, Gave, Broke, Needs, Stays}
use Rattle.script_meaning.specs.Meaning.{Before, Meaning, Done, Need, Unchecked}
use Rattle.script_meaning.specs.Delivery.{Delivery, Complete, Wants, NotChecked}
use Rattle.script_meaning.specs.Steps.{Flow, Next, Returned, Calling}

-- a variable holds a value of the type that is expected, or stands for a child where one is expected
abbrev pub is_as_expected : Holding → Variable → Bool
is_as_expected (expected.Value kind) (Holds x) = is_of kind x
is_as_expected (expected.Child block) (Child e) = true
is_as_expected _ _ = false

-- variables fit a scope, place by place
abbrev pub Fits : Scope → List Variable → Type 0
Fits [] [] = Unit {0}
Fits (local ∷ scope) (x ∷ variables) = (is_as_expected local.holds x ≡ true) × Fits scope variables
Fits _ _ = ⊥

-- a run has no more effects, bytes of them and keys than it may have
abbrev pub IsWithin : Setting → State → Type 0
IsWithin given st = (length st.effects ≤ effect_limit) × (bytes_of st.effects ≤ effect_bytes_limit) × (length given.keys + length st.keys ≤ key_limit)

-- variables that fit, in a run within its limits
abbrev pub Sound : Setting → Scope → State → Type 0
Sound given scope st = Fits scope st.variables × IsWithin given st

-- An ending that a checked program may have: it gave something, of which this is so, or failed within the limits, or needs a key that has no answer.
abbrev pub Safe : {A : Type 0} → Setting → (A → State → Type 0) → Ending A → Type 0
Safe given P (Gave x st) = P x st
Safe given P (Broke kind text st) = IsWithin given st
Safe given P (Needs key) = given.answers key ≡ None
Safe given P Stays = ⊥

-- a value of a type, with variables that fit
abbrev pub Is : Setting → Kind → Scope → Val → State → Type 0
Is given kind scope x st = (is_of kind x ≡ true) × Sound given scope st

-- variables that fit, whatever was given
abbrev pub Keeps : {A : Type 0} → Setting → Scope → A → State → Type 0
Keeps given scope x st = Sound given scope st

-- what a script gives back: a method with a result a value of its type, any other script nothing
abbrev pub IsReturned : Option Kind → Val → Type 0
IsReturned None x = ⊥
IsReturned (Some kind) x = is_of kind x ≡ true

-- behind steps: variables that fit, or a value that is given back
abbrev pub Flows : Setting → Option Kind → Scope → Flow → State → Type 0
Flows given result scope Next st = Sound given scope st
Flows given result scope (Returned x) st = IsReturned result x × IsWithin given st

-- the type that a script of this role gives back
abbrev pub result_in : Role → Option Kind
result_in (InMethod result) = result
result_in _ = None

-- arguments of the types of the parameters
abbrev pub AreOf : List FieldCode → List Val → Type 0
AreOf [] [] = Unit {0}
AreOf (parameter ∷ parameters) (x ∷ xs) = (is_of parameter.kind x ≡ true) × AreOf parameters xs
AreOf _ _ = ⊥

-- Calls are safe where a method that the check finds, with arguments of its types, leaves the variables as they were, or puts a value of its result's type behind them.
abbrev pub SafeCalls : Setting → typing.Setting → Calling → Type 0
SafeCalls given s call =
    (block : ℕ) (name : Bytes) (found : MethodAt) (e : Ref) (xs : List Val) (scope : Scope) (st : State) → method_in s block name ≡ Some found → AreOf found.method.parameters xs → Sound given scope st →
    Safe given (Keeps given scope) (call block found.number e xs false st) × ((kind : Kind) (local : Bytes) → found.method.result ≡ Some kind → Safe given (Keeps given (with_value scope local kind)) (call block found.number e xs true st))

-- What a script of a checked program means: a whole run that stays within its limits, or the first key that has no answer.
abbrev pub IsSound : Answers → Before → Meaning → Type 0
IsSound answers before (Done report) = (length report.effects ≤ effect_limit) × (bytes_of report.effects ≤ effect_bytes_limit) × (length before.keys + length report.keys ≤ key_limit)
IsSound answers before (Need key) = answers key ≡ None
IsSound answers before Unchecked = ⊥

-- What a delivery to an entity comes to: effects within their limits, or the first key that has no answer.
abbrev pub IsSoundDelivery : Answers → Delivery → Type 0
IsSoundDelivery answers (Complete delivered) = (length delivered.effects ≤ effect_limit) × (bytes_of delivered.effects ≤ effect_bytes_limit)
IsSoundDelivery answers (Wants key) = answers key ≡ None
IsSoundDelivery answers NotChecked = ⊥
