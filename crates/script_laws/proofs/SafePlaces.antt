-- Variables that fit a scope, by their places.
use Rattle.std.proofs.Common.{◌≡◌, true, ℕ, zero, suc, List, [], ◌∷◌, ◌++◌, Option, Some, None, Ok, refl, sym, ap, ◌∙◌, subst}
use Rattle.std.specs.Prelude.{not, position, slice_get, option_map, bytes_eq}
use Rattle.slee_value.specs.declared.kind.Kind.{Kind}
use Rattle.slee_effect.specs.declared.reference.Ref.{Ref}
use Rattle.script_tree.specs.Tree.{Bytes}
use Rattle.script_types.specs.TypingResult.{known}
use Rattle.script_types.specs.Scopes.{Scope, Holding}
use Rattle.script_types.specs.Scopes as expected
use Rattle.script_types.specs.Elaboration.{Found, found_in, variable_named, ValueAt, ChildAt, as_value, as_child, value_named, child_named}
use Rattle.script_meaning.specs.declared.outcome.FailKind.TheVariants as f
use Rattle.script_meaning.specs.Overlay.{is_removed}
use Rattle.script_meaning.specs.Running.{Setting, Variable, Holds, Child, State, Run, then_run, give, found, tested, effects_of}
use Rattle.script_meaning.specs.Observing.{only_value, only_child, value, child}
use Rattle.script_laws.specs.Fitting.{is_as_expected, Fits, Safe, Is, Keeps, Sound}
use Rattle.script_laws.proofs.SafeRuns.{safe_then, safe_tested, bind_ok, ok_same, known_some}

pub some_same : {A : Type 0} (x y : A) → Some x ≡ Some y → x ≡ y
some_same x y h = cc

-- what stands in a place of variables that fit
pub place_fits : (scope : Scope) (variables : List Variable) (i : ℕ) (local : expected.Variable) → Fits scope variables → slice_get scope i ≡ Some local → (x : Variable) × (slice_get variables i ≡ Some x) × (is_as_expected local.holds x ≡ true)
place_fits [] [] i local fits e = cc
place_fits [] (x ∷ variables) i local fits e = absurd fits
place_fits (one ∷ scope) [] i local fits e = absurd fits
place_fits (one ∷ scope) (x ∷ variables) zero local fits e = (x, refl, ap (λ o. let l : expected.Variable = o in is_as_expected l.holds x) (sym (some_same one local e)) ∙ fits.0)
place_fits (one ∷ scope) (x ∷ variables) (suc i) local fits e = place_fits scope variables i local fits.1 e

found_is : (o : Option expected.Variable) (i : ℕ) (x : Found) → option_map (λ v. let w : expected.Variable = v in (let one : Found = record { place = i; holds = w.holds } in one)) o ≡ Some x → (local : expected.Variable) × (o ≡ Some local) × (x.place ≡ i) × (local.holds ≡ x.holds)
found_is None i x h = cc
found_is (Some local) i x h = (local, refl, ap (λ o. o.place) (sym (some_same _ x h)), ap (λ o. o.holds) (some_same _ x h))

variable_is : (scope : Scope) (o : Option ℕ) (x : Found) → found_in scope o ≡ Some x → (local : expected.Variable) × (slice_get scope x.place ≡ Some local) × (local.holds ≡ x.holds)
variable_is scope None x h = cc
variable_is scope (Some i) x h =
    let p = found_is (slice_get scope i) i x h in
    (p.0, ap (slice_get scope) p.2 ∙ p.1, p.3)

-- a variable that stands for a value is one in its place
value_is : (at : ℕ) (place : ℕ) (holds : Holding) (x : ValueAt) → as_value at place holds ≡ Ok x → (x.place ≡ place) × (holds ≡ expected.Value x.kind)
value_is at place (expected.Child block) x h = cc
value_is at place (expected.Value kind) x h = (ap (λ o. o.place) (sym (ok_same _ x h)), ap (λ o. expected.Value o.kind) (ok_same _ x h))

child_is : (at : ℕ) (place : ℕ) (holds : Holding) (x : ChildAt) → as_child at place holds ≡ Ok x → (x.place ≡ place) × (holds ≡ expected.Child x.block)
child_is at place (expected.Value kind) x h = cc
child_is at place (expected.Child block) x h = (ap (λ o. o.place) (sym (ok_same _ x h)), ap (λ o. expected.Child o.block) (ok_same _ x h))

pub value_place : (scope : Scope) (name : Bytes) (at : ℕ) (x : ValueAt) → value_named scope name at ≡ Ok x → (local : expected.Variable) × (slice_get scope x.place ≡ Some local) × (local.holds ≡ expected.Value x.kind)
value_place scope name at x h =
    let a = bind_ok (known at (variable_named scope name)) _ x h in
    let p = variable_is scope (position (λ v. bytes_eq v.name name) scope) a.0 (known_some at (variable_named scope name) a.0 a.1) in
    let q = value_is at a.0.place a.0.holds x a.2 in
    (p.0, ap (slice_get scope) q.0 ∙ p.1, p.2 ∙ q.1)

pub child_place : (scope : Scope) (name : Bytes) (at : ℕ) (x : ChildAt) → child_named scope name at ≡ Ok x → (local : expected.Variable) × (slice_get scope x.place ≡ Some local) × (local.holds ≡ expected.Child x.block)
child_place scope name at x h =
    let a = bind_ok (known at (variable_named scope name)) _ x h in
    let p = variable_is scope (position (λ v. bytes_eq v.name name) scope) a.0 (known_some at (variable_named scope name) a.0 a.1) in
    let q = child_is at a.0.place a.0.holds x a.2 in
    (p.0, ap (slice_get scope) q.0 ∙ p.1, p.2 ∙ q.1)

only_value_safe : (given : Setting) (kind : Kind) (scope : Scope) (x : Variable) (st : State) → is_as_expected (expected.Value kind) x ≡ true → Sound given scope st → Safe given (Is given kind scope) (only_value x st)
only_value_safe given kind scope (Holds x) st h fits = (h, fits)
only_value_safe given kind scope (Child e) st h fits = cc

only_child_safe : (given : Setting) (block : ℕ) (scope : Scope) (x : Variable) (st : State) → is_as_expected (expected.Child block) x ≡ true → Sound given scope st → Safe given (Keeps given scope) (only_child x st)
only_child_safe given block scope (Child e) st h fits = fits
only_child_safe given block scope (Holds x) st h fits = cc

-- the value of a variable that the check found
pub value_safe : (given : Setting) (scope : Scope) (name : Bytes) (at : ℕ) (x : ValueAt) (st : State) → value_named scope name at ≡ Ok x → Sound given scope st → Safe given (Is given x.kind scope) (value x.place st)
value_safe given scope name at x st h fits =
    let p = value_place scope name at x h in
    let q = place_fits scope st.variables x.place p.0 fits.0 p.1 in
    subst (λ o. Safe given (Is given x.kind scope) (then_run (found o st) only_value)) (sym q.1) (only_value_safe given x.kind scope q.0 st (ap (λ w. is_as_expected w q.0) (sym p.2) ∙ q.2) fits)

-- the child that the check found; it may be gone
pub child_safe : (m : Setting) (scope : Scope) (name : Bytes) (at : ℕ) (x : ChildAt) (st : State) → child_named scope name at ≡ Ok x → Sound m scope st → Safe m (Keeps m scope) (child m x.place st)
child_safe m scope name at x st h fits =
    let p = child_place scope name at x h in
    let q = place_fits scope st.variables x.place p.0 fits.0 p.1 in
    let rest : Variable → Run Ref = λ y st. then_run (only_child y st) (λ e st. then_run (effects_of m st) (λ effects st. then_run (tested f.Gone (not (is_removed e effects)) st) (λ _. give e))) in
    subst (λ o. Safe m (Keeps m scope) (then_run (found o st) rest)) (sym q.1)
    (safe_then m (Keeps m scope) (Keeps m scope) (only_child q.0 st) _ (only_child_safe m x.block scope q.0 st (ap (λ w. is_as_expected w q.0) (sym p.2) ∙ q.2) fits)
    (λ e new kept. safe_tested m (Keeps m scope) f.Gone (not (is_removed e (m.effects ++ new.effects))) (give e) new kept.1 kept))
