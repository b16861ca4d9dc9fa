-- Expressions with parts: operators, comparisons and functions.
use Rattle.std.proofs.Common.{◌≡◌, true, false, Bool, ℕ, Ok, refl, sym, ap, ◌∙◌, subst, ◌⊎◌, inl, inr}
use Rattle.std.specs.Prelude.{◌||◌, ◌&&◌, cond}
use Rattle.slee_value.specs.declared.kind.Kind.{Kind}
use Rattle.slee_value.specs.declared.kind.Kind.TheVariants as k
use Rattle.script_tree.specs.declared.symbol.Operator.{Operator}
use Rattle.script_tree.specs.declared.symbol.Operator.TheVariants as o
use Rattle.script_tree.specs.Tree.{Expression}
use Rattle.script_types.specs.declared.term.Joint.{Joint}
use Rattle.script_types.specs.declared.term.Joint.TheVariants as j
use Rattle.script_types.specs.declared.term.Test.{Test}
use Rattle.script_types.specs.declared.term.Test.TheVariants as t
use Rattle.script_types.specs.TypingExpressions.{same_kind, is_nothing, serves, rule_of, left_fits, right_fits, result_kind, alike}
use Rattle.script_types.specs.TypingExpressions as typing
use Rattle.script_types.specs.Scopes.{Scope}
use Rattle.script_types.specs.Elaboration.{Typed, as_kind, expression_of, kind_between, between, scale_of}
use Rattle.script_types.specs.Program.{Combine, Compare}
use Rattle.script_meaning.specs.Running.{Setting}
use Rattle.script_laws.proofs.SafeOperators.{side_of, compares, on_scale}
use Rattle.script_laws.proofs.SafeExpressions.{Yields, kinds_same, plainly_serves, nothing_is_activity, served, combine_yields, compare_yields}

-- An operand that a check found.
pub record Operand (m : Setting) (s : typing.Setting) (scope : Scope) (x : Expression) (one : Typed) : Type 0 where
  pub at : ℕ
  pub found : expression_of s scope at x ≡ Ok one
  pub yields : Yields m scope one.kind one.term

-- an operand where its type is asked for
operand : (m : Setting) (s : typing.Setting) (scope : Scope) (x : Expression) (one : Typed) (asked : Kind) → Operand m s scope x one → serves x one.kind asked ≡ true → Yields m scope asked (as_kind asked x one.term)
operand m s scope x one asked p h = served m s scope p.at x one asked p.found p.yields h

same_is : (q : Kind) → same_kind q q ≡ true
same_is k.Int = refl
same_is k.Text = refl
same_is k.Bool = refl
same_is k.Activity = refl
same_is k.Timer = refl

cond_true : {A : Type 0} (b : Bool) (x y : A) → b ≡ true → cond b x y ≡ x
cond_true true x y h = refl
cond_true false x y h = cc

between_is : (q one other : Kind) → one ≡ q → other ≡ q → kind_between one other ≡ q
between_is q one other f g = cond_true (same_kind one other) one k.Timer (ap (λ z. same_kind z other) f ∙ ap (same_kind q) g ∙ same_is q) ∙ f

-- an operator whose operands are of its own type
joins : (m : Setting) (s : typing.Setting) (scope : Scope) (joint : Joint) (x y : Expression) (one other : Typed) → same_kind (side_of joint) k.Timer ≡ false → Operand m s scope x one → Operand m s scope y other → serves x one.kind (side_of joint) ≡ true → serves y other.kind (side_of joint) ≡ true → Yields m scope (side_of joint) (Combine joint (as_kind (kind_between one.kind other.kind) x one.term) (as_kind (kind_between one.kind other.kind) y other.term))
joins m s scope joint x y one other plain p q f g =
    let left : one.kind ≡ side_of joint = plainly_serves (is_nothing x) one.kind (side_of joint) plain f in
    let right : other.kind ≡ side_of joint = plainly_serves (is_nothing y) other.kind (side_of joint) plain g in
    subst (λ z. Yields m scope (side_of joint) (Combine joint (as_kind z x one.term) (as_kind z y other.term))) (sym (between_is (side_of joint) one.kind other.kind left right))
    (combine_yields m scope joint (as_kind (side_of joint) x one.term) (as_kind (side_of joint) y other.term) (operand m s scope x one (side_of joint) p f) (operand m s scope y other (side_of joint) q g))

pub either_true : (p q : Bool) → (p || q) ≡ true → (p ≡ true) ⊎ (q ≡ true)
either_true true q h = inl refl
either_true false q h = inr h

both_true : (p q : Bool) → (p && q) ≡ true → (p ≡ true) × (q ≡ true)
both_true true q h = (refl, h)
both_true false q h = cc

-- whether a type serves where another is asked for, of an expression that is `none` or not
abbrev pub Serves : Bool → Kind → Kind → Type 0
Serves b found asked = (same_kind found asked || (b && same_kind asked k.Timer)) ≡ true

pub like_serves : (b : Bool) (found : Kind) → Serves b found found
like_serves b found = ap (λ z. z || (b && same_kind found k.Timer)) (same_is found)

or_true : (p : Bool) → (p || true) ≡ true
or_true true = refl
or_true false = refl

-- operands of which the first serves for the second: the same type, or `none` beside a timer
abbrev pub Between : Bool → Bool → Kind → Kind → Type 0
Between b c one other = Serves b one (kind_between one other) × Serves c other (kind_between one other)

between_same : (b c : Bool) (one other : Kind) → one ≡ other → Between b c one other
between_same b c one other e = subst (λ z. Between b c one z) e (subst (λ z. Serves b one z × Serves c one z) (sym (between_is one one one refl refl)) (like_serves b one, like_serves c one))

between_first : (c : Bool) (one other : Kind) → one ≡ k.Activity → other ≡ k.Timer → Between true c one other
between_first c one other f g = subst (λ z. Between true c z other) (sym f) (subst (λ z. Between true c k.Activity z) (sym g) (refl, like_serves c k.Timer))

between_second : (b : Bool) (one other : Kind) → other ≡ k.Activity → one ≡ k.Timer → Between b true one other
between_second b one other f g = subst (λ z. Between b true one z) (sym f) (subst (λ z. Between b true z k.Activity) (sym g) (like_serves b k.Timer, refl))

true_first : (b c : Bool) (one other : Kind) → b ≡ true → Between true c one other → Between b c one other
true_first b c one other e h = subst (λ z. Between z c one other) (sym e) h

true_second : (b c : Bool) (one other : Kind) → c ≡ true → Between b true one other → Between b c one other
true_second b c one other e h = subst (λ z. Between b z one other) (sym e) h

first_serves : (b c : Bool) (one other : Kind) → (b ≡ true → one ≡ k.Activity) → (same_kind one other ≡ true) ⊎ ((b && same_kind other k.Timer) ≡ true) → Between b c one other
first_serves b c one other nothing (inl e) = between_same b c one other (kinds_same one other e)
first_serves b c one other nothing (inr e) =
    let p = both_true b (same_kind other k.Timer) e in
    true_first b c one other p.0 (between_first c one other (nothing p.0) (kinds_same other k.Timer p.1))

second_serves : (b c : Bool) (one other : Kind) → (c ≡ true → other ≡ k.Activity) → (same_kind other one ≡ true) ⊎ ((c && same_kind one k.Timer) ≡ true) → Between b c one other
second_serves b c one other nothing (inl e) = between_same b c one other (sym (kinds_same other one e))
second_serves b c one other nothing (inr e) =
    let p = both_true c (same_kind one k.Timer) e in
    true_second b c one other p.0 (between_second b one other (nothing p.0) (kinds_same one k.Timer p.1))

alike_by : (b c : Bool) (one other : Kind) → (b ≡ true → one ≡ k.Activity) → (c ≡ true → other ≡ k.Activity) → (Serves b one other) ⊎ (Serves c other one) → Between b c one other
alike_by b c one other f g (inl h) = first_serves b c one other f (either_true (same_kind one other) (b && same_kind other k.Timer) h)
alike_by b c one other f g (inr h) = second_serves b c one other g (either_true (same_kind other one) (c && same_kind one k.Timer) h)

-- operands that are alike serve where the type between them is asked for
alike_serves : (m : Setting) (s : typing.Setting) (scope : Scope) (x y : Expression) (one other : Typed) → Operand m s scope x one → Operand m s scope y other → alike x one.kind y other.kind ≡ true → Between (is_nothing x) (is_nothing y) one.kind other.kind
alike_serves m s scope x y one other p q h =
    alike_by (is_nothing x) (is_nothing y) one.kind other.kind (nothing_is_activity s scope p.at x one p.found) (nothing_is_activity s scope q.at y other q.found)
    (either_true (serves x one.kind other.kind) (serves y other.kind one.kind) h)

-- a comparison by the type between its operands
compared : (m : Setting) (s : typing.Setting) (scope : Scope) (test : Test) (x y : Expression) (one other : Typed) → Operand m s scope x one → Operand m s scope y other → Between (is_nothing x) (is_nothing y) one.kind other.kind → compares test ≡ kind_between one.kind other.kind → Yields m scope k.Bool (Compare test (as_kind (kind_between one.kind other.kind) x one.term) (as_kind (kind_between one.kind other.kind) y other.term))
compared m s scope test x y one other p q h e =
    compare_yields m scope test (as_kind (kind_between one.kind other.kind) x one.term) (as_kind (kind_between one.kind other.kind) y other.term)
    (subst (λ z. Yields m scope z (as_kind (kind_between one.kind other.kind) x one.term)) (sym e) (operand m s scope x one (kind_between one.kind other.kind) p h.0))
    (subst (λ z. Yields m scope z (as_kind (kind_between one.kind other.kind) y other.term)) (sym e) (operand m s scope y other (kind_between one.kind other.kind) q h.1))

-- ints and texts have an order, and what is alike to one of them is of its type
abbrev pub is_ordered : Kind → Bool
is_ordered q = same_kind q k.Int || same_kind q k.Text

activity_unordered : is_ordered k.Activity ≡ true → ⊥
activity_unordered h = cc

timer_unordered : is_ordered k.Timer ≡ true → ⊥
timer_unordered h = cc

ordered_first : (b : Bool) (one other : Kind) → (b ≡ true → one ≡ k.Activity) → is_ordered one ≡ true → (same_kind one other ≡ true) ⊎ ((b && same_kind other k.Timer) ≡ true) → one ≡ other
ordered_first b one other nothing h (inl e) = kinds_same one other e
ordered_first b one other nothing h (inr e) = absurd (activity_unordered (ap is_ordered (sym (nothing (both_true b (same_kind other k.Timer) e).0)) ∙ h))

ordered_second : (c : Bool) (one other : Kind) → is_ordered one ≡ true → (same_kind other one ≡ true) ⊎ ((c && same_kind one k.Timer) ≡ true) → one ≡ other
ordered_second c one other h (inl e) = sym (kinds_same other one e)
ordered_second c one other h (inr e) = absurd (timer_unordered (ap is_ordered (sym (kinds_same one k.Timer (both_true c (same_kind one k.Timer) e).1)) ∙ h))

ordered_by : (b c : Bool) (one other : Kind) → (b ≡ true → one ≡ k.Activity) → is_ordered one ≡ true → (Serves b one other) ⊎ (Serves c other one) → one ≡ other
ordered_by b c one other nothing h (inl e) = ordered_first b one other nothing h (either_true (same_kind one other) (b && same_kind other k.Timer) e)
ordered_by b c one other nothing h (inr e) = ordered_second c one other h (either_true (same_kind other one) (c && same_kind one k.Timer) e)

scale_is : (q : Kind) → is_ordered q ≡ true → on_scale (scale_of q) ≡ q
scale_is k.Int h = refl
scale_is k.Text h = refl
scale_is _ h = cc

-- what is ordered by a comparison is of the type of its scale
ordered : (m : Setting) (s : typing.Setting) (scope : Scope) (x y : Expression) (one other : Typed) → Operand m s scope x one → is_ordered one.kind ≡ true → alike x one.kind y other.kind ≡ true → on_scale (scale_of (kind_between one.kind other.kind)) ≡ kind_between one.kind other.kind
ordered m s scope x y one other p h e =
    let same : one.kind ≡ other.kind = ordered_by (is_nothing x) (is_nothing y) one.kind other.kind (nothing_is_activity s scope p.at x one p.found) h (either_true (serves x one.kind other.kind) (serves y other.kind one.kind) e) in
    let is : kind_between one.kind other.kind ≡ one.kind = between_is one.kind one.kind other.kind refl (sym same) in
    scale_is (kind_between one.kind other.kind) (ap is_ordered is ∙ h)

-- an operator between operands that fit its rule
pub operator_yields : (m : Setting) (s : typing.Setting) (scope : Scope) (op : Operator) (x y : Expression) (one other : Typed) → Operand m s scope x one → Operand m s scope y other → left_fits (rule_of op) x one.kind ≡ true → right_fits (rule_of op) x one.kind y other.kind ≡ true → Yields m scope (result_kind (rule_of op)) (between op (kind_between one.kind other.kind) (as_kind (kind_between one.kind other.kind) x one.term) (as_kind (kind_between one.kind other.kind) y other.term))
operator_yields m s scope o.Or x y one other p q f g = joins m s scope j.Either x y one other refl p q f g
operator_yields m s scope o.And x y one other p q f g = joins m s scope j.Both x y one other refl p q f g
operator_yields m s scope o.Join x y one other p q f g = joins m s scope j.Join x y one other refl p q f g
operator_yields m s scope o.Plus x y one other p q f g = joins m s scope j.Add x y one other refl p q f g
operator_yields m s scope o.Minus x y one other p q f g = joins m s scope j.Subtract x y one other refl p q f g
operator_yields m s scope o.Times x y one other p q f g = joins m s scope j.Multiply x y one other refl p q f g
operator_yields m s scope o.Divide x y one other p q f g = joins m s scope j.Divide x y one other refl p q f g
operator_yields m s scope o.Remainder x y one other p q f g = joins m s scope j.Remainder x y one other refl p q f g
operator_yields m s scope o.Equal x y one other p q f g = compared m s scope (t.Same (kind_between one.kind other.kind)) x y one other p q (alike_serves m s scope x y one other p q g) refl
operator_yields m s scope o.NotEqual x y one other p q f g = compared m s scope (t.Unlike (kind_between one.kind other.kind)) x y one other p q (alike_serves m s scope x y one other p q g) refl
operator_yields m s scope o.Less x y one other p q f g = compared m s scope (t.Below (scale_of (kind_between one.kind other.kind))) x y one other p q (alike_serves m s scope x y one other p q g) (ordered m s scope x y one other p f g)
operator_yields m s scope o.LessOrEqual x y one other p q f g = compared m s scope (t.AtMost (scale_of (kind_between one.kind other.kind))) x y one other p q (alike_serves m s scope x y one other p q g) (ordered m s scope x y one other p f g)
operator_yields m s scope o.Greater x y one other p q f g = compared m s scope (t.Above (scale_of (kind_between one.kind other.kind))) x y one other p q (alike_serves m s scope x y one other p q g) (ordered m s scope x y one other p f g)
operator_yields m s scope o.GreaterOrEqual x y one other p q f g = compared m s scope (t.AtLeast (scale_of (kind_between one.kind other.kind))) x y one other p q (alike_serves m s scope x y one other p q g) (ordered m s scope x y one other p f g)
