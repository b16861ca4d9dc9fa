-- What operators, comparisons and questions make of values of their types.
use Rattle.std.proofs.Common.{◌≡◌, ◌+◌, true, false, Bool, ℕ, List, ◌++◌, length, refl}
use Rattle.std.specs.Prelude.{ℤ, pos, negsuc, not, ◌^◌, ◌-◌, ◌&&◌, ◌+ℤ◌, ◌-ℤ◌, ◌*ℤ◌, nat_le, int_le, int_lt, int_div, int_rem, cond}
use Rattle.std.specs.Ordering.{int_eq}
use Rattle.slee_value.specs.declared.kind.Kind.{Kind}
use Rattle.slee_value.specs.declared.kind.Kind.TheVariants as k
use Rattle.slee_effect.specs.declared.reference.Ref.{Ref}
use Rattle.slee_effect.specs.declared.reference.Ref.TheVariants.{Known, Fresh}
use Rattle.slee_effect.specs.declared.value.Val.{Val}
use Rattle.script_types.specs.declared.term.Joint.{Joint}
use Rattle.script_types.specs.declared.term.Joint.TheVariants as j
use Rattle.script_types.specs.declared.term.Scale.{Scale}
use Rattle.script_types.specs.declared.term.Scale.TheVariants as scale
use Rattle.script_types.specs.declared.term.Test.{Test}
use Rattle.script_types.specs.declared.term.Test.TheVariants as t
use Rattle.script_types.specs.Scopes.{Scope}
use Rattle.script_meaning.specs.declared.outcome.FailKind.TheVariants as f
use Rattle.script_meaning.specs.Answers.{is_of}
use Rattle.script_meaning.specs.Running.{Setting, State, Run, then_run, give, break}
use Rattle.script_meaning.specs.Values.{int, text, flag, number, divided, text_limit, joined, apply, decides, same_values, is_less, compare, flagged, text_of_int, text_of_bool, activity_value}
use Rattle.script_meaning.specs.Terms.{combine}
use Rattle.script_laws.specs.Fitting.{Safe, Is, Keeps, Sound}
use Rattle.script_laws.proofs.SafeRuns.{safe_then, with_int_safe, with_text_safe, with_flag_safe, with_activity_safe, with_timer_safe}

-- one of two parts, by a test
pub safe_either : {A : Type 0} (given : Setting) (Q : A → State → Type 0) (b : Bool) (m n : Run A) (st : State) → Safe given Q (m st) → Safe given Q (n st) → Safe given Q (cond b m n st)
safe_either given Q true m n st h g = h
safe_either given Q false m n st h g = g

pub number_safe : (given : Setting) (n : ℤ) (scope : Scope) (st : State) → Sound given scope st → Safe given (Is given k.Int scope) (number n st)
number_safe given n scope st fits = safe_either given (Is given k.Int scope) (int_le (negsuc (2 ^ 63 - 1)) n && int_lt n (pos (2 ^ 63))) (give (int n)) (break f.Overflow) st (refl, fits) fits.1

divided_safe : (given : Setting) (by : ℤ → ℤ → ℤ) (m n : ℤ) (scope : Scope) (st : State) → Sound given scope st → Safe given (Is given k.Int scope) (divided by m n st)
divided_safe given by m n scope st fits = safe_either given (Is given k.Int scope) (int_eq n (pos 0)) (break f.ZeroDivisor) (number (by m n)) st fits.1 (number_safe given (by m n) scope st fits)

joined_safe : (given : Setting) (m n : List ℕ) (scope : Scope) (st : State) → Sound given scope st → Safe given (Is given k.Text scope) (joined m n st)
joined_safe given m n scope st fits = safe_either given (Is given k.Text scope) (nat_le (length m + length n) text_limit) (give (text (m ++ n))) (break f.TooLong) st (refl, fits) fits.1

-- the type of an operator's left side, and of the whole
abbrev pub side_of : Joint → Kind
side_of j.Join = k.Text
side_of j.Both = k.Bool
side_of j.Either = k.Bool
side_of _ = k.Int

-- an operator between values of its type gives a value of its type
pub apply_safe : (given : Setting) (joint : Joint) (x y : Val) (scope : Scope) (st : State) → is_of (side_of joint) x ≡ true → is_of (side_of joint) y ≡ true → Sound given scope st → Safe given (Is given (side_of joint) scope) (apply joint x y st)
apply_safe given j.Add x y scope st g h fits = with_int_safe given (Is given k.Int scope) x _ st g (λ m. with_int_safe given (Is given k.Int scope) y _ st h (λ n. number_safe given (m +ℤ n) scope st fits))
apply_safe given j.Subtract x y scope st g h fits = with_int_safe given (Is given k.Int scope) x _ st g (λ m. with_int_safe given (Is given k.Int scope) y _ st h (λ n. number_safe given (m -ℤ n) scope st fits))
apply_safe given j.Multiply x y scope st g h fits = with_int_safe given (Is given k.Int scope) x _ st g (λ m. with_int_safe given (Is given k.Int scope) y _ st h (λ n. number_safe given (m *ℤ n) scope st fits))
apply_safe given j.Divide x y scope st g h fits = with_int_safe given (Is given k.Int scope) x _ st g (λ m. with_int_safe given (Is given k.Int scope) y _ st h (λ n. divided_safe given int_div m n scope st fits))
apply_safe given j.Remainder x y scope st g h fits = with_int_safe given (Is given k.Int scope) x _ st g (λ m. with_int_safe given (Is given k.Int scope) y _ st h (λ n. divided_safe given int_rem m n scope st fits))
apply_safe given j.Join x y scope st g h fits = with_text_safe given (Is given k.Text scope) x _ st g (λ m. with_text_safe given (Is given k.Text scope) y _ st h (λ n. joined_safe given m n scope st fits))
apply_safe given j.Both x y scope st g h fits = with_flag_safe given (Is given k.Bool scope) x _ st g (λ _. with_flag_safe given (Is given k.Bool scope) y _ st h (λ b. (refl, fits)))
apply_safe given j.Either x y scope st g h fits = with_flag_safe given (Is given k.Bool scope) x _ st g (λ _. with_flag_safe given (Is given k.Bool scope) y _ st h (λ b. (refl, fits)))

-- an operator behind its left side, which may be the whole
pub combine_safe : (given : Setting) (joint : Joint) (x : Val) (m : Run Val) (scope : Scope) (st : State) → is_of (side_of joint) x ≡ true → Sound given scope st → Safe given (Is given (side_of joint) scope) (m st) → Safe given (Is given (side_of joint) scope) (combine joint x m st)
combine_safe given joint x m scope st g fits h =
    safe_either given (Is given (side_of joint) scope) (decides joint x) (give x) (λ st. then_run (m st) (apply joint x)) st (g, fits)
    (safe_then given (Is given (side_of joint) scope) (Is given (side_of joint) scope) (m st) (apply joint x) h (λ y new r. apply_safe given joint x y scope new g r.0 r.1))

same_values_safe : (given : Setting) (q : Kind) (x y : Val) (scope : Scope) (st : State) → is_of q x ≡ true → is_of q y ≡ true → Sound given scope st → Safe given (Keeps given scope) (same_values q x y st)
same_values_safe given k.Int x y scope st g h fits = with_int_safe given (Keeps given scope) x _ st g (λ m. with_int_safe given (Keeps given scope) y _ st h (λ n. fits))
same_values_safe given k.Text x y scope st g h fits = with_text_safe given (Keeps given scope) x _ st g (λ m. with_text_safe given (Keeps given scope) y _ st h (λ n. fits))
same_values_safe given k.Bool x y scope st g h fits = with_flag_safe given (Keeps given scope) x _ st g (λ m. with_flag_safe given (Keeps given scope) y _ st h (λ n. fits))
same_values_safe given k.Activity x y scope st g h fits = with_activity_safe given (Keeps given scope) x _ st g (λ m. with_activity_safe given (Keeps given scope) y _ st h (λ n. fits))
same_values_safe given k.Timer x y scope st g h fits = with_timer_safe given (Keeps given scope) x _ st g (λ m. with_timer_safe given (Keeps given scope) y _ st h (λ n. fits))

-- the type of what a scale orders
abbrev pub on_scale : Scale → Kind
on_scale scale.Int = k.Int
on_scale scale.Text = k.Text

is_less_safe : (given : Setting) (q : Scale) (x y : Val) (scope : Scope) (st : State) → is_of (on_scale q) x ≡ true → is_of (on_scale q) y ≡ true → Sound given scope st → Safe given (Keeps given scope) (is_less q x y st)
is_less_safe given scale.Int x y scope st g h fits = with_int_safe given (Keeps given scope) x _ st g (λ m. with_int_safe given (Keeps given scope) y _ st h (λ n. fits))
is_less_safe given scale.Text x y scope st g h fits = with_text_safe given (Keeps given scope) x _ st g (λ m. with_text_safe given (Keeps given scope) y _ st h (λ n. fits))

flagged_safe : (given : Setting) (g : Bool → Bool) (m : Run Bool) (scope : Scope) (st : State) → Safe given (Keeps given scope) (m st) → Safe given (Is given k.Bool scope) (flagged g m st)
flagged_safe given g m scope st h = safe_then given (Keeps given scope) (Is given k.Bool scope) (m st) (λ b. give (flag (g b))) h (λ b new kept. (refl, kept))

-- the type of both sides of a comparison
abbrev pub compares : Test → Kind
compares (t.Same q) = q
compares (t.Unlike q) = q
compares (t.Below q) = on_scale q
compares (t.AtMost q) = on_scale q
compares (t.Above q) = on_scale q
compares (t.AtLeast q) = on_scale q

pub compare_safe : (given : Setting) (test : Test) (x y : Val) (scope : Scope) (st : State) → is_of (compares test) x ≡ true → is_of (compares test) y ≡ true → Sound given scope st → Safe given (Is given k.Bool scope) (compare test x y st)
compare_safe given (t.Same q) x y scope st g h fits = flagged_safe given (λ b. b) (same_values q x y) scope st (same_values_safe given q x y scope st g h fits)
compare_safe given (t.Unlike q) x y scope st g h fits = flagged_safe given not (same_values q x y) scope st (same_values_safe given q x y scope st g h fits)
compare_safe given (t.Below q) x y scope st g h fits = flagged_safe given (λ b. b) (is_less q x y) scope st (is_less_safe given q x y scope st g h fits)
compare_safe given (t.AtMost q) x y scope st g h fits = flagged_safe given not (is_less q y x) scope st (is_less_safe given q y x scope st h g fits)
compare_safe given (t.Above q) x y scope st g h fits = flagged_safe given (λ b. b) (is_less q y x) scope st (is_less_safe given q y x scope st h g fits)
compare_safe given (t.AtLeast q) x y scope st g h fits = flagged_safe given not (is_less q x y) scope st (is_less_safe given q x y scope st g h fits)

pub text_of_int_safe : (given : Setting) (x : Val) (scope : Scope) (st : State) → is_of k.Int x ≡ true → Sound given scope st → Safe given (Is given k.Text scope) (text_of_int x st)
text_of_int_safe given x scope st h fits = with_int_safe given (Is given k.Text scope) x _ st h (λ n. (refl, fits))

pub text_of_bool_safe : (given : Setting) (x : Val) (scope : Scope) (st : State) → is_of k.Bool x ≡ true → Sound given scope st → Safe given (Is given k.Text scope) (text_of_bool x st)
text_of_bool_safe given x scope st h fits = with_flag_safe given (Is given k.Text scope) x _ st h (λ n. (refl, fits))

pub activity_is : (a : Ref) → is_of k.Activity (activity_value a) ≡ true
activity_is (Known n) = refl
activity_is (Fresh n) = refl
