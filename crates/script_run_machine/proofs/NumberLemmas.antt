-- Operators and comparisons of numbers stay on values of other types.
use Rattle.std.proofs.Common.{◌≡◌, Bool, true, not, ℤ, int_lt, refl, ap}
use Rattle.std.specs.Ordering.{int_eq}
use Rattle.slee_value.specs.declared.kind.Kind.TheVariants as kind
use Rattle.slee_value.specs.declared.value.Value.TheVariants as v
use Rattle.slee_effect.specs.declared.value.Val.{Val}
use Rattle.slee_effect.specs.declared.value.Val.TheVariants.{Plain, NewActivity, NewTimer}
use Rattle.script_types.specs.declared.term.Joint.{Joint}
use Rattle.script_types.specs.declared.term.Joint.TheVariants as j
use Rattle.script_types.specs.declared.term.Scale.TheVariants as scale
use Rattle.script_types.specs.declared.term.Test.{Test}
use Rattle.script_types.specs.declared.term.Test.TheVariants as t
use Rattle.script_meaning.specs.Running.{State, Ending, Stays, Run, then_run, give}
use Rattle.script_meaning.specs.Values.{int, flag, with_int, apply, compare, same_values, is_less, two_ints, flagged}
use Rattle.script_run_machine.specs.Kinds.{NoInt, is_of_numbers}
use Rattle.script_run_machine.proofs.KindLemmas.{no_int_stays}

-- an operator of another type stays on a number
pub right_stays : (joint : Joint) (n : ℤ) (y : Val) (st : State) → NoInt y → apply joint (int n) y st ≡ Stays
right_stays j.Add n y st other = no_int_stays y _ st other
right_stays j.Subtract n y st other = no_int_stays y _ st other
right_stays j.Multiply n y st other = no_int_stays y _ st other
right_stays j.Divide n y st other = no_int_stays y _ st other
right_stays j.Remainder n y st other = no_int_stays y _ st other
right_stays j.Join n y st other = refl
right_stays j.Both n y st other = refl
right_stays j.Either n y st other = refl

second_stays : {A : Type 0} (g : ℤ → ℤ → Run A) (y x : Val) (st : State) → NoInt x → two_ints g y x st ≡ Stays
second_stays g (Plain (v.Int n)) x st other = no_int_stays x (g n) st other
second_stays g (Plain (v.Text t)) x st other = refl
second_stays g (Plain (v.Bool b)) x st other = refl
second_stays g (Plain (v.Activity a)) x st other = refl
second_stays g (Plain (v.Timer t)) x st other = refl
second_stays g (NewActivity n) x st other = refl
second_stays g (NewTimer n) x st other = refl

flagged_stays : (g : Bool → Bool) (m : Run Bool) (st : State) → m st ≡ Stays → flagged g m st ≡ Stays
flagged_stays g m st h = ap (λ (e : Ending Bool). then_run e (λ b. give (flag (g b)))) h

same_left : (x y : Val) (st : State) → NoInt x → same_values kind.Int x y st ≡ Stays
same_left x y st other = no_int_stays x (λ m. with_int y (λ n. give (int_eq m n))) st other

same_right : (x y : Val) (st : State) → NoInt y → same_values kind.Int x y st ≡ Stays
same_right x y st other = second_stays (λ m n. give (int_eq m n)) x y st other

less_left : (x y : Val) (st : State) → NoInt x → is_less scale.Int x y st ≡ Stays
less_left x y st other = no_int_stays x (λ m. with_int y (λ n. give (int_lt m n))) st other

less_right : (x y : Val) (st : State) → NoInt y → is_less scale.Int x y st ≡ Stays
less_right x y st other = second_stays (λ m n. give (int_lt m n)) x y st other

-- a comparison of numbers stays where one side is none
pub left_compared : (test : Test) (x y : Val) (st : State) → is_of_numbers test ≡ true → NoInt x → compare test x y st ≡ Stays
left_compared (t.Same kind.Int) x y st is other = flagged_stays (λ b. b) (same_values kind.Int x y) st (same_left x y st other)
left_compared (t.Same kind.Text) x y st is other = absurd cc
left_compared (t.Same kind.Bool) x y st is other = absurd cc
left_compared (t.Same kind.Activity) x y st is other = absurd cc
left_compared (t.Same kind.Timer) x y st is other = absurd cc
left_compared (t.Unlike kind.Int) x y st is other = flagged_stays not (same_values kind.Int x y) st (same_left x y st other)
left_compared (t.Unlike kind.Text) x y st is other = absurd cc
left_compared (t.Unlike kind.Bool) x y st is other = absurd cc
left_compared (t.Unlike kind.Activity) x y st is other = absurd cc
left_compared (t.Unlike kind.Timer) x y st is other = absurd cc
left_compared (t.Below scale.Int) x y st is other = flagged_stays (λ b. b) (is_less scale.Int x y) st (less_left x y st other)
left_compared (t.Below scale.Text) x y st is other = absurd cc
left_compared (t.AtMost scale.Int) x y st is other = flagged_stays not (is_less scale.Int y x) st (less_right y x st other)
left_compared (t.AtMost scale.Text) x y st is other = absurd cc
left_compared (t.Above scale.Int) x y st is other = flagged_stays (λ b. b) (is_less scale.Int y x) st (less_right y x st other)
left_compared (t.Above scale.Text) x y st is other = absurd cc
left_compared (t.AtLeast scale.Int) x y st is other = flagged_stays not (is_less scale.Int x y) st (less_left x y st other)
left_compared (t.AtLeast scale.Text) x y st is other = absurd cc

pub right_compared : (test : Test) (x y : Val) (st : State) → is_of_numbers test ≡ true → NoInt y → compare test x y st ≡ Stays
right_compared (t.Same kind.Int) x y st is other = flagged_stays (λ b. b) (same_values kind.Int x y) st (same_right x y st other)
right_compared (t.Same kind.Text) x y st is other = absurd cc
right_compared (t.Same kind.Bool) x y st is other = absurd cc
right_compared (t.Same kind.Activity) x y st is other = absurd cc
right_compared (t.Same kind.Timer) x y st is other = absurd cc
right_compared (t.Unlike kind.Int) x y st is other = flagged_stays not (same_values kind.Int x y) st (same_right x y st other)
right_compared (t.Unlike kind.Text) x y st is other = absurd cc
right_compared (t.Unlike kind.Bool) x y st is other = absurd cc
right_compared (t.Unlike kind.Activity) x y st is other = absurd cc
right_compared (t.Unlike kind.Timer) x y st is other = absurd cc
right_compared (t.Below scale.Int) x y st is other = flagged_stays (λ b. b) (is_less scale.Int x y) st (less_right x y st other)
right_compared (t.Below scale.Text) x y st is other = absurd cc
right_compared (t.AtMost scale.Int) x y st is other = flagged_stays not (is_less scale.Int y x) st (less_left y x st other)
right_compared (t.AtMost scale.Text) x y st is other = absurd cc
right_compared (t.Above scale.Int) x y st is other = flagged_stays (λ b. b) (is_less scale.Int y x) st (less_left y x st other)
right_compared (t.Above scale.Text) x y st is other = absurd cc
right_compared (t.AtLeast scale.Int) x y st is other = flagged_stays not (is_less scale.Int x y) st (less_right x y st other)
right_compared (t.AtLeast scale.Text) x y st is other = absurd cc
