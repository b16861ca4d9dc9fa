-- Values by their kind, and what operators make of them. A part of a program that isn't checked stays where a value is of another kind.
use Rattle.std.specs.Prelude.{ℕ, ◌+◌, ◌-◌, ◌^◌, Bool, true, false, not, ◌&&◌, nat_le, List, ◌++◌, length, ℤ, pos, negsuc, ◌+ℤ◌, ◌-ℤ◌, ◌*ℤ◌, int_lt, int_le, int_div, int_rem, bytes_eq, codes, if◌then◌else◌}
use Rattle.std.specs.Ordering.{int_eq}
use Rattle.std.specs.Fmt.{signed_decimal}
use Rattle.slee_value.specs.Order.{is_below}
use Rattle.slee_value.specs.declared.kind.Kind.{Kind}
use Rattle.slee_value.specs.declared.kind.Kind.TheVariants as kind
use Rattle.slee_value.specs.declared.value.Value.TheVariants as v
use Rattle.slee_effect.specs.declared.reference.Ref.{Ref}
use Rattle.slee_effect.specs.declared.reference.Ref.TheVariants.{Known, Fresh}
use Rattle.slee_effect.specs.declared.value.Val.{Val}
use Rattle.slee_effect.specs.declared.value.Val.TheVariants.{Plain, NewActivity, NewTimer}
use Rattle.script_meaning.specs.declared.outcome.FailKind.TheVariants as f
use Rattle.script_types.specs.declared.term.Joint.{Joint}
use Rattle.script_types.specs.declared.term.Joint.TheVariants as j
use Rattle.script_types.specs.declared.term.Scale.{Scale}
use Rattle.script_types.specs.declared.term.Scale.TheVariants as scale
use Rattle.script_types.specs.declared.term.Test.{Test}
use Rattle.script_types.specs.declared.term.Test.TheVariants as t
use Rattle.script_meaning.specs.Overlay.{same_ref}
use Rattle.script_meaning.specs.Running.{Run, ◌>>=◌, give, stay, break}

abbrev pub int : ℤ → Val
int n = Plain (v.Int n)

abbrev pub text : List ℕ → Val
text t = Plain (v.Text t)

abbrev pub flag : Bool → Val
flag b = Plain (v.Bool b)

-- the activity as a value
abbrev pub activity_value : Ref → Val
activity_value (Known n) = Plain (v.Activity (record { 0 = n }))
activity_value (Fresh n) = NewActivity n

abbrev pub with_int : {A : Type 0} → Val → (ℤ → Run A) → Run A
with_int (Plain (v.Int n)) g = g n
with_int _ g = stay

abbrev pub with_text : {A : Type 0} → Val → (List ℕ → Run A) → Run A
with_text (Plain (v.Text t)) g = g t
with_text _ g = stay

abbrev pub with_flag : {A : Type 0} → Val → (Bool → Run A) → Run A
with_flag (Plain (v.Bool b)) g = g b
with_flag _ g = stay

abbrev pub with_activity : {A : Type 0} → Val → (Ref → Run A) → Run A
with_activity (Plain (v.Activity a)) g = g (Known a.0)
with_activity (NewActivity n) g = g (Fresh n)
with_activity _ g = stay

abbrev pub with_timer : {A : Type 0} → Val → (Ref → Run A) → Run A
with_timer (Plain (v.Timer t)) g = g (Known t.0)
with_timer (NewTimer n) g = g (Fresh n)
with_timer _ g = stay

-- a number, which fails outside 64 bits
abbrev pub number : ℤ → Run Val
number n = if int_le (negsuc (2 ^ 63 - 1)) n && int_lt n (pos (2 ^ 63)) then give (int n) else break f.Overflow

-- division cuts toward zero, and what remains has the dividend's sign
abbrev pub divided : (ℤ → ℤ → ℤ) → ℤ → ℤ → Run Val
divided by m n = if int_eq n (pos 0) then break f.ZeroDivisor else number (by m n)

abbrev pub two_ints : {A : Type 0} → (ℤ → ℤ → Run A) → Val → Val → Run A
two_ints g x y = with_int x (λ m. with_int y (λ n. g m n))

abbrev pub two_texts : {A : Type 0} → (List ℕ → List ℕ → Run A) → Val → Val → Run A
two_texts g x y = with_text x (λ m. with_text y (λ n. g m n))

-- the most bytes of a text that a script makes
abbrev pub text_limit : ℕ
text_limit = 4_096

-- two texts as one
abbrev pub joined : List ℕ → List ℕ → Run Val
joined m n = if nat_le (length m + length n) text_limit then give (text (m ++ n)) else break f.TooLong

-- the right side of `and` and `or`
abbrev pub same_flag : Val → Run Val
same_flag y = with_flag y (λ b. give (flag b))

-- an operator between two values; of `and` and `or` the left one left the choice to the right one
abbrev pub apply : Joint → Val → Val → Run Val
apply j.Add x y = two_ints (λ m n. number (m +ℤ n)) x y
apply j.Subtract x y = two_ints (λ m n. number (m -ℤ n)) x y
apply j.Multiply x y = two_ints (λ m n. number (m *ℤ n)) x y
apply j.Divide x y = two_ints (divided int_div) x y
apply j.Remainder x y = two_ints (divided int_rem) x y
apply j.Join x y = two_texts joined x y
apply j.Both x y = with_flag x (λ _. same_flag y)
apply j.Either x y = with_flag x (λ _. same_flag y)

-- whether the left side alone is the whole
abbrev pub decides : Joint → Val → Bool
decides j.Both (Plain (v.Bool b)) = not b
decides j.Either (Plain (v.Bool b)) = b
decides _ _ = false

abbrev pub same_bool : Bool → Bool → Bool
same_bool true b = b
same_bool false b = not b

-- whether two values of a kind are the same
abbrev pub same_values : Kind → Val → Val → Run Bool
same_values kind.Int x y = two_ints (λ m n. give (int_eq m n)) x y
same_values kind.Text x y = two_texts (λ m n. give (bytes_eq m n)) x y
same_values kind.Bool x y = with_flag x (λ b. with_flag y (λ c. give (same_bool b c)))
same_values kind.Activity x y = with_activity x (λ a. with_activity y (λ b. give (same_ref a b)))
same_values kind.Timer x y = with_timer x (λ a. with_timer y (λ b. give (same_ref a b)))

-- whether one value is below another, texts in byte order
abbrev pub is_less : Scale → Val → Val → Run Bool
is_less scale.Int x y = two_ints (λ m n. give (int_lt m n)) x y
is_less scale.Text x y = two_texts (λ m n. give (is_below m n)) x y

abbrev pub flagged : (Bool → Bool) → Run Bool → Run Val
flagged g m = do
  b ← m
  give (flag (g b))

-- a comparison of two values
abbrev pub compare : Test → Val → Val → Run Val
compare (t.Same q) x y = flagged (λ b. b) (same_values q x y)
compare (t.Unlike q) x y = flagged not (same_values q x y)
compare (t.Below q) x y = flagged (λ b. b) (is_less q x y)
compare (t.AtMost q) x y = flagged not (is_less q y x)
compare (t.Above q) x y = flagged (λ b. b) (is_less q y x)
compare (t.AtLeast q) x y = flagged not (is_less q x y)

-- a number or a truth value as text
abbrev pub text_of_int : Val → Run Val
text_of_int x = with_int x (λ n. give (text (signed_decimal n)))

abbrev pub text_of_bool : Val → Run Val
text_of_bool x = with_flag x (λ b. give (text (if b then codes "true" else codes "false")))
