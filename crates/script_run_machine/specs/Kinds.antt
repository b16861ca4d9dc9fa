-- Reading a value whose type is known. A value of another type is no part of a checked program.
use Rattle.std.specs.Prelude.{◌≡◌, Bool, true, false, Option, Some, None, Result, Ok, Err}
use Rattle.slee_value.specs.declared.kind.Kind.TheVariants as kind
use Rattle.slee_value.specs.declared.value.Value.TheVariants as v
use Rattle.slee_effect.specs.declared.reference.Ref.{Ref}
use Rattle.slee_effect.specs.declared.reference.Ref.TheVariants.{Known, Fresh}
use Rattle.slee_effect.specs.declared.value.Val.{Val}
use Rattle.slee_effect.specs.declared.value.Val.TheVariants.{Plain, NewActivity, NewTimer}
use Rattle.script_types.specs.declared.term.Joint.{Joint}
use Rattle.script_types.specs.declared.term.Joint.TheVariants as j
use Rattle.script_types.specs.declared.term.Scale.TheVariants as scale
use Rattle.script_types.specs.declared.term.Test.{Test}
use Rattle.script_types.specs.declared.term.Test.TheVariants as t
use Rattle.script_run_machine.specs.declared.stop.Stop.{Stop}
use Rattle.script_run_machine.specs.declared.stop.Stop.TheVariants as stop

-- the timer as a value
abbrev pub timer_value : Ref → Val
timer_value (Known n) = Plain (v.Timer (record { 0 = n }))
timer_value (Fresh n) = NewTimer n

abbrev pub NoInt : Val → Type 0
NoInt (Plain (v.Int n)) = ⊥
NoInt _ = Unit {0}

abbrev pub NoText : Val → Type 0
NoText (Plain (v.Text t)) = ⊥
NoText _ = Unit {0}

abbrev pub NoFlag : Val → Type 0
NoFlag (Plain (v.Bool b)) = ⊥
NoFlag _ = Unit {0}

abbrev pub NoActivity : Val → Type 0
NoActivity (Plain (v.Activity a)) = ⊥
NoActivity (NewActivity n) = ⊥
NoActivity _ = Unit {0}

abbrev pub NoTimer : Val → Type 0
NoTimer (Plain (v.Timer t)) = ⊥
NoTimer (NewTimer n) = ⊥
NoTimer _ = Unit {0}

-- what was read of a value: what it holds, or that it is of another type
abbrev pub Reads : {A : Type 0} → (A → Val) → (Val → Type 0) → Val → Result A Stop → Type 0
Reads value_of other x (Ok y) = x ≡ value_of y
Reads value_of other x (Err e) = (e ≡ stop.Unchecked) × other x

-- what was found in a value: what it holds, or nothing where it is of another type
abbrev pub Finds : {A : Type 0} → (A → Val) → (Val → Type 0) → Val → Option A → Type 0
Finds value_of other x (Some y) = x ≡ value_of y
Finds value_of other x None = other x

-- operators between numbers
abbrev pub is_arithmetic : Joint → Bool
is_arithmetic j.Add = true
is_arithmetic j.Subtract = true
is_arithmetic j.Multiply = true
is_arithmetic j.Divide = true
is_arithmetic j.Remainder = true
is_arithmetic _ = false

-- operators between truth values
abbrev pub is_choice : Joint → Bool
is_choice j.Both = true
is_choice j.Either = true
is_choice _ = false

-- comparisons of numbers
abbrev pub is_of_numbers : Test → Bool
is_of_numbers (t.Same kind.Int) = true
is_of_numbers (t.Unlike kind.Int) = true
is_of_numbers (t.Below scale.Int) = true
is_of_numbers (t.AtMost scale.Int) = true
is_of_numbers (t.Above scale.Int) = true
is_of_numbers (t.AtLeast scale.Int) = true
is_of_numbers _ = false
