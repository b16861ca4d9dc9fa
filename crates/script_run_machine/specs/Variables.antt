-- Variables in memory, as the meaning of scripts sees them.
use Rattle.std.specs.Prelude.{ℕ, ℤ, List, Option, Some, None}
use Rattle.slee_value.specs.declared.value.Value.TheVariants as v
use Rattle.slee_effect.specs.declared.value.Val.{Val}
use Rattle.slee_effect.specs.declared.value.Val.TheVariants.{Plain}
use Rattle.slee_effect.specs.declared.reference.Ref.{Ref}
use Rattle.script_run_machine.specs.declared.variable.Held.{Held}
use Rattle.script_run_machine.specs.declared.variable.Held.TheVariants as held
use Rattle.script_meaning.specs.Running.{Variable, Holds, Child}

abbrev pub variable_of : Held → Variable
variable_of (held.Value x) = Holds x
variable_of (held.Child e) = Child e

-- the value that a variable holds, and the child for which it stands
abbrev pub value_in : Variable → Option Val
value_in (Holds x) = Some x
value_in (Child e) = None

abbrev pub child_in : Variable → Option Ref
child_in (Holds x) = None
child_in (Child e) = Some e

-- the number that a variable holds, and the text
abbrev pub number_held : Option Variable → Option ℤ
number_held (Some (Holds (Plain (v.Int n)))) = Some n
number_held _ = None

abbrev pub text_held : Option Variable → Option (List ℕ)
text_held (Some (Holds (Plain (v.Text t)))) = Some t
text_held _ = None
