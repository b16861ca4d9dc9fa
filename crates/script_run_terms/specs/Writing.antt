-- A text that is written part by part.
use Rattle.std.specs.Prelude.{◌≡◌, ◌++◌, ℕ, List, Bool, true, false, Result, Ok, Err}
use Rattle.slee_value.specs.declared.value.Value.TheVariants as v
use Rattle.slee_effect.specs.declared.value.Val.{Val}
use Rattle.slee_effect.specs.declared.value.Val.TheVariants.{Plain}
use Rattle.script_meaning.specs.Running.{Ending, Gave}
use Rattle.script_run_machine.specs.Agreeing.{Stops}
use Rattle.script_run_machine.specs.Machines.{MachineState, state_of}
use Rattle.script_run_machine.specs.declared.stop.Stop.{Stop}

-- a value is written behind others where it is a text; any other isn't
abbrev pub Writes : Val → List ℕ → List ℕ → Bool → Type 0
Writes (Plain (v.Text t)) before behind is = (is ≡ true) × (behind ≡ before ++ t)
Writes _ before behind is = is ≡ false

-- what a part gives is written behind others
abbrev pub EndsWriting : Ending Val → MachineState → List ℕ → List ℕ → Result Bool Stop → Type 0
EndsWriting ending new before behind (Ok is) = (x : Val) × (Writes x before behind is × (ending ≡ Gave x (state_of new)))
EndsWriting ending new before behind (Err e) = Stops ending new e
