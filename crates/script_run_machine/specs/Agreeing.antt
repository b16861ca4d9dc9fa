-- What a function of the machine answers: what the meaning of that part of a script says, from the state before to the state behind it.
use Rattle.std.specs.Prelude.{◌≡◌, Option, Some, None, Result, Ok, Err, box_value}
use Rattle.script_meaning.specs.declared.outcome.FailKind.TheVariants as f
use Rattle.script_meaning.specs.Running.{Ending, Gave, Broke, Needs, Stays, Run, word_of}
use Rattle.slee_effect.specs.declared.value.Val.{Val}
use Rattle.script_run_machine.specs.Machines.{MachineState, state_of}
use Rattle.script_run_machine.specs.declared.stop.Stop.{Stop}
use Rattle.script_run_machine.specs.declared.stop.Stop.TheVariants as stop

-- want of memory alone may come anywhere
abbrev pub Stops : {A : Type 0} → Ending A → MachineState → Stop → Type 0
Stops ending new stop.NoMemory = Unit {0}
Stops ending new (stop.Broken kind) = ending ≡ Broke kind (word_of kind) (state_of new)
Stops ending new (stop.Thrown text) = ending ≡ Broke f.Thrown (box_value text) (state_of new)
Stops ending new (stop.Need key) = ending ≡ Needs (box_value key)
Stops ending new stop.Unchecked = ending ≡ Stays

abbrev pub Ends : {A : Type 0} → Ending A → MachineState → Result A Stop → Type 0
Ends ending new (Ok x) = ending ≡ Gave x (state_of new)
Ends ending new (Err e) = Stops ending new e

abbrev pub Agrees : {A : Type 0} → Run A → MachineState → MachineState → Result A Stop → Type 0
Agrees run old new result = Ends (run (state_of old)) new result

-- the same of an answer that is seen as something else
abbrev pub EndsAs : {A B : Type 0} → (B → A) → Ending A → MachineState → Result B Stop → Type 0
EndsAs view ending new (Ok x) = ending ≡ Gave (view x) (state_of new)
EndsAs view ending new (Err e) = Stops ending new e

abbrev pub AgreesAs : {A B : Type 0} → (B → A) → Run A → MachineState → MachineState → Result B Stop → Type 0
AgreesAs view run old new result = EndsAs view (run (state_of old)) new result

-- what a part gives, where it is of one type; where it gives something of another, only that
abbrev pub EndsFinding : {A : Type 0} → (A → Val) → (Val → Type 0) → Ending Val → MachineState → Result (Option A) Stop → Type 0
EndsFinding value_of other ending new (Ok (Some x)) = ending ≡ Gave (value_of x) (state_of new)
EndsFinding value_of other ending new (Ok None) = (x : Val) × (other x × (ending ≡ Gave x (state_of new)))
EndsFinding value_of other ending new (Err e) = Stops ending new e
