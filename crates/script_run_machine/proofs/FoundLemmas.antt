-- What was found in a value that a part gives.
use Rattle.std.proofs.Common.{◌≡◌, Option, Some, None, Ok, ap, ◌∙◌}
use Rattle.slee_effect.specs.declared.value.Val.{Val}
use Rattle.script_meaning.specs.Running.{Ending, Gave}
use Rattle.script_run_machine.specs.Machines.{MachineState, state_of}
use Rattle.script_run_machine.specs.Agreeing.{EndsFinding}
use Rattle.script_run_machine.specs.Kinds.{Finds}

pub found_there : {A : Type 0} (value_of : A → Val) (other : Val → Type 0) (x : Val) (ending : Ending Val) (new : MachineState) (found : Option A) → ending ≡ Gave x (state_of new) → Finds value_of other x found → EndsFinding value_of other ending new (Ok found)
found_there value_of other x ending new (Some n) given is = given ∙ ap (λ (y : Val). Gave y (state_of new)) is
found_there value_of other x ending new None given not = (x, (not, given))
