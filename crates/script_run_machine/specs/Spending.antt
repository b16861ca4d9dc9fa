-- Units that are spent at once.
use Rattle.std.specs.Prelude.{◌≡◌, ◌+◌, ℕ, ℤ, List}
use Rattle.slee_effect.specs.declared.value.Val.{Val}
use Rattle.script_meaning.specs.Running.{State, Variable, Run, Gave, assign}
use Rattle.script_meaning.specs.Values.{int}
use Rattle.script_run_machine.specs.Machines.{MachineState, state_of}

-- a state with so many units more
abbrev pub with_units : ℕ → State → State
with_units units st = record st { left = st.left + units }

-- where the variables are these, a part takes so many units, gives this, and changes nothing else
abbrev pub Costs : {A : Type 0} → ℕ → List Variable → Run A → A → Type 0
Costs units variables run x = (st : State) → st.variables ≡ variables → run (with_units units st) ≡ Gave x st

-- so many units are spent, and a variable has another number
abbrev pub Assigns : ℕ → ℕ → ℤ → MachineState → MachineState → Type 0
Assigns units place n old new = (old.left ≡ new.left + units) × (assign place (int n) (record (state_of old) { left = new.left }) ≡ Gave tt (state_of new))
