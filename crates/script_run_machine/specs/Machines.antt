-- What is seen of a machine: the state of its run, and all names of the deployment, by whose numbers names are told apart.
use Rattle.std.specs.Prelude.{ℕ, Bool, List}
use Rattle.script_meaning.specs.declared.key.Key.{Key}
use Rattle.slee_effect.specs.declared.effect.Effect.{Effect}
use Rattle.script_meaning.specs.Running.{State, Variable}

pub record MachineState : Type 0 where
  pub variables : List Variable
  pub left : ℕ
  pub asked : Bool
  pub keys : List Key
  pub effects : List Effect
  pub names : List (List ℕ)

-- the state of the run
abbrev pub state_of : MachineState → State
state_of m = record { variables = m.variables; left = m.left; asked = m.asked; keys = m.keys; effects = m.effects }
