-- What is reached by legal histories, and what two sides of a journal leave.
use Rattle.std.specs.Prelude.{◌≡◌, ℕ, List, Some}
use Rattle.script_types.specs.Program.{Program}
use Rattle.deploy_model.specs.Deployed.{Deployed}
use Rattle.router_state.specs.Restoring.{state_of_snapshot}
use Rattle.router_state.specs.State.{State}
use Rattle.router_steps.specs.Histories.{Legal, replay}
use Rattle.trace_history.specs.declared.entry.Entry.{Entry}

-- a legal history leaves this state of that one
pub record IsReached (start s : State) : Type 0 where
  pub history : List Entry
  pub legal : Legal start history
  pub leaves : replay start history ≡ s

-- A legal history leaves it of the state for which a snapshot stands: of the first one, where the snapshot is empty.
pub record IsRestarted (d : Deployed) (program : Program) (s : State) : Type 0 where
  pub format : ℕ
  pub text : List ℕ
  pub base : State
  pub stands : state_of_snapshot format d program text ≡ Some base
  pub reached : IsReached base s
