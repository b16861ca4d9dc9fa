-- What is asked of a deployment so that its states can be kept: each that a legal history reaches has a snapshot that stands for it.
use Rattle.std.specs.Prelude.{ℕ, ◌<◌, ◌+◌, ◌^◌, length}
use Rattle.script_types.specs.Program.{Program}
use Rattle.deploy_model.specs.Deployed.{Deployed}
use Rattle.router_laws_reading.specs.Holding.{CanHold}
use Rattle.router_laws_runs.specs.AsRead.{IsAsRead}
use Rattle.router_laws_snapshots.specs.Named.{IsNamed}
use Rattle.router_state.specs.State.{State}
use Rattle.router_state.specs.Well.{IsWell}

-- The deployment and its program are as those that are read, what it names is found again by its name, its states can be held as
-- rows, and the activities of its tables have numbers of 64 bits.
pub record IsKeepable (d : Deployed) (program : Program) : Type 0 where
  pub read : IsAsRead d program
  pub named : IsNamed d
  pub held : CanHold d
  pub few : length d.tables + 1 < 2 ^ 64

-- a well-formed state of such a deployment
pub record CanBeKept (s : State) : Type 0 where
  pub well : IsWell s
  pub deployment : IsKeepable s.deployment s.program
