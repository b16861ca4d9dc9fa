-- What working leaves of a worker, and when it may leave.
use Rattle.std.specs.Prelude.{◌≡◌, ◌⊎◌, true, Ok, ⊤}
use mathlib.Core.List.{IsPrefix}
use Rattle.script_types.specs.Program.{Program}
use Rattle.script_types.specs.ProgramOf.{IsChecked}
use Rattle.slee_descriptor.specs.declared.deployment.Deployment.{Deployment}
use Rattle.deploy_json.specs.Checking.{reading_of, read_as}
use Rattle.trace_history.specs.Histories.{choices_of}
use Rattle.slee_turn.specs.Setups.{Setup}
use Rattle.slee_turn.specs.Knowledge.{Knowledge}
use Rattle.slee_turn.specs.Passes.{PassView}
use Rattle.slee_container.specs.Container.{View, TakesLines}
use Rattle.slee_container.specs.Turns.{AreOfRun, setup_told}
use Rattle.worker_gate.specs.Hands.{IsInHand}
use Rattle.worker_gate.specs.Moves.{IsOver}
use Rattle.worker_gate.specs.declared.hand.Moved.{Moved}
use Rattle.worker_gate.specs.declared.hand.Moved.TheVariants as moves
use Rattle.worker_gate.specs.declared.hand.Worked.{Worked}
use Rattle.worker_gate.specs.declared.hand.Worked.TheVariants as ends

-- the deployment is the one that the bytes of the setup are read as, and its scripts are checked
pub record IsServed (setup : Setup) (d : Deployment) : Type 0 where
  pub read : reading_of setup.deployment ≡ Ok (read_as d)
  pub checked : IsChecked d.codes

-- the pass hasn't the turn, as before, and has seen no less
pub record IsLater (before after : PassView) : Type 0 where
  pub table : after.table ≡ before.table
  pub phase : after.known.phase ≡ before.known.phase
  pub number : after.known.number ≡ before.known.number
  pub setup : after.known.setup ≡ before.known.setup
  pub seen : IsPrefix before.known.seen after.known.seen

-- By its setup and what was seen, a run is over: a container of that setup, with that history, is.
pub record IsOverBy (D : Type 0) (known : Knowledge) : Type 0 where
  pub container : View D
  pub setup : setup_told container.setup ≡ known.setup
  pub history : choices_of container.history ≡ known.seen
  pub lines : TakesLines container.setup.lines container.setup.skipped container.history container.taken
  pub run : AreOfRun container.setup container.history container.taken container.stop
  pub over : IsOver container

-- a worker leaves rightly: the value that it gave back last was stopped, or the run is over
abbrev pub LeavesRightly : Type 0 → PassView → Type 0
LeavesRightly D pass = (pass.stopped ≡ true) ⊎ IsOverBy D pass.known

-- what a turn that comes to this leaves of its pass
abbrev pub TurnsTo : Type 0 → Program → PassView → Moved → Type 0
TurnsTo D program after (moves.Goes held) = IsInHand program held
TurnsTo D program after moves.Waits = ⊤
TurnsTo D program after moves.Leaves = LeavesRightly D after
TurnsTo D program after moves.NoMemory = ⊤

-- what the end of a worker's work leaves of its pass
abbrev pub EndsRightly : Type 0 → PassView → Worked → Type 0
EndsRightly D pass ends.Left = LeavesRightly D pass
EndsRightly D pass ends.NoMemory = ⊤
