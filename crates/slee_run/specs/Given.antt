-- What the sources give: a deployment and signal lines, or the first refusal.
use Rattle.std.specs.Prelude.{◌≡◌, ℕ, ◌≤◌, nat_le, if◌then◌else◌, List, [], length, Option, Some, None, Result, Ok, Err, IfSome}
use Rattle.signal_script.specs.Signals.{signals_of}
use Rattle.signal_script.specs.declared.fault.SignalFault.{SignalFault}
use Rattle.signal_script.specs.declared.fault.SignalFault.TheVariants as line_faults
use Rattle.signal_script.specs.declared.signal.Signal.{Signal}
use Rattle.slee_descriptor.specs.declared.deployment.Deployment.{Deployment}
use Rattle.deploy_json.specs.Checking.{Reading, reading_of, read_as}
use Rattle.deploy_json.specs.declared.fault.ReadFault.{ReadFault}
use Rattle.router_state.specs.State.{State}
use Rattle.router_durable.specs.Facts.{initial_of}
use Rattle.slee_run.specs.declared.status.Given.TheVariants as givens
use Rattle.slee_run.specs.declared.status.Status.{Status}
use Rattle.slee_run.specs.declared.status.Status.TheVariants as statuses

-- the most bytes of a deployment, and of signals
abbrev pub deploy_limit : ℕ
deploy_limit = 1048576

abbrev pub signals_limit : ℕ
signals_limit = 16777216

-- the bytes are within the limit, and this is the deployment that they are
pub record IsDeployment (bytes : List ℕ) (d : Deployment) : Type 0 where
  pub within : length bytes ≤ deploy_limit
  pub read : reading_of bytes ≡ Ok (read_as d)

-- The document of a deployment, as a journal keeps it: its bytes, and the state in which nothing has happened.
pub record Document : Type 0 where
  pub bytes : List ℕ
  pub start : State

-- the state of a deployment in which nothing has happened
abbrev pub start_of : Deployment → State
start_of d = initial_of d.parts d.codes

-- a document that a source gave, which told that these bytes were left, if it told them
pub record IsDocument (source : Option (List ℕ)) (x : Document) : Type 0 where
  pub deployment : Deployment
  pub given : IsDeployment x.bytes deployment
  pub start : x.start ≡ start_of deployment
  pub told : IfSome source (λ bytes. x.bytes ≡ bytes)

-- the refusal of bytes that are no deployment
abbrev pub unread : Result Reading ReadFault → Option Status
unread (Ok reading) = None
unread (Err fault) = Some (statuses.BadDeploy fault)

-- the first refusal of the bytes of a deployment
abbrev pub refusal_of_deploy : List ℕ → Option Status
refusal_of_deploy deploy = if nat_le (length deploy) deploy_limit then unread (reading_of deploy) else Some (statuses.TooLarge givens.Deploy)

-- the refusal of bytes that aren't lines
abbrev pub unlined : Result (List Signal) SignalFault → Option Status
unlined (Ok lines) = None
unlined (Err (line_faults.At line kind)) = Some (statuses.BadSignals line kind)
unlined (Err line_faults.NoMemory) = None

-- one refusal before another
abbrev pub or_refusal : Option Status → Option Status → Option Status
or_refusal None later = later
or_refusal (Some refusal) later = Some refusal

-- the first refusal of the bytes of a deployment and of signals: both are read before one of them is understood
abbrev pub refusal_of : List ℕ → List ℕ → Option Status
refusal_of deploy signals =
    if nat_le (length deploy) deploy_limit
    then (if nat_le (length signals) signals_limit then or_refusal (unread (reading_of deploy)) (unlined (signals_of signals)) else Some (statuses.TooLarge givens.Signals))
    else Some (statuses.TooLarge givens.Deploy)

-- the lines that were read
abbrev pub lines_read : Result (List Signal) SignalFault → List Signal
lines_read (Ok lines) = lines
lines_read (Err fault) = []

-- the lines that bytes spell, if they do
abbrev pub lines_in : List ℕ → List Signal
lines_in bytes = lines_read (signals_of bytes)
