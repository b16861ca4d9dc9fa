-- A fault of a deployment's parts, and where it stands.
use Rattle.std.specs.Prelude.{◌≡◌, Bool, true, false, [], ◌∷◌, ◌++◌, Option, Some, None, Result, Ok, Err}
use Rattle.script_tree.specs.Tree.{Bytes}
use Rattle.deploy_model.specs.declared.fault.DeployBad.{DeployBad}
use Rattle.deploy_model.specs.declared.fault.DeployFault.{DeployFault}
use Rattle.deploy_model.specs.declared.fault.DeployFault.TheVariants as answers

-- A fault below some part: the JSON pointer from there, and its kind.
pub record Fault : Type 0 where
  pub path : Bytes
  pub kind : DeployBad

-- A fault of the part itself.
abbrev pub here : DeployBad → Option Fault
here kind = Some (record { path = []; kind = kind })

-- A fault of the part itself unless the test holds.
abbrev pub unless : Bool → DeployBad → Option Fault
unless true kind = None
unless false kind = here kind

-- The fault, seen from what has the faulty part at this step.
abbrev pub moved : Bytes → Fault → Fault
moved step f = record { path = 47 ∷ step ++ f.path; kind = f.kind }

-- The same, where there is a fault.
abbrev pub under : Bytes → Option Fault → Option Fault
under step None = None
under step (Some f) = Some (moved step f)

-- The first fault of two parts.
abbrev pub and_then : Option Fault → Option Fault → Option Fault
and_then None later = later
and_then (Some f) later = Some f

-- The answers that may be given where this is the first fault: want of memory may stand for any.
abbrev pub Tells : Option Fault → DeployFault → Type 0
Tells m answers.NoMemory = Unit {0}
Tells m (answers.At path kind) = m ≡ Some (record { path = path; kind = kind })

-- The same of a result: all is well exactly where there is no fault.
abbrev pub Says : {A : Type 0} → Option Fault → Result A DeployFault → Type 0
Says m (Ok x) = m ≡ None
Says m (Err e) = Tells m e
