-- That the history of a run keeps the laws of runs.
use Rattle.std.specs.Prelude.{ℕ, IsTrue, List}
use Rattle.std.specs.declared.option.Option.{Option}
use Rattle.slee_disk.specs.Disk.{DiskState}
use Rattle.router_laws_restarts.specs.Orderly.{IsOrderly}
use Rattle.slee_run.specs.Headline.{IsLegalRun, Opens}
use Rattle.slee_run.specs.declared.status.Status.{Status}

-- What is said of a run; and where the words open the journal, on a disk that tells its bytes, its history keeps all laws of runs:
-- an activity's events come in firing order, reach each eligible entity at most once and by priority, and its end comes last; what
-- is suspended waits; and each effect applies.
pub record IsOrderlyRun (words : List (List ℕ)) (deploy signals before after : Option (List ℕ)) (old new : DiskState) (status : Status) : Type 0 where
  pub run : IsLegalRun words deploy signals before after old new status
  pub laws : Opens words → IsTrue old.told → IsOrderly run.base run.history
