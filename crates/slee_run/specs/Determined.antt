-- What words, a deployment, lines and a journal determine.
use Rattle.std.specs.Prelude.{◌⊎◌, ℕ, List, Some}
use Rattle.slee_disk.specs.Disk.{DiskState}
use Rattle.slee_run.specs.Answers.{Outcome}
use Rattle.slee_run.specs.Given.{Document, IsDocument}
use Rattle.slee_run.specs.Headline.{IsBareText, IsBefore, IsRun, LeavesJournal, Opens}

-- a run with these words, on the bytes of a deployment and of signals that its sources told, which found and left these disks
pub record IsRunOver (words : List (List ℕ)) (deploy bytes : List ℕ) (old new : DiskState) (o : Outcome) : Type 0 where
  pub document : Document
  pub run : IsRun o.base o.generation words (Some deploy) (Some bytes) o.history o.acked o.ended o.stood o.text
  pub given : Opens words → IsDocument (Some deploy) document ⊎ IsBefore o.history old new o.ended
  pub journal : LeavesJournal words document o.base o.generation o.history o.acked old new o.ended
  pub bare : Opens words → IsBareText old o.text o.ended
