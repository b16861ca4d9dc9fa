-- What a crash leaves while a journal is renewed.
use Rattle.std.specs.Prelude.{◌≡◌, ℕ, List, []}
use Rattle.slee_disk.specs.Disk.{DiskState, LeavesOnly}
use Rattle.commit_journal.specs.declared.stage.Stage.{Stage}
use Rattle.commit_journal.specs.Reading.{Kept}
use Rattle.commit_journal.specs.Kept.{with_more, StandsOrMore, StandsOrRenewed}

-- A renewal is a flush, and then the other side is written.
pub record LeavesRenewed {D : Type 0} (state : D → DiskState) (stage : Stage) (kept : Kept) (batch : List (List ℕ)) (snapshot : List ℕ) (old new : D) : Type 0 where
  -- the disk at the end of the flush
  pub flushed : D
  -- up to there a crash leaves what was acknowledged, with the batch or without
  pub first : LeavesOnly (state old) (state flushed) (StandsOrMore stage kept batch)
  -- from there on it leaves all of that, or the renewed side alone
  pub second : LeavesOnly (state flushed) (state new) (StandsOrRenewed stage (with_more kept batch) snapshot)
  -- an empty batch needs no flush
  pub at_once : batch ≡ [] → flushed ≡ old
