-- What a crash may leave of a beginning, whatever was pending before it.
use Rattle.std.specs.Prelude.{◌≡◌, ℕ, List, take}
use Rattle.slee_disk.specs.declared.side.Side.{Side}
use Rattle.slee_disk.specs.Sides.{Sides}
use Rattle.slee_disk.specs.Calls.{Stepped}
use Rattle.slee_disk.specs.Disk.{DiskState}
use Rattle.commit_journal.specs.declared.stage.Stage.{Stage}
use Rattle.commit_journal.specs.declared.stage.Stage.TheVariants as stages
use Rattle.commit_journal.specs.Spelling.{size}
use Rattle.commit_journal.specs.Reading.{Kept}

-- the first bytes of a side, so many, are as they were
abbrev pub StartsAs : ℕ → List ℕ → List ℕ → Type 0
StartsAs count old new = take count new ≡ take count old

-- A crash may leave what it might have left before, but for the bytes of this side behind so many.
pub record MayLeave (side : Side) (count : ℕ) (old new : DiskState) : Type 0 where
  pub each : (image : Sides) → new.images image → Stepped side (StartsAs count) old.images image

-- how many bytes of its side a beginning leaves alone: those up to the last gate, and none of a blank one
abbrev pub size_left : Stage → Kept → ℕ
size_left stages.Blank kept = 0
size_left stages.Found kept = size kept.head kept.payloads
size_left stages.Ready kept = size kept.head kept.payloads
size_left stages.Stopped kept = size kept.head kept.payloads
