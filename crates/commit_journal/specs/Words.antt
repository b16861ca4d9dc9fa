-- The words for what may be wrong with the bytes of a journal.
use Rattle.std.specs.Prelude.{ℕ, List, codes}
use Rattle.commit_journal.specs.declared.fault.JournalBad.{JournalBad}
use Rattle.commit_journal.specs.declared.fault.JournalBad.TheVariants as kinds

abbrev pub kind_word : JournalBad → List ℕ
kind_word kinds.Header = codes "header"
kind_word kinds.Length = codes "length"
kind_word kinds.Sides = codes "sides"
kind_word kinds.Snapshot = codes "snapshot"
kind_word kinds.Record = codes "record"
kind_word kinds.Replay = codes "replay"
