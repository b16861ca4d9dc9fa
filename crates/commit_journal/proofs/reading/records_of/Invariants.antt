use Rattle.std.proofs.Common.{length, map}
use Rattle.commit_journal.specs.Views.{payload_of}
use Rattle.commit_journal.proofs.Found.{SoFar}
use Rattle.commit_journal.proofs.reading.records_of.Given as goal

abbrev pub invariant-loop-records : goal.invariant-loop-records
invariant-loop-records l = SoFar l.first l.bytes (map payload_of l.records.items) l.at l.rest l.records.items

abbrev pub decreases-loop-records : goal.decreases-loop-records
decreases-loop-records l = length l.rest
