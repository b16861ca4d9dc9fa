use Rattle.std.proofs.Common.{true, length, Result}
use Rattle.slee_disk.specs.Writes.{Writes}
use Rattle.slee_disk.specs.declared.fault.Failed.{Failed}
use Rattle.slee_value.specs.Escape.{escaped}
use Rattle.slee_disk.proofs.word.write_word.Given as goal

-- who writes the bytes that are left writes all
abbrev pub invariant-runs : goal.invariant-runs
invariant-runs g l = (new : _) (r : Result (Unit {0}) Failed)
    → Writes g.K.Sink.contents g.K.Sink.faults l.out new (escaped true l.rest) r
    → Writes g.K.Sink.contents g.K.Sink.faults l.fn.out new (escaped true l.bytes) r

abbrev pub decreases-runs : goal.decreases-runs
decreases-runs g l = length l.rest
