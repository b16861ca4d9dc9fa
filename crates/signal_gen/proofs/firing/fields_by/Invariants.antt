-- the fields so far and those that are left
use Rattle.std.proofs.Common.{length}
use Rattle.signal_gen.proofs.FieldLemmas.{IsSoFar}
use Rattle.signal_gen.proofs.firing.fields_by.Given as goal

abbrev pub invariant-each : goal.invariant-each
invariant-each l = IsSoFar l.fn.rest l.fn.declared l.fields l.left

abbrev pub decreases-each : goal.decreases-each
decreases-each l = length l.left
