use Rattle.std.proofs.Common.{◌≡◌, ◌++◌, ℕ, List, drop}
use Rattle.slee_descriptor.specs.ByEvents.{numbers_at}
use Rattle.slee_descriptor.specs.Counting.{noted_from}
use Rattle.slee_descriptor.proofs.by_event.handlers_of.Given as goal

abbrev pub invariant-loop-i : goal.invariant-loop-i
invariant-loop-i l = (q : List ℕ) → numbers_at l.handlers q ++ noted_from l.i (drop l.i l.blocks) q ≡ noted_from 0 l.blocks q
