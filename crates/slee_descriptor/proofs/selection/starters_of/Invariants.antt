use Rattle.std.proofs.Common.{◌≡◌, ◌++◌, ℕ, List, drop}
use Rattle.slee_descriptor.specs.ByEvents.{numbers_at}
use Rattle.slee_descriptor.specs.Counting.{begun_by}
use Rattle.slee_descriptor.proofs.selection.starters_of.Given as goal

abbrev pub invariant-loop-rank : goal.invariant-loop-rank
invariant-loop-rank l = (q : List ℕ) → numbers_at l.starters q ++ begun_by l.blocks (drop l.rank-index l.ranks) q ≡ begun_by l.blocks l.ranks q
