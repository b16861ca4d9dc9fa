use Rattle.std.proofs.Common.{◌≡◌, ◌+◌, ◌≤◌, ◌++◌, drop, map}
use Rattle.slee_effect.specs.declared.reference.Ref.TheVariants.{Known}
use Rattle.script_run_reads.specs.Counting.{staying}
use Rattle.script_run_reads.proofs.counts.count_staying.Given as goal

-- those so far are counted
abbrev pub invariant-loop-number : goal.invariant-loop-number
invariant-loop-number l = (l.count + staying (l.before ++ l.own) (map Known (drop l.number-index l.children)) ≡ staying (l.before ++ l.own) (map Known l.children)) × (l.count ≤ l.number-index)
