use Rattle.std.proofs.Common.{◌≡◌, ◌+◌, ◌≤◌, drop}
use Rattle.script_run_reads.specs.Counting.{created}
use Rattle.script_run_reads.proofs.counts.count_created.Given as goal

-- those so far are counted
abbrev pub invariant-loop-place : goal.invariant-loop-place
invariant-loop-place l = (l.count + created l.entity l.relation.name l.made (drop l.place l.effects) l.behind ≡ created l.entity l.relation.name l.before l.effects l.behind) × (l.count ≤ l.place) × (l.made ≤ l.before + l.place)
