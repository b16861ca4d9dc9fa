use Rattle.std.proofs.Common.{◌≡◌, ◌+◌, ◌≤◌, drop}
use Rattle.script_meaning.specs.Overlay.{count_of}
use Rattle.script_run_reads.specs.Things.{made_by}
use Rattle.script_run_reads.proofs.things.count_made.Given as goal

-- what the effects so far made is counted
abbrev pub invariant-loop-effect : goal.invariant-loop-effect
invariant-loop-effect l = (l.count + count_of (made_by l.thing) (drop l.effect-index l.effects) ≡ count_of (made_by l.thing) l.effects) × (l.count ≤ l.effect-index)
