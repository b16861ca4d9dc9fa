use Rattle.std.proofs.Common.{◌≡◌, drop}
use Rattle.script_meaning.specs.Overlay.{attached_after}
use Rattle.script_run_reads.specs.Done.{done}
use Rattle.script_run_reads.proofs.standing.attached_over.Given as goal

-- the effects so far are done
abbrev pub invariant-loop-effect : goal.invariant-loop-effect
invariant-loop-effect l = done (attached_after l.entity l.activity 0) (drop l.effect-index l.effects) l.current ≡ done (attached_after l.entity l.activity 0) l.effects l.first
