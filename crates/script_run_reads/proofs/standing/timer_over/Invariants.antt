use Rattle.std.proofs.Common.{◌≡◌, ◌+◌, ◌≤◌, drop}
use Rattle.script_meaning.specs.Overlay.{overlay_from, timers_by, timer_after}
use Rattle.script_run_reads.proofs.standing.timer_over.Given as goal

-- the effects so far are done
abbrev pub invariant-loop-effect : goal.invariant-loop-effect
invariant-loop-effect l = (overlay_from timers_by (timer_after l.timer) l.made (drop l.effect-index l.effects) l.current ≡ overlay_from timers_by (timer_after l.timer) l.before l.effects l.fn.first) × (l.made ≤ l.before + l.effect-index)
