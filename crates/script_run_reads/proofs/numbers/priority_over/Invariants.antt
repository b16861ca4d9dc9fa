use Rattle.std.proofs.Common.{◌≡◌, ◌+◌, ◌≤◌, drop}
use Rattle.script_meaning.specs.Overlay.{overlay_from, entities_by, priority_after}
use Rattle.script_run_reads.proofs.numbers.priority_over.Given as goal

-- the effects so far are done
abbrev pub invariant-loop-effect : goal.invariant-loop-effect
invariant-loop-effect l = (overlay_from entities_by (priority_after l.entity) l.made (drop l.effect-index l.effects) l.current ≡ overlay_from entities_by (priority_after l.entity) l.before l.effects l.first) × (l.made ≤ l.before + l.effect-index)
