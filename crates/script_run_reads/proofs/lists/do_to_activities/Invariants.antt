use Rattle.std.proofs.Common.{◌≡◌, drop}
use Rattle.script_meaning.specs.Overlay.{activities_after}
use Rattle.script_run_reads.specs.Done.{done}
use Rattle.script_run_reads.proofs.lists.do_to_activities.Given as goal

-- the effects so far are done
abbrev pub invariant-loop-effect : goal.invariant-loop-effect
invariant-loop-effect l = done (activities_after l.entity 0) (drop l.effect-index l.effects) l.refs.items ≡ done (activities_after l.entity 0) l.effects l.initial.refs.items
