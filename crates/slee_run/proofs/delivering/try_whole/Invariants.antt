use Rattle.std.proofs.Common.{◌-◌, length}
use Rattle.script_types.specs.ProgramOf.{kept_program}
use Rattle.slee_container.specs.Container.{state_of}
use Rattle.slee_run.proofs.DeliverLemmas.{IsTried}
use Rattle.slee_run.proofs.delivering.try_whole.Given as goal

-- what was learned was asked for, and is seen so
abbrev pub invariant-asking : goal.invariant-asking
invariant-asking g l = IsTried (kept_program l.deployment.codes) (state_of l.container) l.ticket l.attempt

abbrev pub decreases-asking : goal.decreases-asking
decreases-asking g l = 129 - length l.attempt.known
