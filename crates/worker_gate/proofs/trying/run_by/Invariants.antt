use Rattle.std.proofs.Common.{◌-◌, length}
use Rattle.script_types.specs.ProgramOf.{kept_program}
use Rattle.worker_gate.specs.Hands.{IsTrying}
use Rattle.worker_gate.proofs.trying.run_by.Given as goal

-- what was learned was asked for
abbrev pub invariant-asking : goal.invariant-asking
invariant-asking g l = IsTrying (kept_program l.deployment.codes) l.ticket l.attempt

abbrev pub decreases-asking : goal.decreases-asking
decreases-asking g l = 129 - length l.attempt.known
