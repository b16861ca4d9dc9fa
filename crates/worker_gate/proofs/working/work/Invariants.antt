use Rattle.std.proofs.Common.{◌≡◌}
use Rattle.script_types.specs.ProgramOf.{kept_program}
use Rattle.worker_gate.specs.Hands.{IsInHand}
use Rattle.worker_gate.specs.Works.{IsLater}
use Rattle.worker_gate.proofs.working.work.Given as goal

-- what is in hand is of the deployment's program
abbrev pub invariant-loop : goal.invariant-loop
invariant-loop g l =
    (l.worker.number ≡ l.initial.worker.number)
    × IsLater l.initial.worker.pass l.worker.pass
    × IsInHand (kept_program l.deployment.codes) l.held
