use Rattle.worker_gate.specs.Moves.{ComesTo, GoesOn}
use Rattle.worker_gate.proofs.moving.play.Given as goal

-- it is the same run, and what the last step came to is so
abbrev pub invariant-loop : goal.invariant-loop
invariant-loop g l = GoesOn l.fn.container l.container × ComesTo l.container l.moved
