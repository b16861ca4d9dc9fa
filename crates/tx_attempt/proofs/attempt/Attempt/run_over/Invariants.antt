use Rattle.std.proofs.Common.{◌≡◌, ◌-◌, length}
use Rattle.script_types.specs.ProgramOf.{kept_program}
use Rattle.handler_run.specs.Views.{Holds}
use Rattle.tx_attempt.specs.Attempts.{HasAsked}
use Rattle.tx_attempt.proofs.attempt.Attempt.run_over.Given as goal

-- what was learned was asked for, and is seen so
abbrev pub invariant-asking : goal.invariant-asking
invariant-asking g l = record {
  delivery : l.self.delivery ≡ l.fn.self.delivery;
  asked : HasAsked (kept_program l.deployment.codes) l.self;
  seen : Holds (g.V.View.seen_at l.view) l.fn.self.known → Holds (g.V.View.seen_at l.view) l.self.known;
}

abbrev pub decreases-asking : goal.decreases-asking
decreases-asking g l = 129 - length l.self.known
