use Rattle.std.proofs.Common.{sym, ap, ◌∙◌}
use Rattle.rollback_calls.specs.Deliveries.{delivery_of}
use Rattle.tx_attempt.proofs.AskingLemmas.{is_needed}
use Rattle.tx_attempt.proofs.attempt.Attempt.run.Goals as goal

pub returns-in-Need-clause-progress : goal.returns-in-Need-clause-progress
returns-in-Need-clause-progress c =
    is_needed c.args.deployment.now.codes c.args.self.now c.in-Need.key c.requires.checked c.requires.asked
    (sym (rw c.codes.ensures.same at c.in_ok-key.ensures) ∙ ap delivery_of c.in-Need.is)
