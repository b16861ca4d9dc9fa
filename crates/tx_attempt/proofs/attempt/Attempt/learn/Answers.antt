use Rattle.std.proofs.Common.{sym, ap, subst}
use Rattle.script_laws.specs.Asking.{lacked_by}
use Rattle.rollback_calls.specs.Prepared.{delivery_over}
use Rattle.tx_attempt.specs.Attempts.{asked_for}
use Rattle.tx_attempt.proofs.AskingLemmas.{learned_asked}
use Rattle.tx_attempt.proofs.attempt.Attempt.learn.Goals as goal

pub returns-clause-asked : goal.returns-clause-asked
returns-clause-asked c = λ program asked wants.
    subst (asked_for (λ answers. lacked_by (delivery_over program c.args.self.now.delivery answers))) (sym c.in_ok-push.ensures.ok)
    (learned_asked (λ answers. lacked_by (delivery_over program c.args.self.now.delivery answers)) c.args.self.now.known (c.args.key, c.args.seen) asked (ap lacked_by wants))
