use Rattle.std.proofs.Common.{[], ◌∷◌, ◌++◌, sym, ap, subst, ◌∙◌}
use Rattle.script_types.specs.ProgramOf.{kept_program}
use Rattle.handler_run.specs.Views.{Holds}
use Rattle.tx_attempt.specs.Attempts.{Progresses}
use Rattle.tx_attempt.proofs.AskingLemmas.{same_asked}
use Rattle.tx_attempt.proofs.HoldsLemmas.{holds_more}
use Rattle.tx_attempt.proofs.attempt.Attempt.run_over.Goals as goal

pub asking-preserved : goal.asking-preserved
asking-preserved g c =
    let program = kept_program c.args.deployment.now.codes in
    let needed = subst (Progresses program c.run.new.self) c.in-Need.is c.in_ok-run.ensures.progress in
    record {
      delivery = c.learn.ensures.delivery ∙ c.run.ensures.same.delivery ∙ c.asking.invariant.delivery;
      asked = c.in_ok-learn-in-Need.ensures.asked program (same_asked program c.asking.self c.run.new.self c.run.ensures.same c.asking.invariant.asked) needed.wanted;
      seen = λ h.
          subst (Holds (g.V.View.seen_at c.args.view.now)) (sym (c.in_ok-learn-in-Need.ensures.known ∙ ap (λ l. l ++ (c.in-Need.key, c.in_ok-seen-in-Need.seen) ∷ []) c.run.ensures.same.known))
          (holds_more (g.V.View.seen_at c.args.view.now) c.asking.self.known (c.in-Need.key, c.in_ok-seen-in-Need.seen) (c.asking.invariant.seen h) (sym c.in_ok-seen-in-Need.ensures));
    }
