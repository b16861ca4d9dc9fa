use Rattle.std.proofs.Common.{◌≤◌, ◌∙◌, ap, length, List, ℕ, subst, sym, take}
use Rattle.trace_history.specs.declared.entry.Entry.{Entry}
use Rattle.slee_run.specs.Answers.{IsFinished}
use Rattle.slee_run.proofs.finishing.finish.Goals as goal

pub finish_history-requires-clause-few : goal.finish_history-requires-clause-few
finish_history-requires-clause-few g c = subst (λ (h : List Entry). c.acked.result ≤ length h) (sym c.history.ensures.entries) c.acked.ensures.within

pub returns-clause-finished : goal.returns-clause-finished
returns-clause-finished g c =
    subst (λ (acked : List Entry). IsFinished c.args.report acked c.args.stood (g.K.Sink.contents c.args.out.now) (g.K.Sink.contents c.finish_history.new.out) c.finish_history.result)
    (ap (λ (n : ℕ). take n c.history.result.now.entries) c.acked.ensures.acked ∙ ap (take c.args.container.now.acked) c.history.ensures.entries) c.finish_history.ensures.finished
