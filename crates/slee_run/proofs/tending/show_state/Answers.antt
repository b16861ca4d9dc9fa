use Rattle.std.proofs.Common.{inl, refl}
use Rattle.slee_run.specs.Status.{status_line}
use Rattle.slee_run.specs.declared.status.Status.TheVariants as statuses
use Rattle.slee_run.proofs.AnswerLemmas.{written_then, written_front}
use Rattle.slee_run.proofs.tending.show_state.Goals as goal

pub returns-in-Ok-clause-done : goal.returns-in-Ok-clause-done
returns-in-Ok-clause-done g c = record {
  stood = statuses.Ok;
  which = inl refl;
  same = refl;
  output = written_then g.K.Sink.contents g.K.Sink.faults _ _ _ _ _ _ _ _ (c.in-Ok.ensures.written (λ e. cc)) c.refuse.ensures.output;
}

pub returns-in-Err-WriteFault-clause-done : goal.returns-in-Err-WriteFault-clause-done
returns-in-Err-WriteFault-clause-done g c = record {
  stood = statuses.Ok;
  which = inl refl;
  same = refl;
  output = written_front g.K.Sink.contents g.K.Sink.faults _ _ _ (status_line statuses.Ok) _ statuses.Ok (c.in-Err-WriteFault.ensures.written (λ e. cc));
}
