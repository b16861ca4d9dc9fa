use Rattle.slee_run.proofs.EndLemmas.{written, write_failed}
use Rattle.slee_run.proofs.finishing.finish_short.Goals as goal

pub returns-clause-output : goal.returns-clause-output
returns-clause-output g c = written g.K.Sink.contents g.K.Sink.faults _ _ _ c.write_short-written.result _ _ c.write_short-written.ensures c.status_written.ensures.ok c.status_written.ensures.err

pub returns-clause-write : goal.returns-clause-write
returns-clause-write g c = λ is. write_failed g.K.Sink.contents g.K.Sink.faults _ _ _ c.write_short-written.result _ _ c.write_short-written.ensures c.status_written.ensures.ok (λ e. cc) is
