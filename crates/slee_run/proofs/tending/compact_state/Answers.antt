use Rattle.slee_run.proofs.AnswerLemmas.{compacted_out, renewal_out, renewal_unwritten}
use Rattle.slee_run.proofs.tending.compact_state.Goals as goal

pub returns-in-Ok-clause-done : goal.returns-in-Ok-clause-done
returns-in-Ok-clause-done g c = compacted_out g.D.Disk.disk _ _ _ _ c.in-Ok.generation _ c.in-Ok.ensures c.finish_compacted.ensures.output

pub returns-in-Err-clause-done : goal.returns-in-Err-clause-done
returns-in-Err-clause-done g c = renewal_out g.D.Disk.disk _ _ _ _ c.in-Err.fault _ _ c.in-Err.ensures c.status_of_renewal.ensures c.refuse.ensures.output

pub returns-in-Err-clause-write : goal.returns-in-Err-clause-write
returns-in-Err-clause-write g c = λ is. c.refuse.ensures.write (λ e. renewal_unwritten c.in-Err.fault _ c.status_of_renewal.ensures e) is
