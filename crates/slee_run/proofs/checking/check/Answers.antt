use Rattle.slee_run.proofs.CheckLemmas.{refused_check, counted_check}
use Rattle.slee_run.proofs.checking.check.Goals as goal

pub returns-in-Ok-clause-checked : goal.returns-in-Ok-clause-checked
returns-in-Ok-clause-checked g c = counted_check _ _ _ c.in-Ok.counts _ c.in-Ok.ensures.counts c.finish_check.ensures.output

pub returns-in-Err-clause-checked : goal.returns-in-Err-clause-checked
returns-in-Err-clause-checked g c = refused_check _ _ _ c.in-Err.stood _ c.in-Err.ensures.early c.in-Err.ensures.comes c.in-Err.ensures.barred c.refuse.ensures.output
