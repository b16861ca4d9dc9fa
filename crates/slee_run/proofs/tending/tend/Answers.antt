use Rattle.slee_run.proofs.AnswerLemmas.{early_task, kept_task}
use Rattle.std.proofs.Common.{◌∙◌, subst, sym}
use Rattle.slee_run.specs.Opening.{IsBeforeOpening, IsEarly}
use Rattle.slee_run.proofs.EndLemmas.{told_as}
use Rattle.slee_run.proofs.tending.tend.Goals as goal

pub returns-in-Ok-clause-done : goal.returns-in-Ok-clause-done
returns-in-Ok-clause-done g c = kept_task c.args.task _ _ _ (g.D.Disk.disk c.args.disk) _ _ c.in-Ok.deployed c.in-Ok.ensures.deployed c.tend_kept.ensures.done

pub returns-in-Err-clause-done : goal.returns-in-Err-clause-done
returns-in-Err-clause-done g c =
    early_task c.args.task _ _ _ (g.D.Disk.disk c.args.disk) c.in-Err.stood _ c.in-Err.ensures.early.0 c.in-Err.ensures.early.1 c.in-Err.ensures.barred c.refuse.ensures.output

pub returns-in-Ok-clause-read : goal.returns-in-Ok-clause-read
returns-in-Ok-clause-read g c = λ is. absurd (c.tend_kept.ensures.late (subst IsBeforeOpening (sym is) tt))

pub returns-in-Ok-clause-large : goal.returns-in-Ok-clause-large
returns-in-Ok-clause-large g c = λ is. absurd (c.tend_kept.ensures.late (subst IsBeforeOpening (sym is) tt))

pub returns-in-Ok-clause-end : goal.returns-in-Ok-clause-end
returns-in-Ok-clause-end g c = λ is. c.in-Ok.ensures.end

pub returns-in-Ok-clause-untouched : goal.returns-in-Ok-clause-untouched
returns-in-Ok-clause-untouched g c = λ early. absurd (c.tend_kept.ensures.late early)

pub returns-in-Err-clause-read : goal.returns-in-Err-clause-read
returns-in-Err-clause-read g c = λ is. c.in-Err.ensures.failed ((told_as _ _ _ _ _ c.refuse.ensures.output (λ e. cc)) ∙ is)

pub returns-in-Err-clause-write : goal.returns-in-Err-clause-write
returns-in-Err-clause-write g c = λ is. c.refuse.ensures.write (λ e. subst IsEarly e c.in-Err.ensures.early.0) is

pub returns-in-Err-clause-disk : goal.returns-in-Err-clause-disk
returns-in-Err-clause-disk g c = λ is. absurd (subst IsEarly ((told_as _ _ _ _ _ c.refuse.ensures.output (λ e. cc)) ∙ is) c.in-Err.ensures.early.0)

pub returns-in-Err-clause-end : goal.returns-in-Err-clause-end
returns-in-Err-clause-end g c = λ is. absurd (subst IsEarly ((told_as _ _ _ _ _ c.refuse.ensures.output (λ e. cc)) ∙ is) c.in-Err.ensures.early.0)

pub returns-in-Err-clause-large : goal.returns-in-Err-clause-large
returns-in-Err-clause-large g c = λ is. c.in-Err.ensures.large ((told_as _ _ _ _ _ c.refuse.ensures.output (λ e. cc)) ∙ is)

pub tend_kept-requires-clause-given : goal.tend_kept-requires-clause-given
tend_kept-requires-clause-given g c = c.in-Ok.ensures.deployed.given

pub tend_kept-requires-clause-checked : goal.tend_kept-requires-clause-checked
tend_kept-requires-clause-checked g c = c.in-Ok.ensures.deployed.checked
