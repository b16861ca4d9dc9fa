use Rattle.std.proofs.Common.{List, subst, sym, ℕ}
use Rattle.slee_descriptor.specs.declared.deployment.Deployment.{Deployment}
use Rattle.slee_run.specs.Answers.{IsTaskOf, document_on}
use Rattle.slee_run.specs.Given.{IsDeployment}
use Rattle.slee_run.proofs.AnswerLemmas.{task_failed, task_late}
use Rattle.slee_run.proofs.tending.tend_kept.Goals as goal

pub tend_document-requires-clause-given : goal.tend_document-requires-clause-given
tend_document-requires-clause-given g c =
    subst (λ (d : Deployment). IsDeployment c.as_slice.result.now d) (sym c.deployment.ensures.same)
    (subst (λ (b : List ℕ). IsDeployment b c.args.deployed.now.checked) (sym c.as_slice.ensures) c.requires.given)

pub tend_document-requires-clause-checked : goal.tend_document-requires-clause-checked
tend_document-requires-clause-checked g c = c.deployment.ensures.typed

pub returns-clause-done : goal.returns-clause-done
returns-clause-done g c =
    subst
    (λ (b : List ℕ). IsTaskOf c.args.task (document_on b c.args.deployed.now.checked) (g.K.Sink.contents c.args.out.now) (g.K.Sink.contents c.tend_document.new.out) (g.D.Disk.disk c.args.disk) (g.D.Disk.disk c.tend_document.result.1) c.tend_document.result.0)
    c.as_slice.ensures
    (subst
    (λ (d : Deployment). IsTaskOf c.args.task (document_on c.as_slice.result.now d) (g.K.Sink.contents c.args.out.now) (g.K.Sink.contents c.tend_document.new.out) (g.D.Disk.disk c.args.disk) (g.D.Disk.disk c.tend_document.result.1) c.tend_document.result.0)
    c.deployment.ensures.same c.tend_document.ensures.done)

pub returns-clause-write : goal.returns-clause-write
returns-clause-write g c = c.tend_document.ensures.write

pub returns-clause-disk : goal.returns-clause-disk
returns-clause-disk g c = λ is. task_failed _ _ _ _ _ _ _ c.tend_document.ensures.done is

pub returns-clause-late : goal.returns-clause-late
returns-clause-late g c = λ early. task_late _ _ _ _ _ _ _ c.tend_document.ensures.done early
