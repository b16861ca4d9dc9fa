use Rattle.std.proofs.Common.{List, subst, sym, ℕ}
use Rattle.slee_descriptor.specs.declared.deployment.Deployment.{Deployment}
use Rattle.slee_run.specs.Answers.{document_on}
use Rattle.slee_run.specs.Given.{IsDeployment}
use Rattle.slee_run.specs.Many.{IsPlayedTogether}
use Rattle.slee_run.proofs.many.play_inputs.Goals as goal

pub play_document-requires-clause-given : goal.play_document-requires-clause-given
play_document-requires-clause-given g c κs within =
    subst (λ (d : Deployment). IsDeployment c.as_slice.result.now d) (sym c.deployment.ensures.same)
    (subst (λ (b : List ℕ). IsDeployment b c.args.inputs.now.deployed.checked) (sym c.as_slice.ensures) c.requires.given)

pub play_document-requires-clause-checked : goal.play_document-requires-clause-checked
play_document-requires-clause-checked g c κs within = c.deployment.ensures.typed

pub returns-clause-played : goal.returns-clause-played
returns-clause-played g c =
    let r = c.args.crew in
    subst
    (λ (b : List ℕ). IsPlayedTogether (document_on b c.args.inputs.now.deployed.checked) r.mode r.steps c.args.inputs.now.lines (g.K.Sink.contents c.args.out.now) (g.K.Sink.contents c.play_document.new.out) (g.D.Disk.disk c.args.disk) (g.D.Disk.disk c.play_document.result.1) c.play_document.result.0)
    c.as_slice.ensures
    (subst
    (λ (d : Deployment). IsPlayedTogether (document_on c.as_slice.result.now d) r.mode r.steps c.args.inputs.now.lines (g.K.Sink.contents c.args.out.now) (g.K.Sink.contents c.play_document.new.out) (g.D.Disk.disk c.args.disk) (g.D.Disk.disk c.play_document.result.1) c.play_document.result.0)
    c.deployment.ensures.same c.play_document.ensures.played)

pub returns-clause-write : goal.returns-clause-write
returns-clause-write g c = c.play_document.ensures.write

pub returns-clause-late : goal.returns-clause-late
returns-clause-late g c = c.play_document.ensures.late
