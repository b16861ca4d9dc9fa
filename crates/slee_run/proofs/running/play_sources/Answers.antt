use Rattle.std.proofs.Common.{subst, ◌∙◌, sym}
use Rattle.slee_run.specs.Answers.{IsPlayedOn, document_of}
use Rattle.slee_run.specs.declared.finishing.Report.{Report}
use Rattle.slee_run.proofs.AnswerLemmas.{early_played, inputs_played}
use Rattle.slee_run.specs.Opening.{IsBeforeOpening, IsEarly}
use Rattle.slee_run.proofs.EndLemmas.{told_as}
use Rattle.slee_run.proofs.running.play_sources.Goals as goal

pub returns-in-Ok-clause-played : goal.returns-in-Ok-clause-played
returns-in-Ok-clause-played g c =
    inputs_played c.args.run.mode c.args.run.steps (g.S.Source.left c.args.deploy.now) (g.T.Source.left c.args.signals.now) _ _ (g.D.Disk.disk c.args.disk) _ _ c.in-Ok.inputs c.in-Ok.ensures.inputs
    (subst (λ (r : Report). IsPlayedOn (document_of c.in-Ok.inputs.deployed) c.args.run.mode c.args.run.steps r c.in-Ok.inputs.lines (g.K.Sink.contents c.args.out.now) (g.K.Sink.contents c.play_inputs.new.out) (g.D.Disk.disk c.args.disk) (g.D.Disk.disk c.play_inputs.result.1) c.play_inputs.result.0) c.requires c.play_inputs.ensures.played)

pub returns-in-Err-clause-played : goal.returns-in-Err-clause-played
returns-in-Err-clause-played g c =
    early_played c.args.run.mode c.args.run.steps _ _ _ _ (g.D.Disk.disk c.args.disk) c.in-Err.stood _ c.in-Err.ensures.early.0 c.in-Err.ensures.early.1 c.in-Err.ensures.refused c.refuse.ensures.output

pub returns-in-Ok-clause-read : goal.returns-in-Ok-clause-read
returns-in-Ok-clause-read g c = λ is. absurd (c.play_inputs.ensures.late (subst IsBeforeOpening (sym is) tt))

pub returns-in-Ok-clause-large : goal.returns-in-Ok-clause-large
returns-in-Ok-clause-large g c = λ is. absurd (c.play_inputs.ensures.late (subst IsBeforeOpening (sym is) tt))

pub returns-in-Ok-clause-deploy_large : goal.returns-in-Ok-clause-deploy_large
returns-in-Ok-clause-deploy_large g c = λ is. absurd (c.play_inputs.ensures.late (subst IsBeforeOpening (sym is) tt))

pub returns-in-Ok-clause-end : goal.returns-in-Ok-clause-end
returns-in-Ok-clause-end g c = λ is. c.in-Ok.ensures.end

pub returns-in-Ok-clause-untouched : goal.returns-in-Ok-clause-untouched
returns-in-Ok-clause-untouched g c = λ early. absurd (c.play_inputs.ensures.late early)

pub returns-in-Err-clause-read : goal.returns-in-Err-clause-read
returns-in-Err-clause-read g c = λ is. c.in-Err.ensures.failed ((told_as _ _ _ _ _ c.refuse.ensures.output (λ e. cc)) ∙ is)

pub returns-in-Err-clause-write : goal.returns-in-Err-clause-write
returns-in-Err-clause-write g c = λ is. c.refuse.ensures.write (λ e. subst IsEarly e c.in-Err.ensures.early.0) is

pub returns-in-Err-clause-disk : goal.returns-in-Err-clause-disk
returns-in-Err-clause-disk g c = λ is. absurd (subst IsEarly ((told_as _ _ _ _ _ c.refuse.ensures.output (λ e. cc)) ∙ is) c.in-Err.ensures.early.0)

pub returns-in-Err-clause-end : goal.returns-in-Err-clause-end
returns-in-Err-clause-end g c = λ is. absurd (subst IsEarly ((told_as _ _ _ _ _ c.refuse.ensures.output (λ e. cc)) ∙ is) c.in-Err.ensures.early.0)

pub returns-in-Err-clause-large : goal.returns-in-Err-clause-large
returns-in-Err-clause-large g c = λ is. c.in-Err.ensures.large ((told_as _ _ _ _ _ c.refuse.ensures.output (λ e. cc)) ∙ is)

pub returns-in-Err-clause-deploy_large : goal.returns-in-Err-clause-deploy_large
returns-in-Err-clause-deploy_large g c = λ is. c.in-Err.ensures.deploy_large ((told_as _ _ _ _ _ c.refuse.ensures.output (λ e. cc)) ∙ is)

pub play_inputs-requires-clause-given : goal.play_inputs-requires-clause-given
play_inputs-requires-clause-given g c = c.in-Ok.ensures.inputs.deployed.given

pub play_inputs-requires-clause-checked : goal.play_inputs-requires-clause-checked
play_inputs-requires-clause-checked g c = c.in-Ok.ensures.inputs.deployed.checked
