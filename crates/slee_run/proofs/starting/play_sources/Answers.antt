use Rattle.std.proofs.Common.{subst, ◌∙◌, sym}
use Rattle.slee_run.proofs.AnswerLemmas.{early_played}
use Rattle.slee_run.proofs.ManyLemmas.{inputs_together, many_of}
use Rattle.slee_run.specs.Opening.{IsBeforeOpening, IsEarly}
use Rattle.slee_run.proofs.EndLemmas.{told_as}
use Rattle.slee_run.proofs.starting.play_sources.Goals as goal

pub returns-in-Ok-clause-played : goal.returns-in-Ok-clause-played
returns-in-Ok-clause-played g c =
    inputs_together c.args.crew.mode c.args.crew.steps (g.S.Source.left c.args.deploy.now) (g.T.Source.left c.args.signals.now) _ _ (g.D.Disk.disk c.args.disk) _ _ c.in-Ok.inputs c.in-Ok.ensures.inputs c.play_inputs.ensures.played

pub returns-in-Err-clause-played : goal.returns-in-Err-clause-played
returns-in-Err-clause-played g c =
    many_of c.args.crew.mode c.args.crew.steps _ _ _ _ (g.D.Disk.disk c.args.disk) _ _
    (early_played c.args.crew.mode c.args.crew.steps _ _ _ _ (g.D.Disk.disk c.args.disk) c.in-Err.stood _ c.in-Err.ensures.early.0 c.in-Err.ensures.early.1 c.in-Err.ensures.refused c.refuse.ensures.output)

pub returns-in-Ok-clause-read : goal.returns-in-Ok-clause-read
returns-in-Ok-clause-read g c = λ is. absurd (c.play_inputs.ensures.late (subst IsBeforeOpening (sym is) tt))

pub returns-in-Ok-clause-large : goal.returns-in-Ok-clause-large
returns-in-Ok-clause-large g c = λ is. absurd (c.play_inputs.ensures.late (subst IsBeforeOpening (sym is) tt))

pub returns-in-Ok-clause-deploy_large : goal.returns-in-Ok-clause-deploy_large
returns-in-Ok-clause-deploy_large g c = λ is. absurd (c.play_inputs.ensures.late (subst IsBeforeOpening (sym is) tt))

pub returns-in-Ok-clause-end : goal.returns-in-Ok-clause-end
returns-in-Ok-clause-end g c = λ is. c.in-Ok.ensures.end

pub returns-in-Ok-clause-untouched : goal.returns-in-Ok-clause-untouched
returns-in-Ok-clause-untouched g c = λ early. absurd (c.play_inputs.ensures.late early)

pub returns-in-Err-clause-read : goal.returns-in-Err-clause-read
returns-in-Err-clause-read g c = λ is. c.in-Err.ensures.failed ((told_as _ _ _ _ _ c.refuse.ensures.output (λ e. cc)) ∙ is)

pub returns-in-Err-clause-write : goal.returns-in-Err-clause-write
returns-in-Err-clause-write g c = λ is. c.refuse.ensures.write (λ e. subst IsEarly e c.in-Err.ensures.early.0) is

pub returns-in-Err-clause-end : goal.returns-in-Err-clause-end
returns-in-Err-clause-end g c = λ is. absurd (subst IsEarly ((told_as _ _ _ _ _ c.refuse.ensures.output (λ e. cc)) ∙ is) c.in-Err.ensures.early.0)

pub returns-in-Err-clause-large : goal.returns-in-Err-clause-large
returns-in-Err-clause-large g c = λ is. c.in-Err.ensures.large ((told_as _ _ _ _ _ c.refuse.ensures.output (λ e. cc)) ∙ is)

pub returns-in-Err-clause-deploy_large : goal.returns-in-Err-clause-deploy_large
returns-in-Err-clause-deploy_large g c = λ is. c.in-Err.ensures.deploy_large ((told_as _ _ _ _ _ c.refuse.ensures.output (λ e. cc)) ∙ is)

pub play_inputs-requires-clause-given : goal.play_inputs-requires-clause-given
play_inputs-requires-clause-given g c κs within = c.in-Ok.ensures.inputs.deployed.given

pub play_inputs-requires-clause-checked : goal.play_inputs-requires-clause-checked
play_inputs-requires-clause-checked g c κs within = c.in-Ok.ensures.inputs.deployed.checked

pub play_inputs-requires-clause-crew : goal.play_inputs-requires-clause-crew
play_inputs-requires-clause-crew g c κs within = c.requires.crew
