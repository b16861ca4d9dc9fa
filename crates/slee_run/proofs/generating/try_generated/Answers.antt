use Rattle.slee_run.proofs.AnswerLemmas.{early_tried, early_words, lines_tried}
use Rattle.std.proofs.Common.{◌∙◌, subst, sym}
use Rattle.slee_run.specs.Opening.{IsBeforeOpening, IsEarly}
use Rattle.slee_run.proofs.EndLemmas.{told_as}
use Rattle.slee_run.specs.Checking.{IsCheckedAt}
use Rattle.slee_run.proofs.generating.try_generated.Goals as goal

pub returns-in-Ok-clause-tried : goal.returns-in-Ok-clause-tried
returns-in-Ok-clause-tried g c =
    lines_tried c.args.seeded.seed c.args.seeded.count _ _ _ (g.D.Disk.disk c.args.disk) _ _ c.in-Ok.inputs c.in-Ok.ensures.deployed c.in-Ok.ensures.lines c.play_inputs.ensures.played

pub returns-in-Err-clause-tried : goal.returns-in-Err-clause-tried
returns-in-Err-clause-tried g c =
    early_tried c.args.seeded.seed c.args.seeded.count _ _ _ (g.D.Disk.disk c.args.disk) c.in-Err.stood _ c.in-Err.ensures.early.0 (early_words c.in-Err.stood c.in-Err.ensures.early.1) c.in-Err.ensures.refused c.refuse.ensures.output

pub returns-in-Ok-clause-read : goal.returns-in-Ok-clause-read
returns-in-Ok-clause-read g c = λ is. absurd (c.play_inputs.ensures.late (subst IsBeforeOpening (sym is) tt))

pub returns-in-Ok-clause-large : goal.returns-in-Ok-clause-large
returns-in-Ok-clause-large g c = λ is. absurd (c.play_inputs.ensures.late (subst IsBeforeOpening (sym is) tt))

pub returns-in-Ok-clause-quiet : goal.returns-in-Ok-clause-quiet
returns-in-Ok-clause-quiet g c = λ is. absurd (c.play_inputs.ensures.late (subst IsBeforeOpening (sym is) tt))

pub returns-in-Ok-clause-end : goal.returns-in-Ok-clause-end
returns-in-Ok-clause-end g c = λ is. c.in-Ok.ensures.end

pub returns-in-Ok-clause-untouched : goal.returns-in-Ok-clause-untouched
returns-in-Ok-clause-untouched g c = λ early. absurd (c.play_inputs.ensures.late early)

pub returns-in-Err-clause-read : goal.returns-in-Err-clause-read
returns-in-Err-clause-read g c = λ is. c.in-Err.ensures.failed ((told_as _ _ _ _ _ c.refuse.ensures.output (λ e. cc)) ∙ is)

pub returns-in-Err-clause-write : goal.returns-in-Err-clause-write
returns-in-Err-clause-write g c = λ is. c.refuse.ensures.write (λ e. subst IsEarly e c.in-Err.ensures.early.0) is

pub returns-in-Err-clause-disk : goal.returns-in-Err-clause-disk
returns-in-Err-clause-disk g c = λ is. absurd (subst IsEarly ((told_as _ _ _ _ _ c.refuse.ensures.output (λ e. cc)) ∙ is) c.in-Err.ensures.early.0)

pub returns-in-Err-clause-end : goal.returns-in-Err-clause-end
returns-in-Err-clause-end g c = λ is. absurd (subst IsEarly ((told_as _ _ _ _ _ c.refuse.ensures.output (λ e. cc)) ∙ is) c.in-Err.ensures.early.0)

pub returns-in-Err-clause-large : goal.returns-in-Err-clause-large
returns-in-Err-clause-large g c = λ is. c.in-Err.ensures.large ((told_as _ _ _ _ _ c.refuse.ensures.output (λ e. cc)) ∙ is)

pub returns-in-Err-clause-quiet : goal.returns-in-Err-clause-quiet
returns-in-Err-clause-quiet g c = λ is. subst IsCheckedAt (told_as _ _ _ _ _ c.refuse.ensures.output (λ e. cc) ∙ is) c.in-Err.ensures.early.1

pub play_inputs-requires-clause-given : goal.play_inputs-requires-clause-given
play_inputs-requires-clause-given g c = c.in-Ok.ensures.deployed.given

pub play_inputs-requires-clause-checked : goal.play_inputs-requires-clause-checked
play_inputs-requires-clause-checked g c = c.in-Ok.ensures.deployed.checked
