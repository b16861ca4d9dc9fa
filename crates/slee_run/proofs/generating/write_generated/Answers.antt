use Rattle.slee_run.proofs.AnswerLemmas.{early_generated, lines_generated}
use Rattle.std.proofs.Common.{◌∙◌, subst}
use Rattle.slee_run.specs.Opening.{IsEarly}
use Rattle.slee_run.proofs.EndLemmas.{told_as}
use Rattle.slee_run.proofs.generating.write_generated.Goals as goal

pub returns-in-Ok-clause-generated : goal.returns-in-Ok-clause-generated
returns-in-Ok-clause-generated g c = lines_generated c.args.seeded.seed c.args.seeded.count _ _ _ _ c.in-Ok.inputs c.in-Ok.ensures.deployed c.in-Ok.ensures.lines c.write_lines.ensures.lines

pub returns-in-Err-clause-generated : goal.returns-in-Err-clause-generated
returns-in-Err-clause-generated g c =
    early_generated c.args.seeded.seed c.args.seeded.count _ _ _ c.in-Err.stood _ c.in-Err.ensures.early.0 c.in-Err.ensures.early.1 c.in-Err.ensures.barred c.refuse.ensures.output

pub returns-in-Err-clause-read : goal.returns-in-Err-clause-read
returns-in-Err-clause-read g c = λ is. c.in-Err.ensures.failed ((told_as _ _ _ _ _ c.refuse.ensures.output (λ e. cc)) ∙ is)

pub returns-in-Err-clause-write : goal.returns-in-Err-clause-write
returns-in-Err-clause-write g c = λ is. c.refuse.ensures.write (λ e. subst IsEarly e c.in-Err.ensures.early.0) is

pub returns-in-Err-clause-end : goal.returns-in-Err-clause-end
returns-in-Err-clause-end g c = λ is. absurd (subst IsEarly ((told_as _ _ _ _ _ c.refuse.ensures.output (λ e. cc)) ∙ is) c.in-Err.ensures.early.0)

pub returns-in-Err-clause-large : goal.returns-in-Err-clause-large
returns-in-Err-clause-large g c = λ is. c.in-Err.ensures.large ((told_as _ _ _ _ _ c.refuse.ensures.output (λ e. cc)) ∙ is)

pub returns-in-Ok-clause-read : goal.returns-in-Ok-clause-read
returns-in-Ok-clause-read g c = λ is. absurd (c.write_lines.ensures.quiet.0 is)

pub returns-in-Ok-clause-large : goal.returns-in-Ok-clause-large
returns-in-Ok-clause-large g c = λ is. absurd (c.write_lines.ensures.quiet.1 is)

pub returns-in-Ok-clause-end : goal.returns-in-Ok-clause-end
returns-in-Ok-clause-end g c = λ is. c.in-Ok.ensures.end
