use Rattle.std.proofs.Common.{◌∙◌, sym, ap, subst, Err, IfSome}
use Rattle.slee_run.specs.Checking.{IsBarred, IsCheckedAt}
use Rattle.slee_run.specs.Opening.{IsEarly}
use Rattle.slee_run.specs.declared.status.Given.TheVariants as givens
use Rattle.slee_run.specs.declared.status.Status.{Status}
use Rattle.slee_run.proofs.ReadLemmas.{reading_early, reading_failed, reading_large}
use Rattle.slee_run.proofs.CheckLemmas.{reading_barred, reading_checked}
use Rattle.slee_run.proofs.checking.read_counts.Goals as goal

pub returns-in-Err-clause-barred : goal.returns-in-Err-clause-barred
returns-in-Err-clause-barred g c =
    subst (λ (s : Status). IfSome (g.S.Source.left c.args.deploy.now) (λ bytes. IsBarred bytes s)) (sym c.status_of_reading.ensures)
    (reading_barred (g.S.Source.left c.args.deploy.now) c.in-Err.fault (λ is. c.in-Err.ensures.too_large (ap Err is)))

pub returns-in-Err-clause-early : goal.returns-in-Err-clause-early
returns-in-Err-clause-early g c = subst IsEarly (sym c.status_of_reading.ensures) (reading_early c.in-Err.fault givens.Deploy)

pub returns-in-Err-clause-comes : goal.returns-in-Err-clause-comes
returns-in-Err-clause-comes g c = subst IsCheckedAt (sym c.status_of_reading.ensures) (reading_checked c.in-Err.fault)

pub returns-in-Err-clause-read : goal.returns-in-Err-clause-read
returns-in-Err-clause-read g c = λ is. c.in-Err.ensures.failed (ap Err (reading_failed c.in-Err.fault givens.Deploy (sym c.status_of_reading.ensures ∙ is)))

pub returns-in-Err-clause-too_large : goal.returns-in-Err-clause-too_large
returns-in-Err-clause-too_large g c = λ is. c.in-Err.ensures.stopped (ap Err (reading_large c.in-Err.fault givens.Deploy (sym c.status_of_reading.ensures ∙ is)))
