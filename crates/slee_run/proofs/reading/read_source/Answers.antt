use Rattle.std.proofs.Common.{◌∙◌, sym, ap, subst, Err}
use Rattle.slee_run.specs.Answers.{IsUnreadAs}
use Rattle.slee_run.proofs.ReadLemmas.{reading_unread, reading_failed, reading_large}
use Rattle.slee_run.proofs.reading.read_source.Goals as goal

pub returns-in-Err-clause-unread : goal.returns-in-Err-clause-unread
returns-in-Err-clause-unread g c = subst (IsUnreadAs c.args.what) (sym c.status_of_reading.ensures) (reading_unread c.in-Err.fault c.args.what)

pub returns-in-Err-clause-above : goal.returns-in-Err-clause-above
returns-in-Err-clause-above g c = λ is. c.in-Err.ensures.too_large (ap Err (reading_large c.in-Err.fault c.args.what (sym c.status_of_reading.ensures ∙ is)))

pub returns-in-Err-clause-failed : goal.returns-in-Err-clause-failed
returns-in-Err-clause-failed g c = λ is. c.in-Err.ensures.failed (ap Err (reading_failed c.in-Err.fault c.args.what (sym c.status_of_reading.ensures ∙ is)))

pub returns-in-Err-clause-large : goal.returns-in-Err-clause-large
returns-in-Err-clause-large g c = λ is. c.in-Err.ensures.stopped (ap Err (reading_large c.in-Err.fault c.args.what (sym c.status_of_reading.ensures ∙ is)))
