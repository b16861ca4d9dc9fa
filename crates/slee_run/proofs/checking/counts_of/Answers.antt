use Rattle.std.proofs.Common.{◌≢◌, sym, subst}
use Rattle.slee_run.specs.Checking.{IsBarred, IsCheckedAt}
use Rattle.slee_run.specs.Opening.{IsEarly}
use Rattle.slee_run.specs.declared.status.Given.TheVariants as givens
use Rattle.slee_run.specs.declared.status.Status.{Status}
use Rattle.slee_run.specs.declared.status.Status.TheVariants as statuses
use Rattle.slee_run.proofs.CheckLemmas.{fault_barred, fault_early, fault_checked, fault_quiet}
use Rattle.slee_run.proofs.checking.counts_of.Goals as goal

pub returns-in-Err-clause-barred : goal.returns-in-Err-clause-barred
returns-in-Err-clause-barred c = subst (IsBarred c.args.bytes.now) (sym c.status_of_fault.ensures) (fault_barred c.args.bytes.now c.in-Err.fault c.requires c.in-Err.ensures)

pub returns-in-Err-clause-early : goal.returns-in-Err-clause-early
returns-in-Err-clause-early c = subst IsEarly (sym c.status_of_fault.ensures) (fault_early c.in-Err.fault)

pub returns-in-Err-clause-comes : goal.returns-in-Err-clause-comes
returns-in-Err-clause-comes c = subst IsCheckedAt (sym c.status_of_fault.ensures) (fault_checked c.in-Err.fault)

pub returns-in-Err-clause-quiet : goal.returns-in-Err-clause-quiet
returns-in-Err-clause-quiet c = subst (λ (s : Status). (s ≢ statuses.ReadFault) × (s ≢ statuses.TooLarge givens.Deploy)) (sym c.status_of_fault.ensures) (fault_quiet c.in-Err.fault)
