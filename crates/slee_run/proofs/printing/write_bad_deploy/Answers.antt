use Rattle.std.proofs.Common.{Err, refl}
use Rattle.slee_disk.proofs.WritesLemmas.{writes_stop, writes_then}
use Rattle.slee_run.proofs.printing.write_bad_deploy.Goals as goal

pub returns-in_err-write_whole : goal.returns-in_err-write_whole
returns-in_err-write_whole g c =
    writes_stop _ _ _ _ _ _ (Err c.in_err-write_whole.field-0.0) _ refl c.from_residual.ensures.0 c.in_err-write_whole.ensures

pub returns-in_err-write_fault : goal.returns-in_err-write_fault
returns-in_err-write_fault g c =
    writes_then _ _ _ _ _ _ _ _ _ c.in_ok-write_whole.ensures
    (writes_stop _ _ _ _ _ _ (Err c.in_err-write_fault.field-0.0) _ refl c.from_residual-in_err-write_fault.ensures.0 c.in_err-write_fault.ensures)

pub returns : goal.returns
returns g c =
    writes_then _ _ _ _ _ _ _ _ _ c.in_ok-write_whole.ensures
    (writes_then _ _ _ _ _ _ _ _ _ c.in_ok-write_fault.ensures c.write_whole-2.ensures)
