use Rattle.std.proofs.Common.{Err, refl}
use Rattle.slee_disk.proofs.WritesLemmas.{writes_stop, writes_then}
use Rattle.slee_run.proofs.printing.write_count.Goals as goal

pub returns-in_err-write_whole : goal.returns-in_err-write_whole
returns-in_err-write_whole g c =
    writes_stop _ _ _ _ _ _ (Err c.in_err-write_whole.field-0.0) _ refl c.from_residual.ensures.0 c.in_err-write_whole.ensures

pub returns-in_err-write_number : goal.returns-in_err-write_number
returns-in_err-write_number g c =
    writes_then _ _ _ _ _ _ _ _ _ c.in_ok-write_whole.ensures
    (writes_stop _ _ _ _ _ _ (Err c.in_err-write_number.field-0.0) _ refl c.from_residual-in_err-write_number.ensures.0 c.in_err-write_number.ensures)

pub returns : goal.returns
returns g c =
    writes_then _ _ _ _ _ _ _ _ _ c.in_ok-write_whole.ensures
    (writes_then _ _ _ _ _ _ _ _ _ c.in_ok-write_number.ensures c.write_whole-2.ensures)
