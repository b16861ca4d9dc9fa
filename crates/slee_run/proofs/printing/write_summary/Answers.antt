use Rattle.std.proofs.Common.{Err, refl}
use Rattle.slee_disk.proofs.WritesLemmas.{writes_stop, writes_then}
use Rattle.slee_run.proofs.printing.write_summary.Goals as goal

pub returns-in_err-write_count : goal.returns-in_err-write_count
returns-in_err-write_count g c =
    writes_stop _ _ _ _ _ _ (Err c.in_err-write_count.field-0.0) _ refl c.from_residual.ensures.0 c.in_err-write_count.ensures

pub returns-in_err-write_count-2 : goal.returns-in_err-write_count-2
returns-in_err-write_count-2 g c =
    writes_then _ _ _ _ _ _ _ _ _ c.in_ok-write_count.ensures
    (writes_stop _ _ _ _ _ _ (Err c.in_err-write_count-2.field-0.0) _ refl c.from_residual-in_err-write_count-2.ensures.0 c.in_err-write_count-2.ensures)

pub returns-in_err-write_count-3 : goal.returns-in_err-write_count-3
returns-in_err-write_count-3 g c =
    writes_then _ _ _ _ _ _ _ _ _ c.in_ok-write_count.ensures
    (writes_then _ _ _ _ _ _ _ _ _ c.in_ok-write_count-2.ensures
    (writes_stop _ _ _ _ _ _ (Err c.in_err-write_count-3.field-0.0) _ refl c.from_residual-in_err-write_count-3.ensures.0 c.in_err-write_count-3.ensures))

pub returns-in_err-write_count-4 : goal.returns-in_err-write_count-4
returns-in_err-write_count-4 g c =
    writes_then _ _ _ _ _ _ _ _ _ c.in_ok-write_count.ensures
    (writes_then _ _ _ _ _ _ _ _ _ c.in_ok-write_count-2.ensures
    (writes_then _ _ _ _ _ _ _ _ _ c.in_ok-write_count-3.ensures
    (writes_stop _ _ _ _ _ _ (Err c.in_err-write_count-4.field-0.0) _ refl c.from_residual-in_err-write_count-4.ensures.0 c.in_err-write_count-4.ensures)))

pub returns : goal.returns
returns g c =
    writes_then _ _ _ _ _ _ _ _ _ c.in_ok-write_count.ensures
    (writes_then _ _ _ _ _ _ _ _ _ c.in_ok-write_count-2.ensures
    (writes_then _ _ _ _ _ _ _ _ _ c.in_ok-write_count-3.ensures
    (writes_then _ _ _ _ _ _ _ _ _ c.in_ok-write_count-4.ensures c.write_count-5.ensures)))
