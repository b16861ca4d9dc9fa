use Rattle.std.proofs.Common.{Err, refl}
use Rattle.slee_disk.proofs.WritesLemmas.{writes_stop, writes_then}
use Rattle.slee_run.proofs.totals.write_total.Goals as goal

pub returns-in_err-write_total_line : goal.returns-in_err-write_total_line
returns-in_err-write_total_line g c =
    writes_stop _ _ _ _ _ _ (Err c.in_err-write_total_line.field-0.0) _ refl c.from_residual.ensures.0 c.in_err-write_total_line.ensures

pub returns : goal.returns
returns g c =
    writes_then _ _ _ _ _ _ _ _ _ c.in_ok-write_total_line.ensures c.write_whole.ensures
