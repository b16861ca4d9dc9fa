use Rattle.std.proofs.Common.{Err, refl}
use Rattle.slee_disk.proofs.WritesLemmas.{writes_stop, writes_then}
use Rattle.slee_run.proofs.printing.write_compacted.Goals as goal

pub returns-in_err-write_count : goal.returns-in_err-write_count
returns-in_err-write_count g c =
    writes_stop _ _ _ _ _ _ (Err c.in_err-write_count.field-0.0) _ refl c.from_residual.ensures.0 c.in_err-write_count.ensures

pub returns : goal.returns
returns g c =
    writes_then _ _ _ _ _ _ _ _ _ c.in_ok-write_count.ensures c.write_status.ensures
