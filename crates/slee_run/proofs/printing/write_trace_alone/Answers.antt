use Rattle.std.proofs.Common.{Err, refl}
use Rattle.slee_disk.proofs.WritesLemmas.{writes_as, writes_stop, writes_then}
use Rattle.slee_run.proofs.printing.write_trace_alone.Goals as goal

pub returns-in_err-write_whole : goal.returns-in_err-write_whole
returns-in_err-write_whole g c =
    writes_stop _ _ _ _ _ _ (Err c.in_err-write_whole.field-0.0) _ refl c.from_residual.ensures.0 (writes_as _ _ _ _ _ _ _ c.text.ensures c.in_err-write_whole.ensures)

pub returns : goal.returns
returns g c =
    writes_then _ _ _ _ _ _ _ _ _ (writes_as _ _ _ _ _ _ _ c.text.ensures c.in_ok-write_whole.ensures) c.write_status.ensures
