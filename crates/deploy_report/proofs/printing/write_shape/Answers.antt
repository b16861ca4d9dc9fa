use Rattle.std.proofs.Common.{Err, refl}
use Rattle.slee_disk.proofs.WritesLemmas.{writes_stop, writes_then}
use Rattle.deploy_report.proofs.printing.write_shape.Goals as goal

pub returns-in_err-write_whole : goal.returns-in_err-write_whole
returns-in_err-write_whole g c =
    writes_stop _ _ _ _ _ _ (Err c.in_err-write_whole.field-0.0) _ refl c.from_residual.ensures.0 c.in_err-write_whole.ensures

pub returns-in_err-write_pointer : goal.returns-in_err-write_pointer
returns-in_err-write_pointer g c =
    writes_then _ _ _ _ _ _ _ _ _ c.in_ok-write_whole.ensures
    (writes_stop _ _ _ _ _ _ (Err c.in_err-write_pointer.field-0.0) _ refl c.from_residual-in_err-write_pointer.ensures.0 c.in_err-write_pointer.ensures)

pub returns-in_err-write_whole-2 : goal.returns-in_err-write_whole-2
returns-in_err-write_whole-2 g c =
    writes_then _ _ _ _ _ _ _ _ _ c.in_ok-write_whole.ensures
    (writes_then _ _ _ _ _ _ _ _ _ c.in_ok-write_pointer.ensures
    (writes_stop _ _ _ _ _ _ (Err c.in_err-write_whole-2.field-0.0) _ refl c.from_residual-in_err-write_whole-2.ensures.0 c.in_err-write_whole-2.ensures))

pub returns : goal.returns
returns g c =
    writes_then _ _ _ _ _ _ _ _ _ c.in_ok-write_whole.ensures
    (writes_then _ _ _ _ _ _ _ _ _ c.in_ok-write_pointer.ensures
    (writes_then _ _ _ _ _ _ _ _ _ c.in_ok-write_whole-2.ensures c.write_shape_word.ensures))
