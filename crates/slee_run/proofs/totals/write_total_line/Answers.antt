use Rattle.std.proofs.Common.{Err, refl, rules}
use Rattle.std.proofs.lemmas.Int.{to_z-of_z}
use mir.Syntax.{w128}
use Rattle.slee_disk.proofs.WritesLemmas.{writes_stop, writes_then}
use Rattle.slee_run.proofs.totals.write_total_line.Goals as goal

pub returns-in_err-write_whole : goal.returns-in_err-write_whole
returns-in_err-write_whole g c =
    writes_stop _ _ _ _ _ _ (Err c.in_err-write_whole.field-0.0) _ refl c.from_residual.ensures.0 c.in_err-write_whole.ensures

pub returns-in_err-write_name : goal.returns-in_err-write_name
returns-in_err-write_name g c =
    writes_then _ _ _ _ _ _ _ _ _ c.in_ok-write_whole.ensures
    (writes_stop _ _ _ _ _ _ (Err c.in_err-write_name.field-0.0) _ refl c.from_residual-in_err-write_name.ensures.0 c.in_err-write_name.ensures)

pub returns-in_err-write_whole-2 : goal.returns-in_err-write_whole-2
returns-in_err-write_whole-2 g c =
    writes_then _ _ _ _ _ _ _ _ _ c.in_ok-write_whole.ensures
    (writes_then _ _ _ _ _ _ _ _ _ c.in_ok-write_name.ensures
    (writes_stop _ _ _ _ _ _ (Err c.in_err-write_whole-2.field-0.0) _ refl c.from_residual-in_err-write_whole-2.ensures.0 c.in_err-write_whole-2.ensures))

pub returns-in_err-write_number : goal.returns-in_err-write_number
returns-in_err-write_number g c =
    writes_then _ _ _ _ _ _ _ _ _ c.in_ok-write_whole.ensures
    (writes_then _ _ _ _ _ _ _ _ _ c.in_ok-write_name.ensures
    (writes_then _ _ _ _ _ _ _ _ _ c.in_ok-write_whole-2.ensures
    (writes_stop _ _ _ _ _ _ (Err c.in_err-write_number.field-0.0) _ refl c.from_residual-in_err-write_number.ensures.0 c.in_err-write_number.ensures)))

pub returns-in_err-write_whole-3 : goal.returns-in_err-write_whole-3
returns-in_err-write_whole-3 g c =
    writes_then _ _ _ _ _ _ _ _ _ c.in_ok-write_whole.ensures
    (writes_then _ _ _ _ _ _ _ _ _ c.in_ok-write_name.ensures
    (writes_then _ _ _ _ _ _ _ _ _ c.in_ok-write_whole-2.ensures
    (writes_then _ _ _ _ _ _ _ _ _ c.in_ok-write_number.ensures
    (writes_stop _ _ _ _ _ _ (Err c.in_err-write_whole-3.field-0.0) _ refl c.from_residual-in_err-write_whole-3.ensures.0 c.in_err-write_whole-3.ensures))))

pub returns : goal.returns
returns g c =
    writes_then _ _ _ _ _ _ _ _ _ c.in_ok-write_whole.ensures
    (writes_then _ _ _ _ _ _ _ _ _ c.in_ok-write_name.ensures
    (writes_then _ _ _ _ _ _ _ _ _ c.in_ok-write_whole-2.ensures
    (writes_then _ _ _ _ _ _ _ _ _ c.in_ok-write_number.ensures
    (writes_then _ _ _ _ _ _ _ _ _ c.in_ok-write_whole-3.ensures (rw (to_z-of_z w128 c.args.total.now.sum (search rules)) at c.write_signed.ensures)))))
