use Rattle.std.proofs.Common.{Err, arith, refl}
use Rattle.slee_run.proofs.TotalLemmas.{all_out, none_out, row_out, row_stopped}
use Rattle.slee_run.proofs.totals.write_rows.Goals as goal

pub loop-total-init : goal.loop-total-init
loop-total-init g c = none_out g.K.Sink.contents g.K.Sink.faults c.args.out.now

pub loop-total-preserved : goal.loop-total-preserved
loop-total-preserved g c =
    row_out g.K.Sink.contents g.K.Sink.faults _ _ _ c.args.totals.now c.loop-total.total-index c.total-item.result c.loop-total-test.true c.total-item.is c.loop-total.invariant _ c.in_ok-write_total.ensures

pub returns-in_err-write_total : goal.returns-in_err-write_total
returns-in_err-write_total g c =
    row_stopped g.K.Sink.contents g.K.Sink.faults _ _ _ c.args.totals.now c.loop-total.total-index c.total-item.result c.loop-total-test.true c.total-item.is c.loop-total.invariant (Err c.in_err-write_total.field-0.0) _ refl c.from_residual.ensures.0 c.in_err-write_total.ensures

pub returns : goal.returns
returns g c = all_out g.K.Sink.contents g.K.Sink.faults _ _ c.args.totals.now c.loop-total.total-index _ (omega (arith, c.loop-total-test.false)) c.loop-total.invariant
