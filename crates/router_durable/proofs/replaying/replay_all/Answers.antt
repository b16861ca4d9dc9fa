use Rattle.std.proofs.Common.{sym, subst}
use Rattle.router_durable.specs.Recovery.{misfit}
use Rattle.router_durable.specs.Replaying.{IsMisfit}
use Rattle.router_durable.specs.declared.replaying.ReplayFault.{ReplayFault}
use Rattle.router_durable.proofs.Replays.{next_misfit, next_state, missed}
use Rattle.router_durable.proofs.replaying.replay_all.Goals as goal

pub loop-record-preserved : goal.loop-record-preserved
loop-record-preserved g c = record {
  own = c.in-Ok.ensures.own;
  fits = next_misfit c.args.format c.args.records.now c.loop-record.record-index c.record-item.result c.as_slice.result.now c.loop-record.state.state c.replay_one.new.state.state c.args.state.now.state
      c.loop-record-test.true c.record-item.is c.as_slice.ensures c.in-Ok.ensures.fits c.in-Ok.ensures.ok c.loop-record.invariant.fits;
  state = next_state c.args.format c.args.records.now c.loop-record.record-index c.record-item.result c.as_slice.result.now c.loop-record.state.state c.replay_one.new.state.state c.args.state.now.state
      c.loop-record-test.true c.record-item.is c.as_slice.ensures c.in-Ok.ensures.fits c.in-Ok.ensures.ok c.loop-record.invariant.state;
}

pub returns-in-Err-clause-bad : goal.returns-in-Err-clause-bad
returns-in-Err-clause-bad g c =
    subst (λ (f : ReplayFault). IsMisfit f (misfit c.args.format c.args.state.now.state c.args.records.now)) (sym c.misfit_at.ensures)
    (missed c.args.format c.args.records.now c.loop-record.record-index c.record-item.result c.as_slice.result.now c.loop-record.state.state c.args.state.now.state
    c.loop-record-test.true c.record-item.is c.as_slice.ensures c.in-Err.fault c.in-Err.ensures.bad c.loop-record.invariant.fits)
