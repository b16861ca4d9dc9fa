use Rattle.std.proofs.Common.{ap}
use Rattle.router_durable.specs.Facts.{initial_of}
use Rattle.router_durable.proofs.Replays.{replay_cause, replays_on}
use Rattle.router_durable.proofs.replaying.replayed.Goals as goal

pub returns-in-Ok-replay_all-clause-ok : goal.returns-in-Ok-replay_all-clause-ok
returns-in-Ok-replay_all-clause-ok g c =
    replays_on _ _ c.args.journal.now.kept.head c.args.journal.now.records c.records.result.now c.format.result c.in-Ok.state.state c.of-start.result.value.state c.replay_all.new.state.state
    c.format.ensures.format c.records.ensures (ap (λ v. v.state) c.of-start.ensures) c.in-Ok.ensures.started c.in-Ok-replay_all.ensures.fits c.in-Ok-replay_all.ensures.ok

pub returns-in-Err-replay_all-clause-bad : goal.returns-in-Err-replay_all-clause-bad
returns-in-Err-replay_all-clause-bad g c =
    replay_cause (initial_of c.args.planning.deployment.now.parts c.args.planning.deployment.now.codes) c.args.journal.now.kept.side c.side.result c.args.journal.now.kept.head c.format.result c.args.journal.now.records c.records.result.now
    c.in-Ok.state.state c.in-Err-replay_all.fault c.refusal_of.result c.side.ensures.side c.format.ensures.format c.records.ensures c.refusal_of.ensures c.in-Ok.ensures.started c.in-Err-replay_all.ensures.bad
