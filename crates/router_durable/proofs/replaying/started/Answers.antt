use Rattle.std.proofs.Common.{Err, None, Some, ap, sym, ◌∙◌}
use Rattle.router_durable.specs.Facts.{initial_of}
use Rattle.router_durable.proofs.Replays.{first_stands, snapshot_stands, snapshot_cause}
use Rattle.router_durable.proofs.replaying.started.Goals as goal

pub returns-in-Ok-clause-started : goal.returns-in-Ok-clause-started
returns-in-Ok-clause-started g c = first_stands _ _ _ _ c.snapshot-snapshot.result.now c.snapshot-snapshot.ensures (sym c.is_empty.ensures ∙ c.if-is_empty.true) _ c.in-Ok.ensures

pub returns-in-Ok-from_bytes-clause-started : goal.returns-in-Ok-from_bytes-clause-started
returns-in-Ok-from_bytes-clause-started g c =
    snapshot_stands _ _ _ _ c.snapshot-snapshot.result.now c.snapshot-snapshot.ensures (sym c.is_empty.ensures ∙ c.if-is_empty.false) _ c.format.ensures.format (Some c.in-Ok-from_bytes.state.state) c.in-Ok-from_bytes.ensures.ok

pub returns-in-Err-Bad-clause-bad : goal.returns-in-Err-Bad-clause-bad
returns-in-Err-Bad-clause-bad g c =
    snapshot_cause (initial_of c.args.planning.deployment.now.parts c.args.planning.deployment.now.codes) c.args.journal.now.kept.side c.side.result c.args.journal.now.kept.head c.args.journal.now.records c.side.ensures.side
    (snapshot_stands _ _ _ _ c.snapshot-snapshot.result.now c.snapshot-snapshot.ensures (sym c.is_empty.ensures ∙ c.if-is_empty.false) _ c.format.ensures.format None (c.in-Err-Bad.ensures.bad (ap (λ f. Err f) c.in-Err-Bad.field-0-is)))
