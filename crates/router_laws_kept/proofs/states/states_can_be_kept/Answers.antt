use Rattle.router_laws_kept.proofs.Keeping.{kept_after, kept_first, kept_replay, kept_snapshot, snapshot_deployed}
use Rattle.router_laws_kept.proofs.states.states_can_be_kept.Goals as goal

pub returns-clause-first : goal.returns-clause-first
returns-clause-first c = kept_first

pub returns-clause-snapshot : goal.returns-clause-snapshot
returns-clause-snapshot c = kept_snapshot

pub returns-clause-deployment : goal.returns-clause-deployment
returns-clause-deployment c = snapshot_deployed

pub returns-clause-step : goal.returns-clause-step
returns-clause-step c = kept_after

pub returns-clause-history : goal.returns-clause-history
returns-clause-history c = kept_replay
