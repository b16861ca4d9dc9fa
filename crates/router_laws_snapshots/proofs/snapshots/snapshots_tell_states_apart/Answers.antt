use Rattle.router_laws_snapshots.proofs.Restored.{snapshots_same}
use Rattle.router_laws_snapshots.proofs.snapshots.snapshots_tell_states_apart.Goals as goal

pub returns : goal.returns
returns c = snapshots_same
