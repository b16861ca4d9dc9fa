use Rattle.router_laws_snapshots.proofs.Restored.{restored_is}
use Rattle.router_laws_snapshots.proofs.snapshots.restored_states_have_their_bytes.Goals as goal

pub returns : goal.returns
returns c = restored_is
