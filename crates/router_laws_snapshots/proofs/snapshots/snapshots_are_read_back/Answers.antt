use Rattle.router_laws_snapshots.proofs.Restored.{restored_again, snapshot_restored}
use Rattle.router_laws_snapshots.proofs.snapshots.snapshots_are_read_back.Goals as goal

pub returns : goal.returns
returns c = record { state = restored_again; bytes = snapshot_restored }
