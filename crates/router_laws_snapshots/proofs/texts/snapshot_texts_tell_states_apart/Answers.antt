use Rattle.router_laws_snapshots.proofs.SnapshotTexts.{texts_same}
use Rattle.router_laws_snapshots.proofs.texts.snapshot_texts_tell_states_apart.Goals as goal

pub returns : goal.returns
returns c = texts_same
