use Rattle.router_laws_snapshots.proofs.SnapshotTexts.{text_again, text_is}
use Rattle.router_laws_snapshots.proofs.texts.snapshot_texts_are_read_back.Goals as goal

pub returns : goal.returns
returns c = record { back = text_again; only = text_is }
