use Rattle.snapshot_stores.proofs.SoundLemmas.{can_be_stored}
use Rattle.snapshot_stores.proofs.laws.sound_states_can_be_stored.Goals as goal

pub returns : goal.returns
returns c = λ s sound. can_be_stored s sound
