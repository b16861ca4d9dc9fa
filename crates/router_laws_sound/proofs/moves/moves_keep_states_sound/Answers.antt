use Rattle.router_laws_sound.proofs.SoundMoves.{sound_queued, sound_ended}
use Rattle.router_laws_sound.proofs.moves.moves_keep_states_sound.Goals as goal

pub returns-clause-queued : goal.returns-clause-queued
returns-clause-queued c = sound_queued

pub returns-clause-ended : goal.returns-clause-ended
returns-clause-ended c = sound_ended
