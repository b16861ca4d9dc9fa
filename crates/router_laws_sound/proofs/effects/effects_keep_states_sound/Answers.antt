use Rattle.router_laws_sound.proofs.SoundApplied.{sound_effect}
use Rattle.router_laws_sound.proofs.SoundNumbers.{sound_done}
use Rattle.router_laws_sound.proofs.effects.effects_keep_states_sound.Goals as goal

pub returns-clause-one : goal.returns-clause-one
returns-clause-one c = sound_effect

pub returns-clause-all : goal.returns-clause-all
returns-clause-all c = sound_done
