-- What a run is given, as the meaning of scripts sees it.
use Rattle.std.specs.Prelude.{map}
use Rattle.script_run_machine.specs.declared.scene.Scene.{Scene}
use Rattle.script_meaning.specs.Answers.{kept}
use Rattle.script_meaning.specs.Running.{Setting}

abbrev pub setting_of : Scene → Setting
setting_of c = record { answers = kept c.known.now; effects = c.effects.now; keys = c.keys.now; arguments = c.arguments.now; me = c.me; masks = map (λ x. x.name) c.masks.now }
