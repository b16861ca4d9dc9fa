-- What holds of every deployment that was read, with the program of its scripts.
use Rattle.std.specs.Prelude.{ℕ, ◌≡◌, true, List, Some, is_some, slice_get}
use Rattle.deploy_model.specs.Deployed.{Deployed, handles}
use Rattle.router_laws_sound.specs.Rooms.{IsDeployed}
use Rattle.router_laws_steps.specs.About.{AreWords}
use Rattle.router_laws_suiting.specs.Declared.{AreSpelled, IsProgrammed}
use Rattle.script_meaning.specs.Delivery.{handler_of}
use Rattle.script_types.specs.Program.{BlockProgram, Program}

-- No declared event has the name of one that is built in, and each name is a word; what is masked are events; fields rise by name;
-- priorities lie in their range. The program is that of checked scripts, whose constants have spellings, and has a handler for each
-- event that a block handles.
pub record IsAsRead (d : Deployed) (program : Program) : Type 0 where
  pub deployed : IsDeployed d
  pub words : AreWords d
  pub programmed : IsProgrammed d program
  pub spelled : AreSpelled program
  pub handled : (n : ℕ) (event : List ℕ) → handles d n event ≡ true → (block : BlockProgram) × (slice_get program n ≡ Some block) × (is_some (handler_of event block) ≡ true)
