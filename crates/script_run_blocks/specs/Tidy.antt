-- Steps of which none fires an event with one field twice. No check lets such a one through.
use Rattle.std.specs.Prelude.{Option, Some, None}
use Rattle.std.specs.List.{AllByRecursion}
use Rattle.script_types.specs.Program.{Step, Steps, BlockProgram, Program}
use Rattle.script_types.specs.Program as p
use Rattle.script_run_steps.specs.Firing.{FiresOnce}

abbrev mutual
  pub IsTidy : Step → Type 0
  IsTidy (p.Activity x) = FiresOnce x
  IsTidy (p.If x body other) = AreTidy body × AreTidy other
  IsTidy (p.While x body) = AreTidy body
  IsTidy (p.For over body) = AreTidy body
  IsTidy _ = Unit {0}

  pub AreTidy : Steps → Type 0
  AreTidy p.Nothing = Unit {0}
  AreTidy (p.Then x rest) = IsTidy x × AreTidy rest

-- a script that a block may lack
abbrev pub IsTidyScript : Option Steps → Type 0
IsTidyScript None = Unit {0}
IsTidyScript (Some steps) = AreTidy steps

-- all scripts of a block
pub record IsTidyBlock (block : BlockProgram) : Type 0 where
  pub handlers : AllByRecursion (λ h. AreTidy h.steps) block.handlers
  pub methods : AllByRecursion (λ m. AreTidy m.steps) block.methods
  pub exception : IsTidyScript block.exception
  pub rolled_back : IsTidyScript block.rolled_back
  pub remove : IsTidyScript block.remove

-- all scripts of a deployment
abbrev pub IsTidyProgram : Program → Type 0
IsTidyProgram program = AllByRecursion IsTidyBlock program
