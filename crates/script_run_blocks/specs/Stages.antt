-- What steps mean on a stage, where calls may be nested so deep.
use Rattle.std.specs.Prelude.{ℕ, zero, suc, List, map, slice_get}
use Rattle.slee_effect.specs.declared.reference.Ref.{Ref}
use Rattle.script_meaning.specs.declared.outcome.FailKind.TheVariants as f
use Rattle.script_types.specs.Program.{Step, Steps, Program, Call}
use Rattle.script_types.specs.declared.step.Range.{Range}
use Rattle.script_types.specs.declared.checked_step.Call.{Call as CallInMemory}
use Rattle.script_types.specs.ProgramOf.{term_of, block_program_of}
use Rattle.script_meaning.specs.Running.{Setting, Variable, Run, ◌>>=◌, give, break, found}
use Rattle.script_meaning.specs.Observing as read
use Rattle.script_meaning.specs.Steps.{Flow, next, items, walk, arguments_of, does_call, act, act_all}
use Rattle.script_meaning.specs.Calls.{apart, keep_result, setting_in, call_at}
use Rattle.script_run_machine.specs.Settings.{setting_of}
use Rattle.script_run_blocks.specs.declared.stage.Stage.{Stage}
use Rattle.script_run_blocks.specs.Loops.{holding}
use Rattle.script_types.specs.Numbers.{IsNumberedProgram}
use Rattle.script_run_blocks.specs.Tidy.{IsTidyProgram}

abbrev pub given : Stage → Setting
given stage = setting_of stage.scene

abbrev pub program_of : Stage → Program
program_of stage = map block_program_of stage.blocks.now

-- whose scripts are all tidy, and whose names have their numbers
abbrev pub IsTidyStage : Stage → Type 0
IsTidyStage stage = IsTidyProgram (program_of stage) × IsNumberedProgram stage.scene.names.now (program_of stage)

unfoldable pub act_in : Stage → ℕ → Step → Run Flow
act_in stage depth step = act (given stage) (call_at (given stage) (program_of stage) depth) step

unfoldable pub all_in : Stage → ℕ → Steps → Run Flow
all_in stage depth steps = act_all (given stage) (call_at (given stage) (program_of stage) depth) steps

-- a turn for each that a range has
abbrev pub goes_over : Stage → ℕ → Range → Steps → Run Flow
goes_over stage depth over steps = do
  xs ← items (given stage) over
  walk xs (all_in stage depth steps)

-- a call as a step
unfoldable pub invokes : Stage → ℕ → Call → Run Flow
invokes stage depth c = next (does_call (given stage) (call_at (given stage) (program_of stage) depth) c)

-- where one call more may be nested
abbrev pub deeper : ℕ → Run (Unit {0})
deeper zero = break f.Depth
deeper (suc more) = give tt

-- the child that is called, and the arguments as its method's variables
abbrev pub prepares : Setting → ℕ → CallInMemory → Run (Ref × List Variable)
prepares s depth c = do
  e ← read.child s c.child
  xs ← holding (arguments_of s (map term_of c.arguments.items))
  _ ← deeper depth
  give (e, xs)

-- the method of a child, with its first variables, where so many calls more may be nested in it
unfoldable pub enters : Stage → ℕ → CallInMemory → Ref → List Variable → Run Flow
enters stage more c e variables = next (do
  block ← found (slice_get (program_of stage) c.block)
  method ← found (slice_get block.methods c.method)
  flow ← apart variables (act_all (setting_in (given stage) block e) (call_at (given stage) (program_of stage) more) method.steps)
  keep_result c.keeps flow method.result)
