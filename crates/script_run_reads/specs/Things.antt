-- Things that effects make.
use Rattle.std.specs.Prelude.{ℕ}
use Rattle.slee_effect.specs.declared.effect.Effect.{Effect}
use Rattle.script_meaning.specs.Overlay.{entities_by, activities_by, timers_by}
use Rattle.script_run_reads.specs.declared.things.Thing.{Thing}
use Rattle.script_run_reads.specs.declared.things.Thing.TheVariants as thing

-- how many of the kind an effect makes
abbrev pub made_by : Thing → Effect → ℕ
made_by thing.Entity = entities_by
made_by thing.Activity = activities_by
made_by thing.Timer = timers_by
