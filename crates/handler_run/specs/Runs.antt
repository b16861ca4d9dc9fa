-- What a run answers, as the meaning of scripts sees it.
use Rattle.std.specs.Prelude.{◌≡◌, ℕ, List, [], Result, Ok, Err, codes, if◌then◌else◌}
use Rattle.script_meaning.specs.declared.outcome.Outcome.{Outcome}
use Rattle.script_meaning.specs.declared.outcome.Outcome.TheVariants as o
use Rattle.script_meaning.specs.Meaning.{Before, Meaning, Done, Need, Unchecked}
use Rattle.script_run_machine.specs.declared.frames.Finished.{Finished}
use Rattle.handler_run.specs.declared.before.Before.{Before as BeforeInMemory}
use Rattle.handler_run.specs.declared.run.Run.{Run}
use Rattle.handler_run.specs.declared.run.Run.TheVariants as r
use Rattle.handler_run.specs.declared.run.Unfinished.{Unfinished}
use Rattle.handler_run.specs.declared.run.Unfinished.TheVariants as u

abbrev pub before_of : BeforeInMemory → Before
before_of b = record { effects = b.effects; keys = b.keys }

abbrev pub meaning_of_run : Run → Meaning
meaning_of_run (r.Done outcome failure effects keys) = Done (record { outcome = outcome; failure = failure; effects = effects; keys = keys })
meaning_of_run (r.Need key) = Need key

-- what was made of a script: its meaning, but for want of memory
abbrev pub Means : Meaning → Result Run Unfinished → Type 0
Means meaning (Ok run) = meaning ≡ meaning_of_run run
Means meaning (Err u.NoMemory) = Unit {0}
Means meaning (Err u.Unchecked) = meaning ≡ Unchecked

-- a run that ended so
abbrev pub ended : Outcome → List ℕ → Finished → Meaning
ended outcome failure finished = Done (record { outcome = outcome; failure = failure; effects = finished.effects.items; keys = finished.keys.items })

-- a run that went through
abbrev pub gone_through : Finished → Meaning
gone_through finished = if finished.is_asked then ended o.Asked (codes "asked") finished else ended o.Fine [] finished
