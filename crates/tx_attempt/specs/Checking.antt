-- Whether what was seen is seen still.
use Rattle.std.specs.Prelude.{◌≡◌, List, Option, Some, None, Result, Ok, Err}
use Rattle.script_meaning.specs.declared.key.Key.{Key}
use Rattle.script_meaning.specs.declared.seen.Seen.{Seen}
use Rattle.handler_run.specs.Views.{conflict}
use Rattle.tx_attempt.specs.declared.check.CheckStop.{CheckStop}
use Rattle.tx_attempt.specs.declared.check.CheckStop.TheVariants as stop

-- a check goes through where nothing conflicts, and stops at the first that does
abbrev pub Checks : Option (Key × Seen × Seen) → Result (Unit {0}) CheckStop → Type 0
Checks found (Ok done) = found ≡ None
Checks found (Err (stop.Conflict key saw now)) = found ≡ Some (key, saw, now)
Checks found (Err stop.NoMemory) = Unit {0}

-- a stop at this key, but for want of memory
abbrev pub Stops : Key → Seen → Seen → CheckStop → Type 0
Stops key saw found (stop.Conflict k s f) = (k ≡ key) × (s ≡ saw) × (f ≡ found)
Stops key saw found stop.NoMemory = Unit {0}
