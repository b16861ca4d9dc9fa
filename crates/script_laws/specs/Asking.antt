-- Runs and deliveries that ask for one key after another.
use Rattle.std.specs.Prelude.{◌≡◌, List, [], ◌∷◌, ◌++◌, Option, Some, None}
use Rattle.script_meaning.specs.declared.key.Key.{Key}
use Rattle.script_meaning.specs.declared.seen.Seen.{Seen}
use Rattle.script_meaning.specs.Answers.{Answers, kept}
use Rattle.script_meaning.specs.Meaning.{Meaning, Done, Need, Unchecked}
use Rattle.script_meaning.specs.Delivery.{Delivery, Complete, Wants, NotChecked}

-- the key that a run lacks, if it lacks one
abbrev pub lacked_in : Meaning → Option Key
lacked_in (Done report) = None
lacked_in (Need key) = Some key
lacked_in Unchecked = None

-- the key that a delivery lacks
abbrev pub lacked_by : Delivery → Option Key
lacked_by (Complete delivered) = None
lacked_by (Wants key) = Some key
lacked_by NotChecked = None

-- Each of the keys that were learned was lacked over the answers that were known before it.
abbrev pub WereAsked : (Answers → Option Key) → List (Key × Seen) → List (Key × Seen) → Type 0
WereAsked lacks known [] = Unit {0}
WereAsked lacks known (pair ∷ learned) = (lacks (kept known) ≡ Some pair.0) × WereAsked lacks (known ++ pair ∷ []) learned
