-- What was seen, beside what is seen now.
use Rattle.std.specs.Prelude.{◌≡◌, Bool, if◌then◌else◌, List, [], ◌∷◌, Option, Some, None}
use Rattle.std.specs.List.{AllByRecursion}
use Rattle.script_meaning.specs.Seeing.{same_seen}
use Rattle.script_meaning.specs.declared.key.Key.{Key}
use Rattle.script_meaning.specs.declared.seen.Seen.{Seen}
use Rattle.router_state.specs.State.{State}
use Rattle.router_state.specs.Look.{look}

-- what was seen at a key is seen there now
abbrev pub holds_at : State → Key × Seen → Bool
holds_at s pair = same_seen pair.1 (look s pair.0)

-- all that was seen is seen now
abbrev pub Holds : List (Key × Seen) → State → Type 0
Holds known s = AllByRecursion (λ pair. look s pair.0 ≡ pair.1) known

-- the first key at which something else is seen now, with what was seen and what is
abbrev pub conflict : List (Key × Seen) → State → Option (Key × Seen × Seen)
conflict [] s = None
conflict (pair ∷ known) s = if holds_at s pair then conflict known s else Some (pair.0, pair.1, look s pair.0)
