-- What was seen, beside what is seen now.
use Rattle.std.specs.Prelude.{◌≡◌, Bool, if◌then◌else◌, List, [], ◌∷◌, Option, Some, None}
use Rattle.std.specs.List.{AllByRecursion}
use Rattle.script_meaning.specs.Seeing.{same_seen}
use Rattle.script_meaning.specs.Answers.{Answers}
use Rattle.script_meaning.specs.declared.key.Key.{Key}
use Rattle.script_meaning.specs.declared.seen.Seen.{Seen}

-- each key has an answer
abbrev pub all_answers : (Key → Seen) → Answers
all_answers seen_at key = Some (seen_at key)

-- all that was seen is seen now
abbrev pub Holds : (Key → Seen) → List (Key × Seen) → Type 0
Holds seen_at known = AllByRecursion (λ pair. seen_at pair.0 ≡ pair.1) known

-- what was seen at a key is seen there now
abbrev pub holds_at : (Key → Seen) → Key × Seen → Bool
holds_at seen_at pair = same_seen pair.1 (seen_at pair.0)

-- the first key at which something else is seen now, with what was seen and what is
abbrev pub conflict : (Key → Seen) → List (Key × Seen) → Option (Key × Seen × Seen)
conflict seen_at [] = None
conflict seen_at (pair ∷ known) = if holds_at seen_at pair then conflict seen_at known else Some (pair.0, pair.1, seen_at pair.0)
