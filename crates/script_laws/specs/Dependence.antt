-- When a function from keys to answers has the answers of another.
use Rattle.std.specs.Prelude.{◌≡◌, ◌||◌, true, List, Some}
use Rattle.std.specs.List.{list_any}
use Rattle.script_meaning.specs.declared.key.Key.{Key}
use Rattle.script_meaning.specs.declared.seen.Seen.{Seen}
use Rattle.script_meaning.specs.Seeing.{same_key}
use Rattle.script_meaning.specs.Answers.{Answers}
use Rattle.script_meaning.specs.Running.{Setting}

-- it has the same answer to each key that has one here
abbrev pub Extends : Answers → Answers → Type 0
Extends answers other = (key : Key) (seen : Seen) → answers key ≡ Some seen → other key ≡ Some seen

-- it has the same answer to each key that the transaction had read before, and to each of these, that has one here
abbrev pub Agree : Setting → Answers → List Key → Type 0
Agree given other keys = (key : Key) (seen : Seen) → (list_any (same_key key) given.keys || list_any (same_key key) keys) ≡ true → given.answers key ≡ Some seen → other key ≡ Some seen
