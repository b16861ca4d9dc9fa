-- What an entity says when it is removed, by its fields alone.
use Rattle.std.specs.Prelude.{ℕ, ◌+◌, ◌<◌, ◌≡◌, false, List, [], length, Option, Some, None, slice_get}
use Rattle.std.specs.Fmt.{decimal}
use Rattle.std.specs.Option.{option_map_or}
use Rattle.slee_value.specs.Escape.{escaped}
use Rattle.slee_value.specs.declared.ids.EntityId.{EntityId}
use Rattle.slee_value.specs.declared.value.Value.{Value}
use Rattle.script_types.specs.Program.{Program}
use Rattle.script_meaning.specs.declared.key.Key.TheVariants as k
use Rattle.script_meaning.specs.declared.seen.Seen.TheVariants as seen
use Rattle.script_meaning.specs.Answers.{Answers}
use Rattle.script_meaning.specs.Removal.{removal_lines}

-- the answers of whoever has the fields of entities, and nothing else
abbrev pub own_answers : (EntityId → List ℕ → Option Value) → Answers
own_answers field_of (k.Field e name) = Some (seen.Held (field_of e name))
own_answers field_of key = None

-- the lines of an entity of the block of this number
abbrev pub words_over : Answers → Program → ℕ → EntityId → List (List ℕ)
words_over answers program number e = option_map_or (λ block. removal_lines answers program block e) (slice_get program number) []

-- how many bytes the line of an entity has before its text
abbrev pub line_head : EntityId → ℕ
line_head e = 8 + length (decimal e.0)

-- how many bytes the line of a text has, if there is one
abbrev pub said_len : EntityId → Option (List ℕ) → ℕ
said_len e None = 0
said_len e (Some text) = line_head e + length (escaped false text)

-- what is left of room for so many bytes: nothing where they have none
abbrev pub LeavesRoom : ℕ → ℕ → Option ℕ → Type 0
LeavesRoom room needed None = room < needed
LeavesRoom room needed (Some left) = left + needed ≡ room
