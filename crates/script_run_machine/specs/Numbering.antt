-- The numbers of the names in keys, answers and effects. What has no name has no number.
use Rattle.std.specs.Prelude.{ℕ, List, [], map, Option, Some, None}
use Rattle.script_meaning.specs.declared.key.Key.{Key}
use Rattle.script_meaning.specs.declared.key.Key.TheVariants as k
use Rattle.script_meaning.specs.declared.seen.Seen.{Seen}
use Rattle.script_meaning.specs.declared.seen.Seen.TheVariants as s
use Rattle.slee_effect.specs.declared.effect.Effect.{Effect}
use Rattle.slee_effect.specs.declared.effect.Effect.TheVariants as ef
use Rattle.script_types.specs.Codes.{number_in}
use Rattle.script_run_machine.specs.declared.numbering.Spelling.{Spelling}
use Rattle.script_run_machine.specs.declared.numbering.Spelling.TheVariants as spelling
use Rattle.script_run_machine.specs.declared.numbering.AnswerNumbers.{AnswerNumbers}

-- the bytes of a name
abbrev pub spelled : Spelling → List ℕ
spelled (spelling.Name x) = x.now
spelled (spelling.Text x) = x.now

-- the number of a key's name: a field's, a relation's, an attribute's or a table's
abbrev pub key_number : List (List ℕ) → Key → Option ℕ
key_number names (k.Field e name) = number_in names name
key_number names (k.Children e relation) = number_in names relation
key_number names (k.Attr a key) = number_in names key
key_number names (k.Profile table row) = number_in names table
key_number names _ = None

-- the names in an answer: the events that are masked, or the attributes of a row
abbrev pub names_seen : Option Seen → List (List ℕ)
names_seen (Some (s.Masks (Some events))) = events
names_seen (Some (s.Row (Some fields))) = map (λ f. f.0) fields
names_seen _ = []

abbrev pub numbers_seen : List (List ℕ) → Option Seen → List (Option ℕ)
numbers_seen names seen = map (number_in names) (names_seen seen)

-- the numbers of the names in an answer that was kept, and of its key's name
abbrev pub answer_numbers : List (List ℕ) → Key × Seen → AnswerNumbers
answer_numbers names x = record { key = key_number names x.0; seen = numbers_seen names (Some x.1) }

-- the number of an effect's name: of the field or attribute that it sets, the relation of the child that it makes, the event that it masks
abbrev pub effect_number : List (List ℕ) → Effect → Option ℕ
effect_number names (ef.SetField e name x) = number_in names name
effect_number names (ef.SetAttr a key x) = number_in names key
effect_number names (ef.Create parent relation priority) = number_in names relation
effect_number names (ef.SetMask e a event on) = number_in names event
effect_number names _ = None
