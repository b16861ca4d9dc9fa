-- The values that the field words of a line give, and the values with which fields start.
use Rattle.std.specs.Prelude.{ℕ, pos, Bool, true, false, ◌==◌, if◌then◌else◌, List, [], ◌∷◌, length, codes, Some, None, Option, option_map, option_and_then, find}
use Rattle.std.specs.Str.{bytes_eq}
use Rattle.slee_value.specs.declared.kind.Kind.{Kind}
use Rattle.slee_value.specs.declared.kind.Kind.TheVariants as kinds
use Rattle.slee_value.specs.declared.value.Value.{Value}
use Rattle.slee_value.specs.declared.value.Value.TheVariants as values
use Rattle.script_types.specs.declared.codes.FieldCode.{FieldCode}
use Rattle.trace_history.specs.Decimals.{int_in}

-- the truth value of a word
abbrev pub bool_in : List ℕ → Option Bool
bool_in word = if bytes_eq word (codes "true") then Some true else (if bytes_eq word (codes "false") then Some false else None)

-- the value of a type that a text stands for; activities and timers can't be given
abbrev pub value_in : Kind → List ℕ → Option Value
value_in kinds.Int text = option_map values.Int (int_in text)
value_in kinds.Text text = Some (values.Text text)
value_in kinds.Bool text = option_map values.Bool (bool_in text)
value_in kinds.Activity text = None
value_in kinds.Timer text = None

-- the text that the words give to a name
abbrev pub text_given : List ℕ → List (List ℕ × List ℕ) → Option (List ℕ)
text_given name words = option_map (λ word. word.1) (find (λ word. bytes_eq word.0 name) words)

-- the value that the words give to a declared field
abbrev pub value_given : FieldCode → List (List ℕ × List ℕ) → Option Value
value_given field words = option_and_then (value_in field.kind) (text_given field.name words)

-- the values of these fields, where the words give each
abbrev pub values_given : List FieldCode → List (List ℕ × List ℕ) → Option (List (List ℕ × Value))
values_given [] words = Some []
values_given (field ∷ fields) words =
    option_and_then (λ value. option_map (λ more. (field.name, value) ∷ more) (values_given fields words)) (value_given field words)

-- the values of the declared fields, where the words, no two of which have one name, give each of these and no more
abbrev pub fields_given : List FieldCode → List (List ℕ × List ℕ) → Option (List (List ℕ × Value))
fields_given fields words = if length words == length fields then values_given fields words else None

-- the value with which a field starts
abbrev pub unset : Kind → Value
unset kinds.Int = values.Int (pos 0)
unset kinds.Text = values.Text []
unset kinds.Bool = values.Bool false
unset kinds.Activity = values.Activity (record { 0 = 0 })
unset kinds.Timer = values.Timer (record { 0 = 0 })
