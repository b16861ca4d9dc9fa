-- The number that a convergence name is made into: its five parts one after the other, each spread over what stands before.
use Rattle.std.specs.Prelude.{ℕ, ◌+◌, ◌%◌, ◌^◌, List, [], Option}
use Rattle.std.specs.Option.{option_map_or, unwrap_or}
use Rattle.slee_value.specs.declared.convergence.ConvName.{ConvName}
use Rattle.rows_index.specs.Numbers.{number_with}

-- a number behind another one
abbrev pub with_number : ℕ → ℕ → ℕ
with_number before number = number_with ((before + number) % 2 ^ 64) []

-- a text behind a number; a part that isn't there counts as an empty one
abbrev pub with_text : ℕ → Option (List ℕ) → ℕ
with_text before text = number_with before (unwrap_or text [])

-- the number of the activity and of the texts that come first
abbrev pub texts_number : ConvName → ℕ
texts_number name = with_text (with_text (with_number 0 (option_map_or (λ a. a.0) name.activity 0)) name.address) name.event_type

-- the number of a convergence name
abbrev pub name_number : ConvName → ℕ
name_number name = with_text (with_number (texts_number name) (option_map_or (λ e. e.0) name.event 0)) name.custom
