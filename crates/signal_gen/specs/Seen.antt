-- Bytes that may stand in a line as they are.
use Rattle.std.specs.Prelude.{ℕ, Bool, ◌&&◌, nat_le, nat_lt, List}
use Rattle.std.specs.List.{list_all}
use Rattle.slee_value.specs.Name.{is_name}

-- a byte that is seen, or a space
abbrev pub is_seen : ℕ → Bool
is_seen b = nat_le 32 b && nat_lt b 127

abbrev pub are_seen : List ℕ → Bool
are_seen bs = list_all is_seen bs

-- fields whose names are names and whose values are seen
abbrev pub are_told : List (List ℕ × List ℕ) → Bool
are_told fields = list_all (λ field. is_name field.0 && are_seen field.1) fields
