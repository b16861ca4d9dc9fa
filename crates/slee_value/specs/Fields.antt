-- Lists of named values.
use Rattle.std.specs.Prelude.{ℕ, Bool, ◌&&◌, List}
use Rattle.std.specs.List.{list_all}
use Rattle.slee_value.specs.Name.{is_name}
use Rattle.slee_value.specs.Order.{rises, names_of}

-- whether the names are names, and rise in byte order
abbrev pub are_fields : {A : Type 0} → List (List ℕ × A) → Bool
are_fields fields = list_all is_name (names_of fields) && rises (names_of fields)
