-- Which item of a list has each name, as an index has it.
use Rattle.std.specs.Prelude.{◌≡◌, ℕ, List, Option, Some, None, bytes_eq, Box, IfSome, if◌then◌else◌}
use Rattle.std.specs.HashMap.{get_by}
use Rattle.std.specs.List.{position_from}
use Rattle.script_tree.specs.Tree.{Bytes}
use Rattle.script_types.specs.declared.places.Places.{Places}

-- What the index has for a name.
abbrev pub place_in : Places → Bytes → Option ℕ
place_in places name = get_by (λ k. bytes_eq name k.items) places.found

-- The place, where this is the name of what is there.
abbrev pub only_at : Bytes → ℕ → Bytes → Option ℕ
only_at name place q = if bytes_eq name q then Some place else None

-- An index, where there is one, that has for each name the place of the first item of that name.
abbrev pub IsIndex : {A Z : Type 0} → (A → Bytes) → List A → Option (Box Places Z) → Type 0
IsIndex name_of items places = IfSome places (λ p. (q : Bytes) → place_in p.value q ≡ position_from (λ x. bytes_eq (name_of x) q) 0 items)
