-- Names of the naming facility that are given in parts.
use denote.Ref.{Bor}
use Rattle.std.specs.Prelude.{ℕ, List, map}
use Rattle.slee_value.specs.declared.ids.ActivityId.{ActivityId}
use Rattle.router_state.specs.Show.{name_line}

-- a borrowed name and its activity
abbrev pub name_seen : Bor (List ℕ) × ActivityId → List ℕ × ActivityId
name_seen parts = (parts.0.now, parts.1)

-- borrowed names and their activities
abbrev pub names_seen : List (Bor (List ℕ) × ActivityId) → List (List ℕ × ActivityId)
names_seen names = map name_seen names

-- the line of a name and its activity
abbrev pub name_parts_line : List ℕ × ActivityId → List ℕ
name_parts_line parts = name_line (record { name = parts.0; activity = parts.1 })
