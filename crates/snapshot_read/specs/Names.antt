-- Which states can be held as rows: where a row has a name there is one, and the names of named values rise.
use Rattle.std.specs.Prelude.{ℕ, ◌&&◌, Bool, true, false, List, [], ◌∷◌, Result, Ok, Err}
use Rattle.std.specs.List.{list_all}
use Rattle.slee_value.specs.Fields.{are_fields}
use Rattle.slee_value.specs.Name.{is_name}
use Rattle.slee_value.specs.Reading.{Fault}
use Rattle.router_state.specs.State.{State}
use Rattle.router_state.specs.declared.rows.Stem.{Stem}
use Rattle.router_state.specs.declared.rows.Stem.TheVariants as stems
use Rattle.router_state.specs.declared.rows.AcKind.{AcKind}
use Rattle.router_state.specs.declared.rows.AcKind.TheVariants as kinds

-- the relation of a child is a name
abbrev pub is_stem_named : Stem → Bool
is_stem_named (stems.Root service) = true
is_stem_named (stems.Child parent relation) = is_name relation

-- an external activity has a name
abbrev pub is_kind_named : AcKind → Bool
is_kind_named (kinds.External name) = is_name name
is_kind_named kinds.Null = true
is_kind_named (kinds.Service service) = true
is_kind_named (kinds.Table table) = true

-- all names of a state are names, and the fields of events and the attributes of profile rows rise by theirs
abbrev pub are_named : State → Bool
are_named s =
    list_all (λ row. is_stem_named row.stem) s.entities
    && (list_all (λ row. is_name row.name) s.fields
    && (list_all (λ row. is_kind_named row.kind) s.activities
    && (list_all (λ row. are_fields row.event.fields) s.events && list_all (λ row. are_fields row.attributes) s.rows)))

-- nothing stands after what was read
abbrev pub is_all : {A : Type 0} → List A → Bool
is_all [] = true
is_all (x ∷ xs) = false

-- what was read from bytes is a state that can be held as rows, and they are all its bytes
abbrev pub is_held : Result (State × List ℕ) Fault → Bool
is_held (Err fault) = false
is_held (Ok x) = is_all x.1 && are_named x.0
