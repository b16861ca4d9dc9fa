-- The fields of entities: what is read of them, and how they change.
use Rattle.std.specs.Prelude.{ℕ, ◌==◌, Bool, not, List, Option, option_map, find, filter, map}
use Rattle.slee_value.specs.declared.value.Value.{Value}
use Rattle.rows_sorted.specs.Orders.{put, text_before, same_text}
use Rattle.router_state.specs.declared.rows.Field.{Field}

-- by entity, then by name
abbrev pub field_before : Field → Field → Bool
field_before x y = text_before x.entity.0 x.name y.entity.0 y.name

-- the value of an entity's field
abbrev pub field_at : List Field → ℕ → List ℕ → Option Value
field_at rows e name = option_map (λ row. row.value) (find (λ row. same_text row.entity.0 row.name e name) rows)

-- the fields of an entity, as pairs of name and value
abbrev pub fields_of : List Field → ℕ → List (List ℕ × Value)
fields_of rows e = map (λ row. (row.name, row.value)) (filter (λ row. row.entity.0 == e) rows)

-- the entity's field has this value
abbrev pub with_field : List Field → ℕ → List ℕ → Value → List Field
with_field rows e name value = put field_before (record { entity = record { 0 = e }; name = name; value = value }) rows

-- no fields of the entity
abbrev pub without_fields : List Field → ℕ → List Field
without_fields rows e = filter (λ row. not (row.entity.0 == e)) rows
