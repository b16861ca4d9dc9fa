-- What contracts see of the store of fields.
use Rattle.std.specs.Prelude.{ℕ, Bool, List}
use Rattle.std.specs.List.{list_any}
use Rattle.rows_sorted.specs.Orders.{same_text}
use Rattle.router_state.specs.declared.rows.Field.{Field}

-- the fields, by entity, then by name, and how many more can be added without memory
pub record FieldsView : Type 0 where
  pub rows : List Field
  pub room : ℕ

-- the entity has the field
abbrev pub has_field : List Field → ℕ → List ℕ → Bool
has_field rows e name = list_any (λ row. same_text row.entity.0 row.name e name) rows
