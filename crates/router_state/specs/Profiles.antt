-- The rows of profile tables: what is read of them, and how they change (JSR 240, chapter 10).
use Rattle.std.specs.Prelude.{ℕ, ◌==◌, Bool, ◌||◌, not, List, Option, option_map, find, filter}
use Rattle.std.specs.List.{list_all}
use Rattle.std.specs.Str.{bytes_eq}
use Rattle.slee_value.specs.declared.value.Value.{Value}
use Rattle.script_meaning.specs.Same.{same_option, same_value}
use Rattle.deploy_model.specs.Deployed.{Deployed, table_unique}
use Rattle.rows_sorted.specs.Orders.{put, text_before, same_text}
use Rattle.router_state.specs.declared.rows.ProfileRow.{ProfileRow}

-- by table, then by row
abbrev pub row_before : ProfileRow → ProfileRow → Bool
row_before x y = text_before x.table x.row y.table y.row

-- the row is this one of the table
abbrev pub is_row : ℕ → List ℕ → ProfileRow → Bool
is_row table name row = same_text row.table row.row table name

-- the attributes of a table's row
abbrev pub row_at : List ProfileRow → ℕ → List ℕ → Option (List (List ℕ × Value))
row_at rows table name = option_map (λ row. row.attributes) (find (is_row table name) rows)

-- the table's row has these attributes
abbrev pub with_row : List ProfileRow → ℕ → List ℕ → List (List ℕ × Value) → List ProfileRow
with_row rows table name attributes = put row_before (record { table = table; row = name; attributes = attributes }) rows

-- the table has no such row
abbrev pub without_row : List ProfileRow → ℕ → List ℕ → List ProfileRow
without_row rows table name = filter (λ row. not (is_row table name row)) rows

-- the value of this name among named values
abbrev pub value_of : List (List ℕ × Value) → List ℕ → Option Value
value_of fields name = option_map (λ field. field.1) (find (λ field. bytes_eq field.0 name) fields)

-- two lists of attributes differ in this one
abbrev pub differ_in : List (List ℕ × Value) → List (List ℕ × Value) → List ℕ → Bool
differ_in x y name = not (same_option same_value (value_of x name) (value_of y name))

-- Two rows of one table differ in each of its unique attributes.
abbrev pub are_unique : Deployed → ProfileRow → ProfileRow → Bool
are_unique d x y = not (x.table == y.table) || list_all (differ_in x.attributes y.attributes) (table_unique d x.table)
