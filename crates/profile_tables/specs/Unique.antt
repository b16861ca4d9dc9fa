-- The numbers that values are made into, and the entries under which rows are found by their values.
use Rattle.std.specs.Prelude.{ℕ, ◌≡◌, ◌+◌, ◌==◌, max, Bool, true, not, ◌&&◌, if◌then◌else◌, List, [], ◌∷◌, Option, Some, None, filter, map, length, slice_get}
use Rattle.std.specs.Int.{w64, cast_unsigned}
use Rattle.std.specs.List.{AllByRecursion, list_any}
use Rattle.std.specs.Option.{option_map_or}
use Rattle.std.specs.Str.{bytes_eq}
use Rattle.slee_value.specs.declared.value.Value.{Value}
use Rattle.slee_value.specs.declared.value.Value.TheVariants as values
use Rattle.router_state.specs.Profiles.{row_before, value_of}
use Rattle.router_state.specs.declared.rows.ProfileRow.{ProfileRow}
use Rattle.rows_index.specs.declared.entry.Entry.{Entry}
use Rattle.rows_index.specs.declared.tally.Tally.{Tally}
use Rattle.rows_index.specs.Tallies.{all_less}
use Rattle.rows_index.specs.Numbers.{number_of, number_with}
use Rattle.profile_tables.specs.Faults.{alike_in}
use Rattle.profile_tables.specs.declared.numbered.NumberedRow.{NumberedRow}
use Rattle.profile_tables.specs.declared.table_spec.TableSpec.{TableSpec}

-- the number of a value
abbrev pub value_number : Value → ℕ
value_number (values.Int n) = cast_unsigned w64 n
value_number (values.Text text) = number_of text
value_number (values.Bool flag) = if flag then 1 else 0
value_number (values.Activity a) = a.0
value_number (values.Timer t) = t.0

-- the number of an attribute's value, or 0 where it has none
abbrev pub number_in : List (List ℕ × Value) → List ℕ → ℕ
number_in fields name = option_map_or value_number (value_of fields name) 0

-- the number of an attribute of a table with its value
abbrev pub value_key : ℕ → List (List ℕ × Value) → List ℕ → ℕ
value_key table fields name = number_with (number_with (number_in fields name) name + table) []

-- the attributes in which no two rows of the table may be the same
abbrev pub unique_of : List TableSpec → ℕ → List (List ℕ)
unique_of tables table = option_map_or (λ (spec : TableSpec). spec.unique) (slice_get tables table) []

-- a row's number under the number of an attribute's value
abbrev pub value_entry : ℕ → List (List ℕ × Value) → ℕ → List ℕ → Entry
value_entry table fields number name = record { key = value_key table fields name; number = number }

-- the entries of a row's unique values
abbrev pub row_entries : List TableSpec → NumberedRow → List Entry
row_entries tables row = map (value_entry row.item.table row.item.attributes row.number) (unique_of tables row.item.table)

-- the most attributes in which rows of one table must differ
abbrev pub most_of : List TableSpec → ℕ
most_of [] = 0
most_of (spec ∷ specs) = max (length spec.unique) (most_of specs)

-- the row that is found, if one is, counts no more
abbrev pub without_old : List TableSpec → Option NumberedRow → List Tally → List Tally
without_old tables None tallies = tallies
without_old tables (Some row) tallies = all_less (row_entries tables row) tallies

-- another row of the same table has the same value of this attribute
abbrev pub is_rival_in : ProfileRow → List ℕ → ProfileRow → Bool
is_rival_in row name other = (other.table == row.table) && (not (bytes_eq other.row row.row) && alike_in row.attributes other.attributes name)

-- each row that has the same value of this attribute is found by its number under the value's
abbrev pub AreUnder : List ProfileRow → List Tally → ProfileRow → List ℕ → Type 0
AreUnder rows tallies row name =
    AllByRecursion (λ other. is_rival_in row name other ≡ true → list_any (λ t. number_of other.row == t.entry.number) (filter (λ t. t.entry.key == value_key row.table row.attributes name) tallies) ≡ true) rows

-- the lesser one of two rows, or the only one
abbrev pub earlier : Option ProfileRow → Option ProfileRow → Option ProfileRow
earlier None other = other
earlier (Some x) None = Some x
earlier (Some x) (Some y) = if row_before y x then Some y else Some x
