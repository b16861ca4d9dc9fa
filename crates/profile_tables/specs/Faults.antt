-- The faults of rows, in their order.
use Rattle.std.specs.Prelude.{ℕ, ◌==◌, Bool, ◌&&◌, not, if◌then◌else◌, List, Option, Some, None, find, option_and_then, option_map, slice_get, Result, Ok, Err}
use Rattle.std.specs.Option.{option_map_or}
use Rattle.std.specs.List.{list_any, position_from}
use Rattle.std.specs.Str.{bytes_eq}
use Rattle.slee_value.specs.declared.value.Value.{Value}
use Rattle.script_meaning.specs.Same.{same_option, same_value}
use Rattle.router_state.specs.Fits.{are_declared}
use Rattle.router_state.specs.Fitting.{has_row}
use Rattle.router_state.specs.Profiles.{is_row, value_of}
use Rattle.router_state.specs.declared.rows.ProfileRow.{ProfileRow}
use Rattle.profile_tables.specs.declared.fault.RowFault.{RowFault}
use Rattle.profile_tables.specs.declared.fault.RowFault.TheVariants as faults
use Rattle.profile_tables.specs.declared.table_spec.TableSpec.{TableSpec}

-- the fault that a call gave
abbrev pub fault_of : {X : Type 0} → Result X RowFault → Option RowFault
fault_of (Ok x) = None
fault_of (Err fault) = Some fault

-- two lists of attributes have the same value of this one
abbrev pub alike_in : List (List ℕ × Value) → List (List ℕ × Value) → List ℕ → Bool
alike_in x y name = same_option same_value (value_of x name) (value_of y name)

-- another row of the same table has the same value of a unique attribute
abbrev pub is_rival : List (List ℕ) → ProfileRow → ProfileRow → Bool
is_rival unique row other = (other.table == row.table) && (not (bytes_eq other.row row.row) && list_any (alike_in row.attributes other.attributes) unique)

-- the place, among the rows as they are kept, of the least row in byte order that has a unique value of this one
abbrev pub place_of_rival : List (List ℕ) → List ProfileRow → List ProfileRow → ProfileRow → Option ℕ
place_of_rival unique rows kept row =
    option_and_then (λ other. position_from (is_row other.table other.row) 0 kept) (find (is_rival unique row) rows)

-- The attributes are the declared ones, and no other row has a unique value among them; else the least such row in byte order is told by its place. The rows are given in byte order, and as they are kept.
abbrev pub fault_of_values : TableSpec → List ProfileRow → List ProfileRow → ProfileRow → Option RowFault
fault_of_values spec rows kept row =
    if are_declared spec.attributes row.attributes
    then option_map faults.Duplicate (place_of_rival spec.unique rows kept row)
    else Some faults.BadAttribute

-- there is a table of this number, and then the fault is this one
abbrev pub fault_in : List TableSpec → ℕ → (TableSpec → Option RowFault) → Option RowFault
fault_in tables n fault = option_map_or fault (slice_get tables n) (Some faults.NoTable)

-- a row that is asked for
abbrev pub fault_of_asking : List TableSpec → List ProfileRow → ℕ → List ℕ → Option RowFault
fault_of_asking tables rows n name = fault_in tables n (λ spec. if has_row rows n name then None else Some faults.NoRow)

-- a new row
abbrev pub fault_of_add : List TableSpec → List ProfileRow → List ProfileRow → ProfileRow → Option RowFault
fault_of_add tables rows kept row =
    fault_in tables row.table (λ spec. if has_row rows row.table row.row then Some faults.RowExists else fault_of_values spec rows kept row)

-- other values for a row
abbrev pub fault_of_update : List TableSpec → List ProfileRow → List ProfileRow → ProfileRow → Option RowFault
fault_of_update tables rows kept row =
    fault_in tables row.table (λ spec. if has_row rows row.table row.row then fault_of_values spec rows kept row else Some faults.NoRow)
