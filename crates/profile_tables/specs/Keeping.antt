-- How rows are kept: under the numbers of their names.
use Rattle.std.specs.Prelude.{◌≡◌, IsTrue, List, map}
use Rattle.std.specs.List.{AllByRecursion}
use Rattle.rows_sorted.specs.Orders.{rises_by, sorted}
use Rattle.router_state.specs.Profiles.{row_before}
use Rattle.router_state.specs.declared.rows.ProfileRow.{ProfileRow}
use Rattle.rows_sorted.specs.Keys.{Key}
use Rattle.rows_index.specs.Numbers.{number_of}
use Rattle.profile_tables.specs.declared.numbered.NumberedRow.{NumberedRow}

-- by its number, then by its table, then by its name
abbrev pub numbered_key : NumberedRow → Key
numbered_key row = record { first = row.number; second = row.item.table; text = row.item.row }

-- the rows as they stand
abbrev pub as_kept : List NumberedRow → List ProfileRow
as_kept rows = map (λ row. row.item) rows

-- the rows, put in byte order
abbrev pub in_byte_order : List NumberedRow → List ProfileRow
in_byte_order rows = sorted row_before (as_kept rows)

-- each row stands under the number of its name and once
pub record AreFiled (rows : List NumberedRow) : Type 0 where
  pub numbered : AllByRecursion (λ row. row.number ≡ number_of row.item.row) rows
  pub once : IsTrue (rises_by row_before (in_byte_order rows))
