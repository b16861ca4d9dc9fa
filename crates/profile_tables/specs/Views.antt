-- What is seen of profile tables.
use Rattle.std.specs.Prelude.{ℕ, List}
use Rattle.router_state.specs.declared.rows.ProfileRow.{ProfileRow}
use Rattle.profile_tables.specs.declared.table_spec.TableSpec.{TableSpec}

-- what is declared for each table, the rows by table and then by name, and how many rows can be added without memory
pub record ProfilesView : Type 0 where
  pub tables : List TableSpec
  pub rows : List ProfileRow
  -- the rows again, in the order in which they are kept
  pub kept : List ProfileRow
  pub room : ℕ
