-- The rows of one profile table, and whether they differ.
use Rattle.std.specs.Prelude.{ℕ, ◌==◌, Bool, List, filter}
use Rattle.std.specs.List.{list_all}
use Rattle.router_state.specs.Profiles.{differ_in}
use Rattle.router_state.specs.WellEntities.{all_differ}
use Rattle.router_state.specs.declared.rows.ProfileRow.{ProfileRow}

-- the rows of a table
abbrev pub rows_in : ℕ → List ProfileRow → List ProfileRow
rows_in t rows = filter (λ row. row.table == t) rows

-- the rows differ in each of these attributes
abbrev pub differ_in_names : List ProfileRow → List (List ℕ) → Bool
differ_in_names rows names = list_all (λ name. all_differ (λ x y. differ_in x.attributes y.attributes name) rows) names
