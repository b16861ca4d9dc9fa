-- How all is kept: the rows, and their numbers under those of their unique values.
use Rattle.std.specs.Prelude.{◌≡◌, ◌<◌, ◌≤◌, ◌+◌, ◌*◌, ◌^◌, ◌-◌, length, min}
use Rattle.rows_sorted.specs.Keys.{Rises}
use Rattle.rows_index.specs.Tallies.{AreSome, IsTally}
use Rattle.profile_tables.specs.Keeping.{as_kept, in_byte_order, numbered_key, AreFiled}
use Rattle.profile_tables.specs.Unique.{most_of, row_entries}
use Rattle.profile_tables.specs.Views.{ProfilesView}
use Rattle.profile_tables.specs.declared.profiles.Profiles.TheInside.{Inside}

-- the rows in byte order and as they stand, with the room beside them and among the entries
abbrev pub seen : Inside → ProfilesView
seen t = record {
  tables = t.tables.items;
  rows = in_byte_order t.rows.rows;
  kept = as_kept t.rows.rows;
  room = min t.rows.room (t.places - length t.rows.rows);
}

-- The rows rise, and the entries of their values are counted. Each has a place among the entries, where there is room for the values that it may have, no more than a word counts.
pub record IsKept (t : Inside) : Type 0 where
  pub rises : Rises numbered_key t.rows.rows
  pub filed : AreFiled t.rows.rows
  pub counted : IsTally (row_entries t.tables.items) t.rows.rows t.by_value.rows
  pub some : AreSome t.by_value.rows
  pub most : t.most ≡ most_of t.tables.items
  pub within : length t.rows.rows ≤ t.places
  pub fits : t.most * t.places < 2 ^ 64
  pub values : t.most * t.places ≤ t.by_value.room + length t.by_value.rows
