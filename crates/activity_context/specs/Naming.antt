-- How names are kept: under the numbers of their texts, and with an index by activity.
use Rattle.std.specs.Prelude.{◌≡◌, ℕ, min, IsTrue, List, map, filter}
use Rattle.std.specs.List.{AllByRecursion, list_any}
use Rattle.router_state.specs.Contexts.{name_before}
use Rattle.rows_sorted.specs.Orders.{rises_by, sorted}
use Rattle.router_state.specs.declared.rows.Named.{Named}
use Rattle.rows_sorted.specs.Keys.{Key, is_pair}
use Rattle.rows_index.specs.declared.entry.Entry.{Entry}
use Rattle.rows_index.specs.Index.{is_entry}
use Rattle.rows_index.specs.Numbers.{number_of}
use Rattle.activity_context.specs.Views.{NamesView}
use Rattle.activity_context.specs.declared.numbered.NumberedName.{NumberedName}
use Rattle.activity_context.specs.declared.names.Names.TheInside.{Inside}

-- by its number, then by its activity, then by its text
abbrev pub numbered_key : NumberedName → Key
numbered_key row = record { first = row.number; second = row.named.activity.0; text = row.named.name }

-- the number of a name under its activity
abbrev pub activity_entry : NumberedName → Entry
activity_entry row = record { key = row.named.activity.0; number = row.number }

-- the names as they stand
abbrev pub as_kept : List NumberedName → List Named
as_kept rows = map (λ row. row.named) rows

-- the names, put in byte order
abbrev pub in_byte_order : List NumberedName → List Named
in_byte_order rows = sorted name_before (as_kept rows)

-- the texts of an activity's names under a number
abbrev pub texts_under : ℕ → List NumberedName → ℕ → List (List ℕ)
texts_under a rows number = map (λ row. row.named.name) (filter (λ row. is_pair number a (numbered_key row)) rows)

-- the number of each name is found under its activity
abbrev pub AreFound : List NumberedName → List Entry → Type 0
AreFound rows entries = AllByRecursion (λ row. IsTrue (list_any (is_entry (activity_entry row)) entries)) rows

-- each number under an activity is that of a name of the activity
abbrev pub AreNeeded : List NumberedName → List Entry → Type 0
AreNeeded rows entries = AllByRecursion (λ e. IsTrue (list_any (λ row. is_pair e.number e.key (numbered_key row)) rows)) entries

-- each name stands under the number of its text and once, and just the numbers of an activity's names are found under it
pub record AreFiled (rows : List NumberedName) (entries : List Entry) : Type 0 where
  pub numbered : AllByRecursion (λ row. row.number ≡ number_of row.named.name) rows
  pub found : AreFound rows entries
  pub needed : AreNeeded rows entries
  pub once : IsTrue (rises_by name_before (in_byte_order rows))

-- the names in byte order and as they stand, with the room beside both lists
abbrev pub names_seen : Inside → NamesView
names_seen s = record {
  names = in_byte_order s.rows.rows;
  kept = as_kept s.rows.rows;
  room = min s.rows.room s.by_activity.room;
}
