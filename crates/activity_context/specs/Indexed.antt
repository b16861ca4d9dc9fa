-- How activities are kept with an index of external names.
use Rattle.std.specs.Prelude.{ℕ, min}
use Rattle.router_state.specs.declared.rows.AcKind.{AcKind}
use Rattle.router_state.specs.declared.rows.AcKind.TheVariants as kinds
use Rattle.router_state.specs.declared.rows.Activity.{Activity}
use Rattle.router_state.specs.Keys.{activity_key}
use Rattle.rows_sorted.specs.Keys.{Rises}
use Rattle.rows_index.specs.Index.{IsIndex}
use Rattle.rows_index.specs.declared.entry.Entry.{Entry}
use Rattle.rows_index.specs.Numbers.{number_of}
use Rattle.activity_context.specs.Views.{ActivitiesView}
use Rattle.activity_context.specs.declared.activities.Activities.TheInside.{Inside}

-- above the numbers of all names: here stand the activities that have none
abbrev pub nameless : ℕ
nameless = 18446744073709551615

-- the number of an activity's name
abbrev pub name_number : AcKind → ℕ
name_number (kinds.External name) = number_of name
name_number kinds.Null = nameless
name_number (kinds.Service service) = nameless
name_number (kinds.Table table) = nameless

-- an activity under the number of its name
abbrev pub name_entry : Activity → Entry
name_entry row = record { key = name_number row.kind; number = row.number.0 }

-- the activities, with the room beside both lists
abbrev pub rows_seen : Inside → ActivitiesView
rows_seen s = record {
  activities = s.rows.rows;
  room = min s.rows.room s.by_name.room;
}

-- the activities rise, and the index has them all
pub record AreIndexed (s : Inside) : Type 0 where
  pub rises : Rises activity_key s.rows.rows
  pub names : IsIndex name_entry s.rows.rows s.by_name.rows
