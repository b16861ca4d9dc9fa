-- How contexts are kept: activities' numbers are below the next one.
use Rattle.std.specs.Prelude.{IsTrue}
use Rattle.rows_sorted.specs.Orders.{are_below}
use Rattle.activity_context.specs.Views.{ContextsView}
use Rattle.activity_context.specs.declared.contexts.Contexts.TheInside.{Inside}

-- the lists, with the room beside them
abbrev pub seen : Inside → ContextsView
seen s = record {
  activities = s.activities.activities;
  attributes = s.attributes.rows;
  links = s.links.rows;
  names = s.names.names;
  names_kept = s.names.kept;
  next = s.next;
  rooms = record {
    activities = s.activities.room;
    attributes = s.attributes.room;
    links = s.links.room;
    names = s.names.room;
  };
}

-- the activities' numbers are below the next one
abbrev pub IsKept : Inside → Type 0
IsKept s = IsTrue (are_below (λ row. row.number.0) s.next s.activities.activities)
