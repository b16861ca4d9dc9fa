-- How the timers are kept: below the next number.
use Rattle.std.specs.Prelude.{IsTrue}
use Rattle.rows_sorted.specs.Orders.{are_below}
use Rattle.timer_facility.specs.Views.{TimersView}
use Rattle.timer_facility.specs.declared.timers.Timers.TheInside.{Inside}

-- the timers, with the room beside them
abbrev pub seen : Inside → TimersView
seen t = record { timers = t.rows.timers; next = t.next; room = t.rows.room }

-- the timers' numbers are below the next one
abbrev pub IsKept : Inside → Type 0
IsKept t = IsTrue (are_below (λ row. row.number.0) t.next t.rows.timers)
