-- what is in the list and what is left come to all
use Rattle.std.proofs.Common.{◌≡◌, ◌++◌}
use Rattle.std.specs.List.{flat_map}
use Rattle.timer_facility.specs.Indexed.{timers_at}
use Rattle.timer_facility.proofs.listing.timers_of.Given as goal

abbrev pub invariant-loop-entry : goal.invariant-loop-entry
invariant-loop-entry l = l.list.items ++ flat_map (timers_at l.rows.rows) l.entry-iterator ≡ flat_map (timers_at l.rows.rows) l.fn.entries
