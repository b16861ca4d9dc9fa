-- what is in the list and what is left come to all
use Rattle.std.proofs.Common.{◌≡◌, ◌++◌, map}
use Rattle.std.specs.List.{flat_map}
use Rattle.timer_facility.specs.Indexed.{fired_at}
use Rattle.timer_facility.specs.Occurrences.{occurrence}
use Rattle.timer_facility.proofs.occurrences.gather.Given as goal

abbrev pub invariant-loop-entry : goal.invariant-loop-entry
invariant-loop-entry l = map occurrence l.list.items ++ flat_map (fired_at l.rows.rows l.to) l.entry-iterator ≡ flat_map (fired_at l.rows.rows l.to) l.fn.entries
