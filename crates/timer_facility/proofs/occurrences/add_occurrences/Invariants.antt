-- the occurrences before this place are in the list
use Rattle.std.proofs.Common.{◌≡◌, ◌-◌, ◌++◌, map}
use Rattle.std.specs.List.{range_with_len}
use Rattle.router_state.specs.Timing.{occurrence_of}
use Rattle.timer_facility.specs.Occurrences.{occurrence}
use Rattle.timer_facility.proofs.occurrences.add_occurrences.Given as goal

abbrev pub invariant-loop-place : goal.invariant-loop-place
invariant-loop-place l =
    map occurrence l.list.items ≡ map occurrence l.fn.list.items ++ map (occurrence_of l.timer) (range_with_len l.missed (l.place - l.missed))
