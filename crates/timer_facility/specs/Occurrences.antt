-- An occurrence in a list, and the order of lists.
use Rattle.std.specs.Prelude.{Bool}
use Rattle.router_state.specs.Timing.{Occurrence, occurrence_before}
use Rattle.timer_facility.specs.declared.occurrences.Due.{Due}

-- the occurrence that stands in a list
abbrev pub occurrence : Due → Occurrence
occurrence x = record { moment = x.moment; timer = x.timer.0; activity = x.activity.0 }

-- by moment, then by timer
abbrev pub due_before : Due → Due → Bool
due_before x y = occurrence_before (occurrence x) (occurrence y)
