use Rattle.std.proofs.Common.{◌≡◌, take, map}
use Rattle.script_types.specs.Codes.{number_in}
use Rattle.script_run_machine.proofs.numbers.numbers_of_events.Given as goal

-- those so far are there
abbrev pub invariant-loop-event : goal.invariant-loop-event
invariant-loop-event l = l.numbers ≡ map (number_in l.names) (take l.event-index l.events)
