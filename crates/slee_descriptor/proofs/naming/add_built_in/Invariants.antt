use Rattle.std.proofs.Common.{◌≡◌, ◌++◌, drop}
use Rattle.std.specs.Prelude.{map}
use Rattle.built_in_events.specs.BuiltIn.{name_of}
use Rattle.slee_descriptor.proofs.naming.add_built_in.Given as goal

abbrev pub invariant-loop-event : goal.invariant-loop-event
invariant-loop-event l = l.names.items ++ map name_of (drop l.event-index l.events) ≡ l.initial.names.items ++ map name_of l.events
