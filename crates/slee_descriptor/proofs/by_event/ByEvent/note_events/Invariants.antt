use Rattle.std.proofs.Common.{◌≡◌, ◌++◌, ℕ, List, drop}
use Rattle.slee_descriptor.specs.ByEvents.{numbers_at}
use Rattle.slee_descriptor.specs.Counting.{noted}
use Rattle.slee_descriptor.proofs.by_event.ByEvent.note_events.Given as goal

abbrev pub invariant-loop-handler : goal.invariant-loop-handler
invariant-loop-handler l = (q : List ℕ) →
    numbers_at l.self q ++ noted l.counted l.number (drop l.handler-index l.events) q
    ≡ numbers_at l.initial.self q ++ noted l.counted l.number l.events q
