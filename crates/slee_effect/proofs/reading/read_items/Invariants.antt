use Rattle.std.proofs.Common.{◌≡◌, ◌-◌}
use Rattle.slee_effect.specs.Reading.{items_at}
use Rattle.slee_effect.proofs.Loops.{with_front}
use Rattle.slee_effect.proofs.MemoryLemmas.{Begun}
use Rattle.slee_effect.proofs.reading.read_items.Given as goal

-- the effects so far, and what is still read, are the whole; behind the first effect it is known that it is read
abbrev pub invariant-items : goal.invariant-items
invariant-items l = (with_front l.effects.items (items_at (l.count - l.counter) l.rest) ≡ items_at l.count l.bytes) × Begun l.counter l.rest l.bytes
