use Rattle.std.proofs.Common.{◌≡◌, ◌+◌, false, length, drop}
use Rattle.slee_value.specs.Escape.{escaped}
use Rattle.rollback_calls.proofs.parting.room_behind.Given as goal

-- the room that is left has to do for the bytes that are left
abbrev pub invariant-bytes : goal.invariant-bytes
invariant-bytes l = l.left + length (escaped false l.bytes) ≡ l.room + length (escaped false (drop l.byte-index l.bytes))
