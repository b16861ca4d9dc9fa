use Rattle.std.proofs.Common.{◌≡◌, ◌++◌, length, take}
use Rattle.std.specs.List.{flat_map}
use Rattle.slee_value.specs.Bytes.{spelled_u32}
use Rattle.slee_effect.specs.Bytes.{spelled_effect}
use Rattle.slee_effect.proofs.writing.bytes_of.Given as goal

-- the count and the effects so far are written
abbrev pub invariant-loop-effect : goal.invariant-loop-effect
invariant-loop-effect l = l.bytes.items ≡ spelled_u32 (length l.effects) ++ flat_map spelled_effect (take l.effect-index l.effects)
