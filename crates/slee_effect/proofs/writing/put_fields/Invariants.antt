use Rattle.std.proofs.Common.{◌≡◌, ◌++◌, length, take}
use Rattle.std.specs.List.{flat_map}
use Rattle.slee_value.specs.Bytes.{spelled_u32}
use Rattle.slee_effect.specs.Bytes.{spelled_field}
use Rattle.slee_effect.proofs.writing.put_fields.Given as goal

-- the count and the fields so far are written
abbrev pub invariant-loop-name : goal.invariant-loop-name
invariant-loop-name l = l.into.items ≡ l.fn.into.items ++ (spelled_u32 (length l.fields) ++ flat_map spelled_field (take l.name-index l.fields))
