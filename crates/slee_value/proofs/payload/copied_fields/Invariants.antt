use Rattle.std.proofs.Common.{◌≡◌, take}
use Rattle.slee_value.proofs.payload.copied_fields.Given as goal

-- the fields so far are copied
abbrev pub invariant-loop-name : goal.invariant-loop-name
invariant-loop-name l = l.copied.items ≡ take l.name-index l.fields
