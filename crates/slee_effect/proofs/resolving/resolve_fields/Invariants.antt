use Rattle.std.proofs.Common.{◌≡◌, ◌++◌, map, take, drop}
use Rattle.slee_effect.specs.Resolving.{resolved_field}
use Rattle.slee_effect.proofs.resolving.resolve_fields.Given as goal

-- those so far have their numbers, and the others are as they were
abbrev pub invariant-loop-field : goal.invariant-loop-field
invariant-loop-field l = l.fields ≡ map (resolved_field l.next) (take l.field-index l.fn.fields) ++ drop l.field-index l.fn.fields
