use Rattle.std.proofs.Common.{◌≡◌, ◌++◌, map}
use Rattle.std.specs.List.{range_with_len}
use Rattle.script_types.specs.declared.codes.CodePart.TheVariants as code_part
use Rattle.check_hints.proofs.place.add_handlers.Given as goal

-- those so far
abbrev pub invariant-loop-place : goal.invariant-loop-place
invariant-loop-place l = l.parts.items ≡ l.initial.parts.items ++ map code_part.Handler (range_with_len 0 l.place)
