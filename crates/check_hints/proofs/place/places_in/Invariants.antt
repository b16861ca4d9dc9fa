use Rattle.std.proofs.Common.{◌≡◌, ◌++◌, drop, map}
use Rattle.script_types.specs.CodesOf.{block_of_code}
use Rattle.script_types.specs.Typing.{places_in}
use Rattle.check_hints.proofs.place.places_in.Given as goal

-- those of the blocks so far, and those of the rest
abbrev pub invariant-each : goal.invariant-each
invariant-each l = l.places.items ++ places_in l.number (map block_of_code (drop l.number l.blocks)) ≡ places_in 0 (map block_of_code l.blocks)
