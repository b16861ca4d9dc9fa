use Rattle.std.proofs.Common.{◌≡◌, ◌++◌, drop, map}
use Rattle.script_types.specs.Programs.{place_of}
use Rattle.check_hints.proofs.place.add_places.Given as goal

-- those so far, and those of the rest
abbrev pub invariant-loop-part : goal.invariant-loop-part
invariant-loop-part l = l.places.items ++ map (place_of l.block) (drop l.part-index l.parts) ≡ l.initial.places.items ++ map (place_of l.block) l.parts
