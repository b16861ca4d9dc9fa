use Rattle.std.proofs.Common.{◌≡◌, bytes_eq, drop, find}
use Rattle.handler_check.specs.Paths.{path_of}
use Rattle.check_hints.proofs.place.place_among.Given as goal

-- none of those so far
abbrev pub invariant-loop-place : goal.invariant-loop-place
invariant-loop-place l = find (λ at. bytes_eq (path_of l.blocks at) l.pointer) (drop l.place-index l.places) ≡ find (λ at. bytes_eq (path_of l.blocks at) l.pointer) l.places
