use Rattle.std.proofs.Common.{◌≡◌, drop}
use Rattle.check_hints.specs.Mismatches.{types_at, piece_of}
use Rattle.check_hints.proofs.mismatch.types_at.Given as goal

-- none of the pieces so far
abbrev pub invariant-loop-token : goal.invariant-loop-token
invariant-loop-token l = types_at (piece_of l.site) (drop l.token-index l.ends) ≡ types_at (piece_of l.site) l.ends
