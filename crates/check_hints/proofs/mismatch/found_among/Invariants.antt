use Rattle.std.proofs.Common.{◌≡◌, filter, take}
use Rattle.check_hints.specs.Mismatches.{is_found, piece_of}
use Rattle.check_hints.proofs.mismatch.found_among.Given as goal

-- those of the types so far
abbrev pub invariant-loop-kind : goal.invariant-loop-kind
invariant-loop-kind l = l.list.items ≡ filter (is_found (piece_of l.site)) (take l.kind-index l.kinds)
