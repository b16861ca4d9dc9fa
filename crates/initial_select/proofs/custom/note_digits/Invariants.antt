use Rattle.std.proofs.Common.{◌≡◌, drop}
use Rattle.std.specs.List.{fold}
use Rattle.initial_select.specs.Digits.{noted}
use Rattle.initial_select.proofs.custom.note_digits.Given as goal

-- the bytes so far are noted
abbrev pub invariant-loop-byte : goal.invariant-loop-byte
invariant-loop-byte l = fold noted l.digits.items (drop l.byte-index l.input) ≡ fold noted l.initial.digits.items l.input
