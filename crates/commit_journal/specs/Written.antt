-- The bytes that a journal leaves on the sides of its disk.
use Rattle.std.specs.Prelude.{◌≡◌, [], ◌∷◌, ◌++◌}
use Rattle.slee_disk.specs.declared.side.Side.{Side}
use Rattle.slee_disk.specs.Sides.{Sides, on}
use Rattle.commit_journal.specs.declared.gate.TheConstants.{CLOSED_GATE}
use Rattle.commit_journal.specs.Spelling.{spelled}
use Rattle.commit_journal.specs.Reading.{Kept}

-- The side that counts is its spelling, with a zero for the last gate, and nothing behind it.
abbrev pub IsWritten : Kept → Sides → Type 0
IsWritten kept sides = on kept.side sides ≡ spelled kept.head kept.payloads ++ CLOSED_GATE ∷ []

-- this side has the bytes that it had
abbrev pub IsUntouched : Side → Sides → Sides → Type 0
IsUntouched side old new = on side new ≡ on side old
