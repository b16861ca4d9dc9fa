-- Blank sides, and what a crash leaves while one is written.
use Rattle.std.specs.Prelude.{◌≡◌, ◌≢◌, ◌⊎◌, ℕ, List, ◌∷◌, length, get_or}
use Rattle.slee_disk.specs.declared.side.Side.{Side}
use Rattle.slee_disk.specs.Sides.{Sides, on, other}
use Rattle.commit_journal.specs.declared.gate.TheConstants.{OPEN_GATE}
use Rattle.commit_journal.specs.Reading.{Blank, front}

-- this side is blank
abbrev pub IsBlankOn : Side → Sides → Type 0
IsBlankOn side sides = front (on side sides) ≡ Blank

-- one side is blank, and the other is those bytes
pub record BlankBeside (side : Side) (there : List ℕ) (sides : Sides) : Type 0 where
  pub blank : IsBlankOn side sides
  pub elsewhere : on (other side) sides ≡ there

-- this side is one closed gate, and the other is those bytes
pub record IsOneShut (side : Side) (there : List ℕ) (sides : Sides) : Type 0 where
  pub length : length (on side sides) ≡ 1
  pub shut : get_or (on side sides) 0 0 ≢ OPEN_GATE
  pub elsewhere : on (other side) sides ≡ there

-- one side is blank, or it is open and then stands this; the other is those bytes
pub record IsBlankOrOpen (side : Side) (behind there : List ℕ) (sides : Sides) : Type 0 where
  pub here : IsBlankOn side sides ⊎ (on side sides ≡ OPEN_GATE ∷ behind)
  pub elsewhere : on (other side) sides ≡ there

-- one side is blank or as it was, and the other is as it was
pub record IsBlankOrSame (side : Side) (old sides : Sides) : Type 0 where
  pub here : IsBlankOn side sides ⊎ (on side sides ≡ on side old)
  pub elsewhere : on (other side) sides ≡ on (other side) old
