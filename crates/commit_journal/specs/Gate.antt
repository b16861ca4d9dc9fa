-- A gate, and what a crash leaves while bytes are written behind it and it is opened.
use Rattle.std.specs.Prelude.{◌≡◌, ◌≢◌, ◌⊎◌, ℕ, ◌+◌, List, ◌∷◌, ◌++◌, length, get_or}
use Rattle.slee_disk.specs.declared.side.Side.{Side}
use Rattle.slee_disk.specs.Sides.{Sides, on, other}
use Rattle.commit_journal.specs.declared.gate.TheConstants.{OPEN_GATE}

-- a closed gate is the last byte of a side, at this place
pub record EndsShut (side : Side) (at : ℕ) (sides : Sides) : Type 0 where
  pub length : length (on side sides) ≡ at + 1
  pub shut : get_or (on side sides) at 0 ≢ OPEN_GATE

-- a closed gate stands behind these bytes, and anything behind it
abbrev pub IsShut : List ℕ → List ℕ → Type 0
IsShut front bytes = (gate : ℕ) × (tail : List ℕ) × (gate ≢ OPEN_GATE) × (bytes ≡ front ++ gate ∷ tail)

-- the gate behind these bytes is closed, or it is open and then stands this; the other side is as it was
pub record IsShutOrOpen (side : Side) (front behind there : List ℕ) (image : Sides) : Type 0 where
  pub here : IsShut front (on side image) ⊎ (on side image ≡ front ++ OPEN_GATE ∷ behind)
  pub elsewhere : on (other side) image ≡ there

-- the gate is open, and this stands behind it; the other side is as it was
pub record IsOpened (side : Side) (front behind there : List ℕ) (sides : Sides) : Type 0 where
  pub here : on side sides ≡ front ++ OPEN_GATE ∷ behind
  pub elsewhere : on (other side) sides ≡ there
