-- What a crash leaves while a side is written anew.
use Rattle.std.specs.Prelude.{◌≡◌, ◌⊎◌, List, ℕ, ◌∷◌}
use Rattle.slee_disk.specs.declared.side.Side.{Side}
use Rattle.slee_disk.specs.Sides.{Sides, on, other}
use Rattle.commit_journal.specs.declared.gate.TheConstants.{OPEN_GATE}
use Rattle.commit_journal.specs.Blank.{IsBlankOn}

-- one side is as it was, or blank, or it is open and then stands this; the other is as it was
pub record IsRewritten (side : Side) (behind : List ℕ) (old sides : Sides) : Type 0 where
  pub here : (on side sides ≡ on side old) ⊎ IsBlankOn side sides ⊎ (on side sides ≡ OPEN_GATE ∷ behind)
  pub elsewhere : on (other side) sides ≡ on (other side) old
