-- Which sides have nothing pending after calls to one of them.
use Rattle.std.specs.Prelude.{◌≡◌, IsTrue, OnOk}
use Rattle.std.specs.declared.result.Result.{Result}
use Rattle.slee_disk.specs.declared.side.Side.{Side}
use Rattle.slee_disk.specs.Sides.{other}
use Rattle.slee_disk.specs.Disk.{DiskState}

-- This side is settled where the calls end well, and the other one is as settled as it was.
pub record SettlesSide {T E : Type 0} (side : Side) (old new : DiskState) (result : Result T E) : Type 0 where
  pub here : IsTrue old.told → OnOk result (IsTrue (new.settled side))
  pub there : new.settled (other side) ≡ old.settled (other side)
