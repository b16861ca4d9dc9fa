-- Calls of a disk, one after another.
use Rattle.std.specs.Prelude.{◌≡◌, ◌≤◌}
use Rattle.slee_disk.specs.Causes.{Rose}
use Rattle.slee_disk.specs.Disk.{DiskState}

-- The disk tells its contents if it did before, no fault is taken back, and `Failed` is answered only where the count of
-- faults rose.
pub record Runs (old new : DiskState) (failed : Type 0) : Type 0 where
  pub told : new.told ≡ old.told
  pub rising : old.faults ≤ new.faults
  pub cause : failed → Rose old.faults new.faults
