-- What is known of a disk, and what its calls do.
use Rattle.std.specs.Prelude.{◌≡◌, ◌⊎◌, ℕ, ◌≤◌, List, Bool, ◌&&◌, IsTrue, OnOk, OnErr}
use Rattle.std.specs.declared.result.Result.{Result}
use Rattle.slee_disk.specs.declared.side.Side.{Side}
use Rattle.slee_disk.specs.declared.side.Side.TheVariants.{A, B}
use Rattle.slee_disk.specs.Causes.{Rose}
use Rattle.slee_disk.specs.Sides.{Sides, on, other, AtSide}

-- A disk at one moment.
pub record DiskState : Type 1 where
  -- whether it tells its contents
  pub told : Bool
  -- what reads give, where it tells
  pub seen : Sides
  -- what a crash now may leave
  pub images : Sides → Type 0
  -- whether nothing is known to be pending on a side
  pub settled : Side → Bool
  -- a number that doesn't fall
  pub moment : ℕ
  -- what a crash at some moment from that one on might have left
  pub since : ℕ → Sides → Type 0
  -- how often it has failed
  pub faults : ℕ
  -- now is one of the moments since an earlier one, and since now there is no other
  pub counts_now : (t : ℕ) (image : Sides) → t ≤ moment → images image → since t image
  pub only_now : (image : Sides) → since moment image → images image
  -- where it tells and nothing is pending on either side, a crash leaves what a read gives
  pub at_rest : IsTrue told → ((side : Side) → IsTrue (settled side)) → (image : Sides) → images image → image ≡ seen

-- it tells its contents, and nothing is pending on either side
abbrev pub is_clean : DiskState → Bool
is_clean disk = disk.told && (disk.settled A && disk.settled B)

-- Time goes on in a call, and it answers `Failed` only where the count of faults rose.
pub record Passes (old new : DiskState) (failed : Type 0) : Type 0 where
  pub told : new.told ≡ old.told
  pub later : old.moment ≤ new.moment
  pub nothing_else : (t : ℕ) (image : Sides) → t ≤ old.moment → new.since t image → old.since t image ⊎ new.images image
  pub keeps : (t : ℕ) (image : Sides) → t ≤ old.moment → old.since t image → new.since t image
  pub faults : old.faults ≤ new.faults
  pub cause : failed → Rose old.faults new.faults

-- a call that changes nothing
pub record Looks (old new : DiskState) (failed : Type 0) : Type 0 where
  pub passes : Passes old new failed
  pub seen : new.seen ≡ old.seen
  pub images : (image : Sides) → new.images image → old.images image
  -- what was settled stays so
  pub settled : (side : Side) → IsTrue (old.settled side) → IsTrue (new.settled side)

-- no side becomes settled, and none stops being so
abbrev pub KeepsSettled : DiskState → DiskState → Type 0
KeepsSettled old new = (side : Side) → new.settled side ≡ old.settled side

-- a sync settles its side where it succeeds, and nothing else
pub record Settles {T E : Type 0} (side : Side) (old new : DiskState) (result : Result T E) : Type 0 where
  pub here : IsTrue old.told → OnOk result (IsTrue (new.settled side))
  pub there : new.settled (other side) ≡ old.settled (other side)
  pub failed : OnErr result (KeepsSettled old new)

-- a call that may do a step to one side, also where it fails
pub record Changes (side : Side) (step : List ℕ → List ℕ → Type 0) (old new : DiskState) (failed : Type 0) : Type 0 where
  pub passes : Passes old new failed
  pub images : (image : Sides) → new.images image → (from : Sides) × old.images from × AtSide side step from image
  -- the other side keeps its bytes and stays as settled as it was, and this side doesn't become settled
  pub seen_there : on (other side) new.seen ≡ on (other side) old.seen
  pub settled_there : new.settled (other side) ≡ old.settled (other side)
  pub settled_here : IsTrue (new.settled side) → IsTrue (old.settled side)

-- a crash leaves this and nothing else
abbrev pub Only : Sides → DiskState → Type 0
Only sides disk = (image : Sides) → disk.images image → image ≡ sides

-- it tells these contents, and nothing is pending
pub record IsAtRest (sides : Sides) (disk : DiskState) : Type 0 where
  pub told : IsTrue disk.told
  pub seen : disk.seen ≡ sides
  pub settled : (side : Side) → IsTrue (disk.settled side)
  pub durable : Only sides disk

-- a crash at any moment since old leaves sides that have P
pub record LeavesOnly (old new : DiskState) (P : Sides → Type 0) : Type 0 where
  pub later : old.moment ≤ new.moment
  pub each : (image : Sides) → new.since old.moment image → P image
  -- for a run that began earlier
  pub before : (t : ℕ) (image : Sides) → t ≤ old.moment → new.since t image → old.since t image ⊎ P image
