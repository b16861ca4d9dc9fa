-- What a call does to a disk of which nothing is known.
use Rattle.std.proofs.Common.{ℕ, ◌≤◌, List, refl, arith, inl}
use Rattle.slee_disk.specs.declared.side.Side.{Side}
use Rattle.slee_disk.specs.Sides.{Torn, Cut}
use Rattle.slee_disk.specs.Causes.{Rose}
use Rattle.slee_disk.specs.Disk.{Passes, Changes}
use Rattle.slee_disk.specs.Untold.{untold}
use Rattle.slee_disk.proofs.Recording.{torn_same, cut_same}

untold_passes : (f g : ℕ) (failed : Type 0) → f ≤ g → (failed → Rose f g) → Passes (untold f) (untold g) failed
untold_passes f g failed rising cause = record { told = refl; later = omega arith; nothing_else = λ t image le left. inl tt; keeps = λ t image le left. tt; faults = rising; cause = cause }

untold_changes : (side : Side) (step : List ℕ → List ℕ → Type 0) → ((c : List ℕ) → step c c) → (f g : ℕ) (failed : Type 0) → f ≤ g → (failed → Rose f g) → Changes side step (untold f) (untold g) failed
untold_changes side step same f g failed rising cause = record {
  passes = untold_passes f g failed rising cause;
  images = λ image now. (image, tt, record { here = same _; there = refl });
  seen_there = refl;
  settled_there = refl;
  settled_here = λ now. now;
}

pub untold_torn : (side : Side) (at n f g : ℕ) (failed : Type 0) → f ≤ g → (failed → Rose f g) → Changes side (Torn at n) (untold f) (untold g) failed
untold_torn side at n f g failed rising cause = untold_changes side (Torn at n) (torn_same at n) f g failed rising cause

pub untold_cut : (side : Side) (at f g : ℕ) (failed : Type 0) → f ≤ g → (failed → Rose f g) → Changes side (Cut at) (untold f) (untold g) failed
untold_cut side at f g failed rising cause = untold_changes side (Cut at) (cut_same at) f g failed rising cause
