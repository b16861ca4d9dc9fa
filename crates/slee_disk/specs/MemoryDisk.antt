-- A disk in memory, which is known by its calls.
use Rattle.std.specs.Prelude.{◌≡◌, ◌⊎◌, ℕ, ◌+◌, ◌≤◌, true, false, List, length, drop, IsTrue, IsErr, OnOk, OnErr}
use Rattle.std.specs.declared.result.Result.{Result}
use Rattle.slee_disk.specs.declared.side.Side.{Side}
use Rattle.slee_disk.specs.declared.call.Act.{Act}
use Rattle.slee_disk.specs.declared.call.Call.{Call}
use Rattle.slee_disk.specs.Sides.{Sides}
use Rattle.slee_disk.specs.Disk.{DiskState}
use Rattle.slee_disk.specs.Calls.{after, fresh, Since, more}
use Rattle.slee_disk.specs.Causes.{HasCause, Rose}
use Rattle.slee_disk.specs.Memory.{fails_next}
use Rattle.slee_disk.specs.Instants.{still, no_later, rests}

-- What it held at first, the calls it has kept, which of the next calls fail, and how often it has failed.
pub record MemoryState : Type 0 where
  pub first : Sides
  pub calls : List Call
  pub fails : List ℕ
  pub faults : ℕ

-- a disk that held this at first and has had these calls
abbrev pub state_at : Sides → List Call → ℕ → DiskState
state_at first calls faults = record {
  told = true;
  seen = (after calls (fresh first)).seen;
  images = (after calls (fresh first)).images;
  settled = (after calls (fresh first)).settled;
  moment = length calls;
  since = Since calls first;
  faults = faults;
  counts_now = still calls first;
  only_now = no_later calls first;
  at_rest = λ told. rests calls first;
}

-- the same of its view
abbrev pub state_of : MemoryState → DiskState
state_of m = state_at m.first m.calls m.faults

-- what reads give
abbrev pub seen_of : MemoryState → Sides
seen_of m = (after m.calls (fresh m.first)).seen

-- What is true of the parts of each disk in memory: it holds what reads give, and there is room to keep each call that its
-- list may fail.
pub record IsMemory (first : Sides) (calls : List Call) (held : Sides) (fails : List ℕ) (kept capacity : ℕ) : Type 0 where
  pub held_is : (after calls (fresh first)).seen ≡ held
  pub room : length fails + kept ≤ capacity

-- A call was kept, as one that failed or not. It failed where the list says so, and else only for want of memory; where
-- there was none to keep it, nothing has changed but the list and the count of faults.
pub record Recorded {T E : Type 0} (old new : MemoryState) (side : Side) (act : Act) (result : Result T E) : Type 0 where
  pub first : new.first ≡ old.first
  pub fails : new.fails ≡ drop 1 old.fails
  pub cause : HasCause old.faults new.faults result
  pub listed : IsTrue (fails_next old.fails) → IsErr result
  pub quiet : OnOk result (new.faults ≡ old.faults)
  pub ok : OnOk result (new.calls ≡ more old.calls side act false)
  pub err : OnErr result ((new.calls ≡ more old.calls side act true) ⊎ (new.calls ≡ old.calls))

-- a call that the list fails is kept, as one that failed
abbrev pub KeepsListed : MemoryState → MemoryState → Side → Act → Type 0
KeepsListed old new side act = IsTrue (fails_next old.fails) → new.calls ≡ more old.calls side act true

-- a fault is counted, and nothing else changes
pub record CountsFault (old new : MemoryState) : Type 0 where
  pub same : new ≡ record old { faults = new.faults }
  pub later : old.faults ≤ new.faults
  pub rose : Rose old.faults new.faults
