-- What a compaction does.
use Rattle.std.specs.Prelude.{◌≡◌, ◌⊎◌, ℕ, ◌≤◌, List, [], ◌∷◌, ◌++◌, true, IsTrue, Some, Result, Ok, Err}
use Rattle.slee_disk.specs.Causes.{Rose}
use Rattle.slee_disk.specs.Sides.{Sides}
use Rattle.slee_disk.specs.Disk.{DiskState, LeavesOnly}
use Rattle.commit_journal.specs.declared.fault.BeginFault.{BeginFault}
use Rattle.commit_journal.specs.declared.fault.BeginFault.TheVariants as begin_faults
use Rattle.commit_journal.specs.declared.stage.Stage.TheVariants.{Ready}
use Rattle.commit_journal.specs.Kept.{renewed}
use Rattle.commit_journal.specs.Reading.{Kept, recovered}
use Rattle.commit_journal.specs.Written.{IsWritten}
use Rattle.router_state.specs.Restoring.{snapshot_text}
use Rattle.router_state.specs.State.{State}
use Rattle.router_durable.specs.declared.fault.Stop.TheVariants as stops
use Rattle.router_durable.specs.Anew.{size_anew, IsFullAnew}
use Rattle.router_durable.specs.Choices.{written_format}
use Rattle.router_durable.specs.Core.{Held, lifted, state_held}
use Rattle.router_durable.specs.Facts.{Origin, origin_over}
use Rattle.router_durable.specs.Opening.{Leaves}
use Rattle.router_durable.specs.Recovery.{restart, records}

-- A restart has this state, and the records are those that were found, or none.
pub record StandsThrough (o : Origin) (s : State) (image : Sides) : Type 0 where
  pub state : restart o.initial o.deployment image ≡ Ok s
  pub records : (records o.deployment image ≡ o.found) ⊎ (records o.deployment image ≡ [])

-- The origin over this disk, where a snapshot of this state stands alone.
abbrev pub origin_anew : DiskState → State → Origin → Origin → Origin
origin_anew disk s old new = record (origin_over old.initial old.deployment disk new) {
  snapshot = snapshot_text written_format s;
  start = s;
  found = [];
  before = [];
}

-- The other side counts, in the next generation, and has the snapshot alone; this is its number.
pub record Renews (deployment text : List ℕ) (kept : Kept) (seen : Sides) (number : ℕ) (o : Origin) : Type 0 where
  pub left : Leaves deployment (renewed Ready kept text) seen o
  pub written : IsWritten (renewed Ready kept text) seen
  pub number_is : number ≡ (renewed Ready kept text).head.generation

-- it is compacted: the state stays, and there is room again
pub record IsCompacted {D : Type 0} (before after : DiskState) (old : Held D) (number : ℕ) (new : Held D) : Type 0 where
  pub same : new ≡ record old { disk = new.disk; origin = new.origin; stop = lifted old.stop }
  pub origin : new.origin ≡ origin_anew after (state_held old) old.origin new.origin
  pub fits : size_anew old.origin.deployment (state_held old) ≤ old.limit
  pub renews : IsTrue old.origin.told → (kept : Kept) → recovered old.origin.deployment before.seen ≡ Ok (Some kept)
      → Renews old.origin.deployment (snapshot_text written_format (state_held old)) kept after.seen number new.origin

-- How a compaction ends. Want of room or of memory changes nothing, and a fault of the disk stops the router.
abbrev pub Ends : {D : Type 0} → DiskState → DiskState → Held D → Result ℕ BeginFault → Held D → Type 0
Ends before after old (Ok number) new = IsCompacted before after old number new
Ends before after old (Err (begin_faults.Full size adding)) new = (new ≡ old) × IsFullAnew old.limit old.origin.deployment (state_held old) size adding
Ends before after old (Err begin_faults.NoMemory) new = new ≡ old
Ends before after old (Err begin_faults.DiskFault) new =
    (new ≡ record old { disk = new.disk; origin = record old.origin { torn = true }; stop = Some stops.DiskFault })
    × Rose before.faults after.faults × (size_anew old.origin.deployment (state_held old) ≤ old.limit)

-- A compaction, and what a crash at any moment of it leaves.
pub record Compacts {D : Type 0} (before after : DiskState) (old : Held D) (result : Result ℕ BeginFault) (new : Held D) : Type 0 where
  pub ends : Ends before after old result new
  pub told : IsTrue old.origin.told → IsTrue after.told
  pub any_moment : IsTrue old.origin.told → LeavesOnly before after (StandsThrough old.origin (state_held old))
