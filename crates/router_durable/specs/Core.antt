-- A router over a journal as its callers see it.
use Rattle.std.specs.Prelude.{◌≡◌, ℕ, nat_le, if◌then◌else◌, ◌+◌, ◌≤◌, List, [], ◌∷◌, ◌++◌, length, take, drop, Bool, true, false, IsTrue, IsErrOf, Option, Some, None, Result, Ok, Err, ⊤}
use Rattle.slee_descriptor.specs.declared.deployment.Deployment.{Deployment}
use Rattle.slee_disk.specs.Causes.{Rose}
use Rattle.slee_disk.specs.Sides.{Sides}
use Rattle.slee_disk.specs.Disk.{DiskState, LeavesOnly, is_clean}
use Rattle.commit_journal.specs.declared.format.Format.TheVariants.{Two}
use Rattle.commit_journal.specs.declared.limits.TheConstants.{SIDE_FRAME}
use Rattle.commit_journal.specs.declared.stage.Stage.TheVariants.{Ready}
use Rattle.commit_journal.specs.Journal.{View, payloads_on}
use Rattle.commit_journal.specs.Kept.{Keeps}
use Rattle.commit_journal.specs.Reading.{recovered}
use Rattle.commit_journal.specs.Spelling.{records_size, size}
use Rattle.trace_history.specs.Histories.{choices_of}
use Rattle.trace_history.specs.declared.choice.Choice.{Choice}
use Rattle.trace_history.specs.declared.entry.Entry.{Entry}
use Rattle.router_core.specs.States.{IsOwn}
use Rattle.router_laws_kept.specs.Kept.{CanBeKept}
use Rattle.router_state.specs.Restoring.{state_of_snapshot}
use Rattle.router_state.specs.State.{State}
use Rattle.router_steps.specs.Histories.{replay, Legal}
use Rattle.router_steps.specs.Payloads.{payloads}
use Rattle.router_steps.specs.Steps.{step_entry}
use Rattle.router_durable.specs.declared.limits.TheConstants.{BATCH_LIMIT}
use Rattle.router_durable.specs.declared.fault.Stop.{Stop}
use Rattle.router_durable.specs.declared.fault.Stop.TheVariants as stops
use Rattle.router_durable.specs.declared.fault.StepFault.{StepFault}
use Rattle.router_durable.specs.declared.fault.StepFault.TheVariants as faults
use Rattle.router_durable.specs.Anew.{is_anew}
use Rattle.router_durable.specs.Choices.{AreReadAgain, written_format}
use Rattle.router_durable.specs.Facts.{AreRead, Origin, base_of, records_since, snapshot_on, RestartsIn, IsCrashSafe, HasRecords, HasRecordsOrMore, HasRoom, IsFullFor, IsFull}

-- what contracts see of it
pub record Held (D : Type 0) : Type 0 where
  pub disk : D
  pub origin : Origin
  -- the most bytes of a side of the journal
  pub limit : ℕ
  pub history : List Entry
  pub acked : ℕ
  pub stop : Option Stop

-- the state: that after the history
abbrev pub state_held : {D : Type 0} → Held D → State
state_held h = replay (base_of h.origin) h.history

-- stopped by a fault of the disk
abbrev pub is_down : Option Stop → Bool
is_down None = false
is_down (Some stops.DiskFault) = true
is_down (Some (stops.Full length adding)) = false
is_down (Some stops.NoMemory) = false

-- a stop for want of memory, where none stands yet
abbrev pub halted : Option Stop → Option Stop
halted None = Some stops.NoMemory
halted (Some stop) = Some stop

-- a stop for want of room is lifted where the journal is compacted
abbrev pub lifted : Option Stop → Option Stop
lifted None = None
lifted (Some stops.DiskFault) = Some stops.DiskFault
lifted (Some (stops.Full length adding)) = None
lifted (Some stops.NoMemory) = Some stops.NoMemory

-- A stop has its cause. Want of memory is told by the caller.
abbrev pub IsStopOf : Origin → ℕ → List Entry → DiskState → Option Stop → Type 0
IsStopOf o limit history disk None = ⊤
IsStopOf o limit history disk (Some stops.DiskFault) = Rose o.faults disk.faults
IsStopOf o limit history disk (Some (stops.Full size adding)) = IsFull o limit history size adding
IsStopOf o limit history disk (Some stops.NoMemory) = ⊤

-- the records of the entries that aren't acknowledged yet
abbrev pub records_behind : Origin → List Entry → ℕ → List (List ℕ)
records_behind o history acked = payloads written_format (replay (base_of o) (take acked history)) (choices_of (drop acked history))

-- what is true of the fields of each of them
pub record IsSound {D : Type 0} (j : View D) (disk : DiskState) (o : Origin) (history : List Entry) (acked : ℕ) (stop : Option Stop) : Type 0 where
  pub legal : Legal (base_of o) history
  pub again : AreReadAgain (base_of o) (choices_of history)
  pub found : AreRead o.start o.found
  pub based : state_of_snapshot written_format o.initial.deployment o.initial.program o.snapshot ≡ Some o.start
  pub keepable : CanBeKept (base_of o)
  pub named : j.kept.head.deployment ≡ o.deployment
  pub stands : j.kept.head.snapshot ≡ o.snapshot
  pub format : j.kept.head.format ≡ Two
  pub stage : is_down stop ≡ false → j.stage ≡ Ready
  -- what waits in the batch are the records that aren't acknowledged
  pub batch : is_down stop ≡ false → j.batch ≡ records_behind o history acked
  pub within : acked ≤ length history
  pub tells : IsTrue o.clean → IsTrue o.told
  pub kept : IsTrue o.told → is_down stop ≡ false → j.kept.payloads ≡ o.found ++ records_since o (take acked history)
  pub seen : IsTrue o.told → is_down stop ≡ false → Keeps j.kept disk.seen
  -- nothing is pending
  pub rest : IsTrue o.told → is_down stop ≡ false → IsTrue (is_clean disk)
  -- where the disk failed, it was writing the batch, or the journal was compacted
  pub whole : is_down stop ≡ false → o.torn ≡ false
  pub left : IsTrue o.told → o.torn ≡ false → is_down stop ≡ true → (image : Sides) → disk.images image → HasRecordsOrMore o history acked image
  pub counted : IsTrue o.told → payloads_on o.counting ≡ o.found
  pub text : IsTrue o.told → snapshot_on o.counting ≡ o.snapshot
  pub sized : IsTrue o.told → length o.counting ≡ size j.kept.head o.found
  pub safe : IsCrashSafe o history acked disk
  pub faults : o.faults ≤ disk.faults
  pub cause : IsStopOf o j.limit history disk stop

-- the same, with the state that it has, and the deployment that it serves
pub record IsSoundWith {D : Type 0} (j : View D) (disk : DiskState) (o : Origin) (history : List Entry) (acked : ℕ) (stop : Option Stop) (d : Deployment) (s : State) : Type 0 where
  pub sound : IsSound j disk o history acked stop
  pub state : s ≡ replay (base_of o) history
  pub own : IsOwn d s

-- How a planned step is added to the batch: the disk is as it was.
abbrev pub Adds : {D : Type 0} → Held D → Choice → Result (Unit {0}) StepFault → Held D → Type 0
Adds old c (Ok done) new = (new ≡ record old { history = old.history ++ step_entry (state_held old) c ∷ [] }) × HasRoom old.origin old.limit old.history c
Adds old c (Err (faults.Full size adding)) new = (new ≡ record old { stop = Some (stops.Full size adding) }) × IsFullFor old.origin old.limit old.history c size adding
Adds old c (Err faults.NoMemory) new = (new ≡ old) × HasRoom old.origin old.limit old.history c
Adds old c (Err faults.DiskFault) new = ⊥
Adds old c (Err faults.Spent) new = ⊥

-- What a flush does: all entries are acknowledged, and but for the disk nothing else changes; a fault of the disk stops the router.
abbrev pub Flushes : {D T E : Type 0} → Held D → Result T E → Held D → Type 0
Flushes old (Ok done) new = new ≡ record old { acked = length old.history; disk = new.disk }
Flushes old (Err fault) new = new ≡ record old { stop = Some stops.DiskFault; disk = new.disk }

-- How a step ends. A refusal changes nothing, but that one for the size stops the router. Where the disk fails, the step
-- stands in the history.
abbrev pub Stepped : {D : Type 0} → Held D → Choice → Result ℕ StepFault → Held D → Type 0
Stepped old c (Ok number) new = (new.history ≡ old.history ++ step_entry (state_held old) c ∷ []) × (number ≡ length new.history) × (new.stop ≡ None) × HasRoom old.origin old.limit old.history c
Stepped old c (Err faults.DiskFault) new = (new.history ≡ old.history ++ step_entry (state_held old) c ∷ []) × (new.stop ≡ Some stops.DiskFault) × HasRoom old.origin old.limit old.history c
Stepped old c (Err (faults.Full size adding)) new = (new ≡ record old { stop = Some (stops.Full size adding) }) × IsFullFor old.origin old.limit old.history c size adding
Stepped old c (Err faults.NoMemory) new = new ≡ old
Stepped old c (Err faults.Spent) new = ⊥

-- a step writes the batch where it then has so many bytes or more
abbrev pub is_written : Origin → List Entry → ℕ → Bool
is_written o history acked = nat_le BATCH_LIMIT (records_size (records_behind o history acked))

-- What a step leaves acknowledged of the history: all of it where it wrote the batch, and as many entries as before where it didn't, or was refused, or the disk failed.
abbrev pub Acknowledges : {T : Type 0} → Origin → ℕ → Result T StepFault → List Entry → ℕ → Type 0
Acknowledges o before (Ok made) history acked = acked ≡ (if is_written o history before then length history else before)
Acknowledges o before (Err fault) history acked = acked ≡ before

-- A step that is made of a choice, or refused.
pub record Makes {D : Type 0} (before after : DiskState) (old : Held D) (c : Choice) (result : Result ℕ StepFault) (new : Held D) : Type 0 where
  pub step : Stepped old c result new
  pub acked : Acknowledges old.origin old.acked result new.history new.acked
  pub origin : new.origin ≡ old.origin
  pub limit : new.limit ≡ old.limit
  pub failed : IsErrOf result faults.DiskFault → Rose before.faults after.faults
  -- a crash at any moment of it leaves what was acknowledged before it
  pub any_moment : IsTrue old.origin.told → LeavesOnly before after (RestartsIn old.origin new.history old.acked)

-- what is true of each of them, whatever was done with it
pub record IsHeld {D : Type 0} (disk : DiskState) (h : Held D) : Type 0 where
  pub legal : Legal (base_of h.origin) h.history
  pub acked : h.acked ≤ length h.history
  pub safe : IsCrashSafe h.origin h.history h.acked disk
  -- a stop has its cause
  pub cause : IsStopOf h.origin h.limit h.history disk h.stop
  -- the side that counted when opening was done had the snapshot for which that state stands and the records that were found, and
  -- nothing behind them
  pub based : state_of_snapshot written_format h.origin.initial.deployment h.origin.initial.program h.origin.snapshot ≡ Some h.origin.start
  pub keepable : CanBeKept (base_of h.origin)
  pub text : IsTrue h.origin.told → snapshot_on h.origin.counting ≡ h.origin.snapshot
  pub counted : IsTrue h.origin.told → payloads_on h.origin.counting ≡ h.origin.found
  pub sized : IsTrue h.origin.told → length h.origin.counting ≡ SIDE_FRAME + length h.origin.deployment + length h.origin.snapshot + records_size h.origin.found
  -- unless the disk failed, nothing is pending, the records are those of the acknowledged entries, and a restart of what is
  -- read goes on from there, from a side of the second format
  pub rest : IsTrue h.origin.told → is_down h.stop ≡ false → IsTrue (is_clean disk)
  pub records : IsTrue h.origin.told → is_down h.stop ≡ false → HasRecords h.origin h.history h.acked disk.seen
  pub again : IsTrue h.origin.told → is_down h.stop ≡ false → RestartsIn h.origin h.history h.acked disk.seen
  pub current : IsTrue h.origin.told → is_down h.stop ≡ false → is_anew (recovered h.origin.deployment disk.seen) ≡ false
  -- a stop now leaves these records, or also those of the batch that was being written
  pub whole : is_down h.stop ≡ false → h.origin.torn ≡ false
  pub batch : IsTrue h.origin.told → h.origin.torn ≡ false → (image : Sides) → disk.images image → HasRecordsOrMore h.origin h.history h.acked image
