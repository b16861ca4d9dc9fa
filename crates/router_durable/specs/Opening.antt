-- Why a router over a journal isn't opened.
use Rattle.std.specs.Prelude.{◌≡◌, ◌⊎◌, ℕ, ◌≤◌, List, [], IsTrue, Option, Some, None, Result, Ok, Err}
use Rattle.slee_disk.specs.declared.side.Side.{Side}
use Rattle.slee_disk.specs.declared.side.Side.TheVariants.{A}
use Rattle.slee_disk.specs.Sides.{Sides, on, other}
use Rattle.slee_disk.specs.Causes.{Rose}
use Rattle.slee_disk.specs.Disk.{DiskState, LeavesOnly, is_clean}
use Rattle.commit_journal.specs.declared.format.Format.{Format}
use Rattle.commit_journal.specs.declared.format.Format.TheVariants.{One, Two}
use Rattle.commit_journal.specs.declared.fault.JournalFault.{JournalFault}
use Rattle.commit_journal.specs.declared.fault.JournalFault.TheVariants as journal_faults
use Rattle.commit_journal.specs.declared.fault.BeginFault.{BeginFault}
use Rattle.commit_journal.specs.declared.fault.BeginFault.TheVariants as begin_faults
use Rattle.commit_journal.specs.Beginning.{MayLeave}
use Rattle.commit_journal.specs.Reading.{Kept, Wrong, Bad, Other, recovered}
use Rattle.commit_journal.specs.Spelling.{size}
use Rattle.router_state.specs.State.{State}
use Rattle.router_durable.specs.declared.fault.OpenFault.{OpenFault}
use Rattle.router_durable.specs.declared.fault.OpenFault.TheVariants as faults
use Rattle.router_durable.specs.Anew.{size_anew, is_anew, kept_left, IsFullAnew}
use Rattle.router_durable.specs.Core.{Held, IsHeld, state_held}
use Rattle.router_durable.specs.Facts.{Origin, origin_over}
use Rattle.router_durable.specs.Recovery.{Past, restart, records}

-- a fault of the journal, as one of opening
abbrev pub fault_of : JournalFault → OpenFault
fault_of journal_faults.DiskFault = faults.DiskFault
fault_of (journal_faults.BadJournal side at kind) = faults.BadJournal side at kind
fault_of (journal_faults.OtherDeployment kept_len place) = faults.OtherDeployment kept_len place
fault_of journal_faults.NoMemory = faults.NoMemory

-- a fault of its beginning, as one of opening
abbrev pub begin_fault_of : BeginFault → OpenFault
begin_fault_of begin_faults.DiskFault = faults.DiskFault
begin_fault_of (begin_faults.Full size adding) = faults.Full size adding
begin_fault_of begin_faults.NoMemory = faults.NoMemory

-- A fault is the one that the bytes have. Where it is for the size, a side is written anew, and with the snapshot of the state it
-- would be longer than the limit.
abbrev pub IsOpenCause : State → ℕ → List ℕ → Sides → OpenFault → Type 0
IsOpenCause first limit deployment sides (faults.BadJournal side at kind) = restart first deployment sides ≡ Err (Bad side at kind)
IsOpenCause first limit deployment sides (faults.OtherDeployment kept_len place) = restart first deployment sides ≡ Err (Other kept_len place)
IsOpenCause first limit deployment sides (faults.Full size adding) =
    (s : State) × (restart first deployment sides ≡ Ok s) × IsTrue (is_anew (recovered deployment sides)) × IsFullAnew limit deployment s size adding
IsOpenCause first limit deployment sides faults.DiskFault = Unit {0}
IsOpenCause first limit deployment sides faults.NoMemory = Unit {0}

-- Whatever the disk tells, a fault for the size comes only where a side with the snapshot of some state would be longer than the limit.
abbrev pub IsSmall : ℕ → List ℕ → OpenFault → Type 0
IsSmall limit deployment (faults.BadJournal side at kind) = Unit {0}
IsSmall limit deployment (faults.OtherDeployment kept_len place) = Unit {0}
IsSmall limit deployment (faults.Full size adding) = (s : State) × IsFullAnew limit deployment s size adding
IsSmall limit deployment faults.DiskFault = Unit {0}
IsSmall limit deployment faults.NoMemory = Unit {0}

-- A restart of these sides has this state, and the records are those of the sides that were seen, or none where a side is written
-- anew.
pub record StandsFor (first : State) (deployment : List ℕ) (s : State) (seen image : Sides) : Type 0 where
  pub state : restart first deployment image ≡ Ok s
  pub records : (records deployment image ≡ records deployment seen) ⊎ (IsTrue (is_anew (recovered deployment seen)) × (records deployment image ≡ []))

-- nothing was written: a stop now leaves nothing else than before, and what was settled stays so
pub record IsUntouched (old new : DiskState) : Type 0 where
  pub told : new.told ≡ old.told
  pub seen : new.seen ≡ old.seen
  pub images : (image : Sides) → new.images image → old.images image
  pub settled : (side : Side) → IsTrue (old.settled side) → IsTrue (new.settled side)

-- nothing was written, and neither did a stop at any moment leave anything else
pub record IsLeftAlone (old new : DiskState) : Type 0 where
  pub untouched : IsUntouched old new
  pub moments : LeavesOnly old new old.images

-- only the disk's own fault comes when something may be written
abbrev pub IsUntouchedFor : OpenFault → DiskState → DiskState → Type 0
IsUntouchedFor (faults.BadJournal side at kind) old new = IsUntouched old new
IsUntouchedFor (faults.OtherDeployment kept_len place) old new = IsUntouched old new
IsUntouchedFor (faults.Full size adding) old new = IsUntouched old new
IsUntouchedFor faults.NoMemory old new = IsUntouched old new
IsUntouchedFor faults.DiskFault old new = Unit {0}

-- Of the side that counts in the first format all is left alone, and the other one is written anew.
abbrev pub LeavesOf : Kept → Format → DiskState → DiskState → Type 0
LeavesOf kept One old new = MayLeave (other kept.side) 0 old new
LeavesOf kept Two old new = MayLeave kept.side (size kept.head kept.payloads) old new

-- Whatever was pending, a stop may leave what it might have left before: of the side that counts, by what reads gave, only as far as its
-- last gate, and of side A nothing where both are blank.
abbrev pub LeavesAs : Result (Option Kept) Wrong → DiskState → DiskState → Type 0
LeavesAs (Err wrong) old new = (image : Sides) → new.images image → old.images image
LeavesAs (Ok None) old new = MayLeave A 0 old new
LeavesAs (Ok (Some kept)) old new = LeavesOf kept kept.head.format old new

-- why what was found isn't replayed
abbrev pub IsReplayCause : Result Past Wrong → OpenFault → Type 0
IsReplayCause past (faults.BadJournal side at kind) = past ≡ Err (Bad side at kind)
IsReplayCause past faults.NoMemory = Unit {0}
IsReplayCause past faults.DiskFault = ⊥
IsReplayCause past (faults.OtherDeployment kept_len place) = ⊥
IsReplayCause past (faults.Full size adding) = ⊥

-- the sides keep this, and it is what the router was opened over
pub record Leaves (deployment : List ℕ) (kept : Kept) (seen : Sides) (o : Origin) : Type 0 where
  pub keeps : recovered deployment seen ≡ Ok (Some kept)
  pub snapshot : o.snapshot ≡ kept.head.snapshot
  pub found : o.found ≡ kept.payloads
  pub counting : o.counting ≡ on kept.side seen

-- ---- what opening gives

-- It is opened: no entry stands yet, and the state and the records are those that the bytes stand for.
pub record Opens {D : Type 0} (old new : DiskState) (first : State) (bytes : List ℕ) (limit : ℕ) (c : Held D) : Type 0 where
  pub history : c.history ≡ []
  pub acked : c.acked ≡ 0
  pub stop : c.stop ≡ None
  pub limited : c.limit ≡ limit
  pub origin : c.origin ≡ origin_over first bytes old c.origin
  pub state : IsTrue old.told → restart first bytes old.seen ≡ Ok (state_held c)
  pub before : IsTrue old.told → c.origin.before ≡ records bytes old.seen
  -- the sides keep then what they kept, or what is written anew
  pub left : IsTrue old.told → Leaves bytes (kept_left bytes (state_held c) (recovered bytes old.seen)) new.seen c.origin
  -- what is written anew has room
  pub fits : IsTrue old.told → IsTrue (is_anew (recovered bytes old.seen)) → size_anew bytes (state_held c) ≤ limit
  -- a crash at any moment leaves the state and the records that were there
  pub any_moment : IsTrue (is_clean old) → LeavesOnly old new (StandsFor first bytes (state_held c) old.seen)
  pub held : IsHeld new c

-- It isn't opened, and the fault is the one that the bytes have.
pub record IsRefused (old new : DiskState) (first : State) (bytes : List ℕ) (limit : ℕ) (fault : OpenFault) : Type 0 where
  pub cause : IsTrue old.told → IsOpenCause first limit bytes old.seen fault
  pub small : IsSmall limit bytes fault
  pub failed : fault ≡ faults.DiskFault → Rose old.faults new.faults
  pub untouched : IsUntouchedFor fault old new
  -- a crash at any moment leaves the state and the records that were there
  pub any_moment : IsTrue (is_clean old) → (s : State) → restart first bytes old.seen ≡ Ok s → LeavesOnly old new (StandsFor first bytes s old.seen)
  -- whatever was pending, all but what a beginning cuts or writes stays
  pub stays : IsTrue old.told → LeavesAs (recovered bytes old.seen) old new
  -- bytes that stand for no state are left alone
  pub left_alone : IsTrue old.told → (wrong : Wrong) → restart first bytes old.seen ≡ Err wrong → IsLeftAlone old new
