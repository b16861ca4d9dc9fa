-- What a run leaves on the disk, and what a stop of it may leave.
use Rattle.std.specs.Prelude.{◌≡◌, ◌≢◌, ◌⊎◌, ℕ, ◌+◌, ◌≤◌, false, List, [], ◌++◌, length, IsTrue, Some, Ok, Err}
use mathlib.Core.List.{IsPrefix}
use Rattle.slee_disk.specs.Causes.{Rose}
use Rattle.slee_disk.specs.Sides.{Sides}
use Rattle.slee_disk.specs.Disk.{DiskState, is_clean}
use Rattle.commit_journal.specs.declared.limits.TheConstants.{SIDE_FRAME}
use Rattle.commit_journal.specs.declared.stage.Stage.TheVariants.{Ready}
use Rattle.commit_journal.specs.Kept.{renewed}
use Rattle.commit_journal.specs.Reading.{Kept, Wrong, recovered}
use Rattle.commit_journal.specs.Spelling.{records_size}
use Rattle.commit_journal.specs.Written.{IsWritten}
use Rattle.trace_history.specs.Histories.{choices_of}
use Rattle.trace_history.specs.declared.entry.Entry.{Entry}
use Rattle.router_state.specs.Restoring.{snapshot_text}
use Rattle.router_state.specs.State.{State}
use Rattle.router_steps.specs.Histories.{replay}
use Rattle.router_steps.specs.Payloads.{payloads}
use Rattle.router_durable.specs.Recovery.{restart, records}
use Rattle.router_durable.specs.Anew.{IsFullAnew, is_anew, kept_left, size_anew}
use Rattle.router_durable.specs.Choices.{written_format}
use Rattle.router_durable.specs.Opening.{IsLeftAlone, IsUntouched, LeavesAs}
use Rattle.slee_run.specs.Given.{Document}
use Rattle.slee_run.specs.Opening.{journal_limit, found, IsOpened, IsUntouchedAt, IsGood}
use Rattle.slee_run.specs.declared.tending.Task.{Task}
use Rattle.slee_run.specs.declared.tending.Task.TheVariants as tasks
use Rattle.slee_run.specs.declared.status.Status.{Status}
use Rattle.slee_run.specs.declared.status.Status.TheVariants as statuses

-- What the journal keeps once it is opened: what it kept, and where a side is written anew, a snapshot of the state and no records.
abbrev pub left_on : Document → DiskState → State → Kept
left_on x disk base = kept_left x.bytes base (recovered x.bytes disk.seen)

-- The records that stand then, and behind them those of a history.
abbrev pub records_behind : Document → DiskState → State → List Entry → List (List ℕ)
records_behind x disk base history = (left_on x disk base).payloads ++ payloads written_format base (choices_of history)

-- how many bytes a side with them has, behind the document and the snapshot
abbrev pub size_behind : Document → DiskState → State → List Entry → ℕ
size_behind x disk base history = SIDE_FRAME + length x.bytes + length (left_on x disk base).head.snapshot + records_size (records_behind x disk base history)

-- A restart of these sides has the state after so many entries of the history at least, and the records are those that stood
-- when the steps began and those of these entries.
pub record RestartsAfter (x : Document) (old : DiskState) (base : State) (history : List Entry) (least : ℕ) (image : Sides) : Type 0 where
  pub part : List Entry
  pub front : IsPrefix part history
  pub some : least ≤ length part
  pub state : restart x.start x.bytes image ≡ Ok (replay base part)
  pub records : records x.bytes image ≡ records_behind x old base part

-- A restart of these sides has the state that was found, and the records are those that were found: the journal may still be as it
-- was before opening.
pub record RestartsAsFound (x : Document) (old : DiskState) (base : State) (image : Sides) : Type 0 where
  pub state : restart x.start x.bytes image ≡ Ok base
  pub records : records x.bytes image ≡ records x.bytes old.seen

-- Nothing is pending, the journal has the records that stood and those of the acknowledged entries, and a restart goes on from
-- there.
pub record IsSettled (x : Document) (base : State) (acked : List Entry) (old new : DiskState) : Type 0 where
  pub rest : IsTrue (is_clean new)
  pub records : records x.bytes new.seen ≡ records_behind x old base acked
  pub again : found x new ≡ Ok (replay base acked)
  -- a side counts, and it is of the second format
  pub current : is_anew (recovered x.bytes new.seen) ≡ false

-- What a stop now leaves, and what is left where the disk didn't fail.
pub record IsKeptNow (x : Document) (base : State) (history acked : List Entry) (old new : DiskState) (status : Status) : Type 0 where
  -- a restart has the state after the acknowledged entries at least
  pub now : (image : Sides) → new.images image → RestartsAfter x old base history (length acked) image
  -- the records are those of the acknowledged entries, or also those of the batch that was being written
  pub batch : (image : Sides) → new.images image
      → (records x.bytes image ≡ records_behind x old base acked) ⊎ (records x.bytes image ≡ records_behind x old base history)
  pub kept : status ≢ statuses.DiskFault → IsSettled x base acked old new

-- A restart has the state after some entries, and the records are theirs or those that were found.
abbrev pub RestartsSomewhere : Document → DiskState → State → List Entry → Sides → Type 0
RestartsSomewhere x old base history image = RestartsAfter x old base history 0 image ⊎ RestartsAsFound x old base image

-- No entry was made, and nothing was written unless the disk failed. A stop may leave what it might have left before, but for what
-- opening cuts or writes.
pub record IsUnopened (x : Document) (base : State) (history : List Entry) (old new : DiskState) (status : Status) : Type 0 where
  pub none : history ≡ []
  pub untouched : status ≢ statuses.DiskFault → IsUntouched old new
  pub stays : LeavesAs (recovered x.bytes old.seen) old new
  -- where nothing was pending, a restart has the state
  pub now : IsTrue (is_clean old) → (image : Sides) → new.images image → RestartsSomewhere x old base [] image

-- the run came to its end, over a journal that was begun
pub record IsBegun (status : Status) : Type 0 where
  pub good : IsGood status
  pub remembered : status ≢ statuses.NoMemory
  pub sided : (adding : ℕ) → status ≢ statuses.Full 0 adding

-- a side that is written anew, with a snapshot of the state, would be longer than the limit: nothing of it stands
abbrev pub IsUnwritten : Document → State → ℕ → ℕ → Type 0
IsUnwritten x base size adding = IsFullAnew journal_limit x.bytes base size adding

-- opening would write such a side
pub record IsUnbegun (x : Document) (base : State) (old : DiskState) (size adding : ℕ) : Type 0 where
  pub anew : IsTrue (is_anew (recovered x.bytes old.seen))
  pub unwritten : IsUnwritten x base size adding

-- Full is the side that has the records that stood and those of the history, or one that opening would write anew; each entry that
-- was made had room, and so had a side that was written anew.
pub record IsSized (x : Document) (base : State) (history : List Entry) (old : DiskState) (status : Status) : Type 0 where
  pub full : (size adding : ℕ) → status ≡ statuses.Full size adding → (size ≡ size_behind x old base history) ⊎ ((history ≡ []) × IsUnbegun x base old size adding)
  pub room : (history ≡ []) ⊎ (size_behind x old base history ≤ journal_limit)
  pub begun : IsBegun status → IsTrue (is_anew (recovered x.bytes old.seen)) → size_anew x.bytes base ≤ journal_limit

-- what is said of the journal and of its disk, before and after a run, whatever the words ask
pub record MeetsJournal (x : Document) (base : State) (history : List Entry) (old new : DiskState) (status : Status) : Type 0 where
  pub opened : IsTrue old.told → IsOpened (found x old) base history status
  pub untouched : IsUntouchedAt status old new
  -- bytes that stand for no state are left alone, whatever the status
  pub alone : IsTrue old.told → (wrong : Wrong) → found x old ≡ Err wrong → IsLeftAlone old new
  -- the disk's fault was counted
  pub failed : status ≡ statuses.DiskFault → Rose old.faults new.faults

-- the same of a run that goes on behind the records
pub record KeepsJournal (x : Document) (base : State) (history acked : List Entry) (old new : DiskState) (status : Status) : Type 0 where
  -- on a disk on which nothing was pending, a stop at any moment of the run leaves the state after some entries
  pub safe : IsTrue (is_clean old) → found x old ≡ Ok base → (image : Sides) → new.since old.moment image → RestartsSomewhere x old base history image
  -- whatever was pending, this is said of what is left, or opening failed; a run that comes to its end leaves nothing pending
  pub held : IsTrue old.told → found x old ≡ Ok base → IsKeptNow x base history acked old new status ⊎ IsUnopened x base history old new status
  pub settled : IsTrue old.told → found x old ≡ Ok base → IsBegun status → IsSettled x base acked old new
  pub sized : IsTrue old.told → found x old ≡ Ok base → IsSized x base history old status

-- the same where the state is shown: only a side that opening would write anew may have no room
pub record ShowsJournal (x : Document) (base : State) (old new : DiskState) (status : Status) : Type 0 where
  pub keeps : KeepsJournal x base [] [] old new status
  pub full : IsTrue old.told → found x old ≡ Ok base → (size adding : ℕ) → status ≡ statuses.Full size adding → IsUnbegun x base old size adding

-- what a journal keeps once it is compacted: on the other side a snapshot of the state, and no records
abbrev pub compacted : Document → DiskState → State → Kept
compacted x old base = renewed Ready (left_on x old base) (snapshot_text written_format base)

-- It is compacted, and nothing is pending. A restart goes on from the same state.
pub record IsCompacted (x : Document) (base : State) (generation : ℕ) (old new : DiskState) : Type 0 where
  pub rest : IsTrue (is_clean new)
  pub kept : recovered x.bytes new.seen ≡ Ok (Some (compacted x old base))
  pub written : IsWritten (compacted x old base) new.seen
  pub generation_is : generation ≡ (compacted x old base).head.generation
  pub again : found x new ≡ Ok base
  pub fits : size_anew x.bytes base ≤ journal_limit

-- what is said of the journal and of its disk, before and after compacting
pub record CompactsJournal (x : Document) (base : State) (generation : ℕ) (old new : DiskState) (status : Status) : Type 0 where
  -- stopped at any moment, a restart has the same state, on a disk on which nothing was pending
  pub moments : IsTrue (is_clean old) → found x old ≡ Ok base → (image : Sides) → new.since old.moment image → restart x.start x.bytes image ≡ Ok base
  -- whatever was pending, a stop now leaves this state, or opening failed
  pub now : IsTrue old.told → found x old ≡ Ok base → ((image : Sides) → new.images image → restart x.start x.bytes image ≡ Ok base) ⊎ IsUnopened x base [] old new status
  pub done : IsTrue old.told → found x old ≡ Ok base → status ≡ statuses.Ok → IsCompacted x base generation old new
  -- where it isn't compacted, the journal is as opening left it, or as it was
  pub kept : IsTrue old.told → found x old ≡ Ok base → status ≢ statuses.Ok → status ≢ statuses.DiskFault → IsSettled x base [] old new ⊎ IsUntouched old new
  pub full : IsTrue old.told → found x old ≡ Ok base → (size adding : ℕ) → status ≡ statuses.Full size adding → IsUnwritten x base size adding

-- what is said of them before and after a task
abbrev pub DoneOn : Task → Document → State → ℕ → DiskState → DiskState → Status → Type 0
DoneOn tasks.Show x base generation old new status = ShowsJournal x base old new status
DoneOn tasks.Compact x base generation old new status = CompactsJournal x base generation old new status
