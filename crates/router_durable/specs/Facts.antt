-- What a router over a journal keeps of its disk, whatever happens.
use Rattle.std.specs.Prelude.{◌≡◌, ◌⊎◌, ℕ, ◌+◌, ◌≤◌, ◌<◌, List, [], ◌++◌, length, take, map, if◌then◌else◌, Bool, false, IsTrue, Ok}
use mathlib.Core.List.{IsPrefix}
use Rattle.slee_disk.specs.declared.side.Side.{Side}
use Rattle.slee_disk.specs.Sides.{Sides, on}
use Rattle.slee_disk.specs.Disk.{DiskState, is_clean}
use Rattle.commit_journal.specs.declared.record.Record.{Record}
use Rattle.commit_journal.specs.declared.limits.TheConstants.{RECORD_FRAME}
use Rattle.commit_journal.specs.Views.{payload_of}
use Rattle.commit_journal.specs.Journal.{View, payloads_on}
use Rattle.commit_journal.specs.Reading.{Front, Blank, NoHeader, Header, front}
use Rattle.commit_journal.specs.Spelling.{records_size}
use Rattle.deploy_model.specs.Resolving.{deployed_of}
use Rattle.deploy_model.specs.declared.parts.Parts.{Parts}
use Rattle.script_types.specs.ProgramOf.{kept_program}
use Rattle.script_types.specs.declared.codes.Codes.{Codes}
use Rattle.trace_history.specs.Histories.{choices_of}
use Rattle.trace_history.specs.declared.choice.Choice.{Choice}
use Rattle.trace_history.specs.declared.entry.Entry.{Entry}
use Rattle.router_state.specs.Initial.{initial}
use Rattle.router_state.specs.State.{State}
use Rattle.router_steps.specs.Histories.{is_choice, replay}
use Rattle.router_steps.specs.Payloads.{payload, payloads}
use Rattle.router_steps.specs.Steps.{is_enabled}
use Rattle.router_durable.specs.Choices.{after_all, AreChoices, AreEnabled, AreReadAgain, written_format}
use Rattle.router_durable.specs.Recovery.{choices_in, restart, records}

-- Records that were read from a state on: those of choices that may be made one after another, each read back from what is kept of it.
pub record AreRead (s : State) (found : List (List ℕ)) : Type 0 where
  pub given : AreChoices (choices_in written_format found)
  pub enabled : AreEnabled s (choices_in written_format found)
  pub again : AreReadAgain s (choices_in written_format found)
  pub spelled : found ≡ payloads written_format s (choices_in written_format found)

-- what a router was opened over, as plain data
pub record Origin : Type 0 where
  -- the state of its deployment in which nothing has happened, and the bytes of the deployment's document
  pub initial : State
  pub deployment : List ℕ
  -- the snapshot of the side that counted when opening was done, and the state for which it stands
  pub snapshot : List ℕ
  pub start : State
  -- the payloads of the records behind it, and those that stood when opening began: they are others only where the journal was of
  -- the first format
  pub found : List (List ℕ)
  pub before : List (List ℕ)
  -- of the disk when opening began
  pub moment : ℕ
  pub faults : ℕ
  -- whether it told its bytes, and whether nothing was pending then besides
  pub told : Bool
  pub clean : Bool
  -- of the side that counted when opening was done; none where the disk doesn't tell them
  pub counting : List ℕ
  -- whether the disk failed while the journal was compacted
  pub torn : Bool

-- the bytes of a side, where the disk tells them, and none else
abbrev pub told_on : Side → DiskState → List ℕ
told_on side disk = if disk.told then on side disk.seen else []

-- the snapshot that stands on a side
abbrev pub snapshot_in : Front → List ℕ
snapshot_in Blank = []
snapshot_in NoHeader = []
snapshot_in (Header head bytes) = head.snapshot

abbrev pub snapshot_on : List ℕ → List ℕ
snapshot_on side = snapshot_in (front side)

-- the same origin over this disk, of a router with this first state and these bytes of its deployment
abbrev pub origin_over : State → List ℕ → DiskState → Origin → Origin
origin_over first deployment disk o = record o {
  initial = first;
  deployment = deployment;
  moment = disk.moment;
  faults = disk.faults;
  told = disk.told;
  clean = is_clean disk;
  torn = false;
}

-- what stands since opening was done, by the journal then
abbrev pub origin_of : {D : Type 0} → (D → DiskState) → State → List ℕ → D → List Record → State → View D → Bool → Origin
origin_of state first deployment disk before start begun torn = record {
  initial = first;
  deployment = deployment;
  snapshot = begun.kept.head.snapshot;
  start = start;
  found = map payload_of begun.records;
  before = map payload_of before;
  moment = (state disk).moment;
  faults = (state disk).faults;
  told = (state disk).told;
  clean = is_clean (state disk);
  counting = told_on begun.kept.side (state begun.disk);
  torn = torn;
}

-- the state of a deployment in which nothing has happened
abbrev pub initial_of : Parts → Codes → State
initial_of parts codes = initial (deployed_of parts) (kept_program codes)

-- the state that was found
abbrev pub base_of : Origin → State
base_of o = after_all o.start (choices_in written_format o.found)

-- the payloads of the entries of a history that began there
abbrev pub records_since : Origin → List Entry → List (List ℕ)
records_since o history = payloads written_format (base_of o) (choices_of history)

-- A restart has the state after so many entries of the history at least, and the records are those found and theirs.
pub record RestartsIn (o : Origin) (history : List Entry) (least : ℕ) (image : Sides) : Type 0 where
  pub part : List Entry
  pub front : IsPrefix part history
  pub some : least ≤ length part
  pub state : restart o.initial o.deployment image ≡ Ok (replay (base_of o) part)
  pub records : records o.deployment image ≡ o.found ++ records_since o part

-- A restart has the state that was found, and the records are those that stood when opening began.
pub record StandsBefore (o : Origin) (image : Sides) : Type 0 where
  pub state : restart o.initial o.deployment image ≡ Ok (base_of o)
  pub records : records o.deployment image ≡ o.before

-- Stopped now, a restart is after the acknowledged entries at least; where nothing was pending when the opening began, it is after
-- some entries at any moment since, or nothing was taken over yet. Where the disk failed in a compaction, its own contract says
-- what it leaves.
pub record IsCrashSafe (o : Origin) (history : List Entry) (acked : ℕ) (disk : DiskState) : Type 0 where
  pub told : IsTrue o.told → IsTrue disk.told
  pub later : IsTrue o.clean → o.moment ≤ disk.moment
  pub since : IsTrue o.clean → o.torn ≡ false → (image : Sides) → disk.since o.moment image → RestartsIn o history 0 image ⊎ StandsBefore o image
  pub now : IsTrue o.told → o.torn ≡ false → (image : Sides) → disk.images image → RestartsIn o history acked image

-- the records are those that stood at the opening, and those of so many entries
abbrev pub HasRecords : Origin → List Entry → ℕ → Sides → Type 0
HasRecords o history count sides = records o.deployment sides ≡ payloads_on o.counting ++ records_since o (take count history)

-- the same of the acknowledged entries, or of these and the batch that was being written
abbrev pub HasRecordsOrMore : Origin → List Entry → ℕ → Sides → Type 0
HasRecordsOrMore o history acked sides = HasRecords o history acked sides ⊎ HasRecords o history (length history) sides

-- how many bytes the counting side has with the records of the history: those that it had when opening was done, and theirs
abbrev pub size_after : Origin → List Entry → ℕ
size_after o history = length o.counting + records_size (records_since o history)

-- how many bytes the record of a choice after the history adds
abbrev pub size_added : Origin → List Entry → Choice → ℕ
size_added o history c = RECORD_FRAME + length (payload written_format (replay (base_of o) history) c)

-- the record of a choice after the history fits
abbrev pub HasRoom : Origin → ℕ → List Entry → Choice → Type 0
HasRoom o limit history c = IsTrue o.told → size_after o history + size_added o history c ≤ limit

-- The record of a choice that may be made after the history doesn't fit: the side would be longer than the limit.
pub record IsFullFor (o : Origin) (limit : ℕ) (history : List Entry) (c : Choice) (size adding : ℕ) : Type 0 where
  pub enabled : IsTrue (is_enabled (replay (base_of o) history) c)
  pub given : IsTrue (is_choice c)
  pub stands : IsTrue o.told → size ≡ size_after o history
  pub adds : adding ≡ size_added o history c
  pub above : limit < size + adding

-- the record of some choice doesn't fit
abbrev pub IsFull : Origin → ℕ → List Entry → ℕ → ℕ → Type 0
IsFull o limit history size adding = (c : Choice) × IsFullFor o limit history c size adding
