-- What the functions that read return, as the definitions have it.
use Rattle.std.specs.Prelude.{◌≡◌, ◌≢◌, ◌⊎◌, ℕ, ◌+◌, List, [], ◌∷◌, length, map, Option, Some, None, Result, Ok, Err, Vec}
use Rattle.std.specs.declared.alloc.Global.{Global}
use denote.Ref.{Bor}
use Rattle.slee_value.specs.declared.reading.TheConstants.{COUNT_LEN}
use Rattle.slee_disk.specs.declared.side.Side.{Side}
use Rattle.slee_disk.specs.declared.side.Side.TheVariants.{A, B}
use Rattle.commit_journal.specs.declared.format.Format.TheVariants.{Two}
use Rattle.commit_journal.specs.declared.gate.TheConstants.{OPEN_GATE}
use Rattle.commit_journal.specs.declared.fault.JournalBad.{JournalBad}
use Rattle.commit_journal.specs.declared.fault.JournalBad.TheVariants as kinds
use Rattle.commit_journal.specs.declared.fault.JournalFault.{JournalFault}
use Rattle.commit_journal.specs.declared.fault.JournalFault.TheVariants as journal_faults
use Rattle.commit_journal.specs.declared.stage.Stage.{Stage}
use Rattle.commit_journal.specs.declared.stage.Stage.TheVariants as stages
use Rattle.commit_journal.specs.declared.record.Record.{Record}
use Rattle.commit_journal.specs.declared.record.Found.{Found}
use Rattle.commit_journal.specs.declared.record.RecordsFault.{RecordsFault}
use Rattle.commit_journal.specs.declared.record.RecordsFault.TheVariants as faults
use Rattle.commit_journal.specs.declared.reading.Begins.{Begins}
use Rattle.commit_journal.specs.declared.reading.Begins.TheVariants as begins
use Rattle.commit_journal.specs.declared.reading.Behind.{Behind}
use Rattle.commit_journal.specs.declared.reading.Behind.TheVariants as behinds
use Rattle.commit_journal.specs.declared.reading.Heading.{Heading}
use Rattle.commit_journal.specs.declared.limits.TheConstants.{RECORD_FRAME}
use Rattle.commit_journal.specs.Spelling.{Head, records_size}
use Rattle.commit_journal.specs.Reading.{payload_at, Front, Blank, NoHeader, Header, Counting, Neither, Counts, NotOne, counting, Kept, Wrong, Bad, Other}

-- what a function returned, seen by view, is what reading gives
abbrev pub Reads : {X Y : Type 0} → (X → Y) → Option X → Option Y → Type 0
Reads view (Some x) read = read ≡ Some (view x)
Reads view None read = read ≡ None

-- what the structs of the reader stand for in the definitions
abbrev pub head_view : Heading → Head
head_view h = record { format = h.format; generation = h.generation; deployment = h.deployment.now; snapshot = h.snapshot.now }

abbrev pub front_view : Begins → Front
front_view begins.Blank = Blank
front_view begins.NoHeader = NoHeader
front_view (begins.Header heading rest) = Header (head_view heading) rest.now

-- payloads as records, the place of the first one's gate given
abbrev pub located : ℕ → List (List ℕ) → List Record
located first [] = []
located first (payload ∷ payloads) = record { at = first; payload = payload } ∷ located (first + (RECORD_FRAME + length payload)) payloads

-- the payloads of records
abbrev pub payload_of : Record → List ℕ
payload_of r = r.payload

-- the records that were read from these bytes, and the place of the last gate
abbrev pub GivesRecords : ℕ → Result (Vec Record Global × ℕ) RecordsFault → Result (List (List ℕ)) ℕ → Type 0
GivesRecords first (Ok v) read =
    (read ≡ Ok (map payload_of v.0.items)) × (v.0.items ≡ located first (map payload_of v.0.items)) × (v.1 ≡ first + records_size (map payload_of v.0.items))
GivesRecords first (Err (faults.Short at)) read = (further : ℕ) × (read ≡ Err further) × (at ≡ first + further)
GivesRecords first (Err faults.NoMemory) read = Unit {0}

-- the side that was picked by the generations, or that they are the same
abbrev pub Picks : Option Side → Counting → Type 0
Picks None chosen = chosen ≡ NotOne B kinds.Sides
Picks (Some side) chosen = chosen ≡ Counts side

-- what stands at a gate
abbrev pub AtGate : Behind → List ℕ → Type 0
AtGate behinds.Nothing bytes = (behind : List ℕ) → bytes ≢ OPEN_GATE ∷ behind
AtGate behinds.Short bytes = (behind : List ℕ) × (bytes ≡ OPEN_GATE ∷ behind) × (payload_at behind ≡ None)
AtGate (behinds.One payload after) bytes =
    (behind : List ℕ) × (bytes ≡ OPEN_GATE ∷ behind) × (payload_at behind ≡ Some (payload.now, after.now)) × (length payload.now + length after.now + COUNT_LEN ≡ length behind)

-- the front of a side
abbrev pub front_on : Side → Front → Front → Front
front_on A a b = a
front_on B a b = b

-- the side that was chosen, with its header and the bytes behind it, is the one that counts
abbrev pub Chooses : Result (Option (Side × Heading × Bor (List ℕ))) (Side × JournalBad) → Front → Front → Type 0
Chooses (Ok None) a b = counting a b ≡ Neither
Chooses (Ok (Some x)) a b = (counting a b ≡ Counts x.0) × (front_on x.0 a b ≡ Header (head_view x.1) x.2.now)
Chooses (Err x) a b = counting a b ≡ NotOne x.0 x.1

-- what was found, as what a journal keeps
abbrev pub kept_found : Found → Kept
kept_found f = record { side = f.side; head = record { format = f.format; generation = f.generation; deployment = f.deployment; snapshot = f.snapshot }; payloads = map payload_of f.records.items }

-- what a journal is that doesn't yet stand anywhere
abbrev pub kept_first : List ℕ → Kept
kept_first deployment = record { side = A; head = record { format = Two; generation = 1; deployment = deployment; snapshot = [] }; payloads = [] }

-- a fault is the one that the bytes have
abbrev pub IsCause : JournalFault → Result (Option Kept) Wrong → Type 0
IsCause (journal_faults.BadJournal side at kind) read = read ≡ Err (Bad side at kind)
IsCause (journal_faults.OtherDeployment kept_len place) read = read ≡ Err (Other kept_len place)
IsCause journal_faults.DiskFault read = Unit {0}
IsCause journal_faults.NoMemory read = Unit {0}

-- what was found is what the bytes keep, or they keep nothing
abbrev pub IsRecovered : List ℕ → Found → Result (Option Kept) Wrong → Type 0
IsRecovered deployment f read =
    ((f.stage ≡ stages.Found) × (read ≡ Ok (Some (kept_found f)))) ⊎ ((f.stage ≡ stages.Blank) × (read ≡ Ok None) × (kept_found f ≡ kept_first deployment))

-- a fault that says nothing of the bytes
abbrev pub IsDevice : JournalFault → Type 0
IsDevice (journal_faults.BadJournal side at kind) = ⊥
IsDevice (journal_faults.OtherDeployment kept_len place) = ⊥
IsDevice journal_faults.DiskFault = Unit {0}
IsDevice journal_faults.NoMemory = Unit {0}

-- a journal that was just read is blank or found
abbrev pub IsFresh : Stage → Type 0
IsFresh stages.Blank = Unit {0}
IsFresh stages.Found = Unit {0}
IsFresh stages.Ready = ⊥
IsFresh stages.Stopped = ⊥
