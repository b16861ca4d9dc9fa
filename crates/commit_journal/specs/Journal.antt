-- A journal as its callers see it.
use Rattle.std.specs.Prelude.{◌≡◌, ◌≢◌, ◌⊎◌, ℕ, ◌+◌, ◌-◌, ◌≤◌, ◌<◌, ◌^◌, List, [], ◌∷◌, ◌++◌, length, take, IsTrue, Option, Some, None, Result, Ok}
use Rattle.slee_disk.specs.declared.side.Side.{Side}
use Rattle.slee_disk.specs.Sides.{Sides, on, other}
use Rattle.slee_disk.specs.Disk.{DiskState, LeavesOnly, is_clean}
use Rattle.commit_journal.specs.declared.format.Format.{Format}
use Rattle.commit_journal.specs.declared.format.Format.TheVariants.{Two}
use Rattle.commit_journal.specs.declared.record.Record.{Record}
use Rattle.commit_journal.specs.declared.limits.TheConstants.{SIDE_LIMIT, DEPLOYMENT_MARGIN, RECORD_FRAME}
use Rattle.commit_journal.specs.declared.stage.Stage.{Stage}
use Rattle.commit_journal.specs.declared.stage.Stage.TheVariants.{Ready, Found, Stopped}
use Rattle.commit_journal.specs.declared.stage.Stage.TheVariants as stages
use Rattle.commit_journal.specs.declared.fault.AppendFault.{AppendFault}
use Rattle.commit_journal.specs.declared.fault.AppendFault.TheVariants as append_faults
use Rattle.commit_journal.specs.declared.fault.BeginFault.{BeginFault}
use Rattle.commit_journal.specs.declared.fault.BeginFault.TheVariants as begin_faults
use Rattle.commit_journal.specs.Spelling.{Head, FitsText, records_size, size}
use Rattle.commit_journal.specs.Reading.{payloads_of, Front, Blank, NoHeader, Header, front, first_gate, Kept, Wrong, recovered}
use Rattle.commit_journal.specs.Kept.{StandsIn, StandsFound, IsWhole, AreBlank, Keeps, Stands, StandsOrMore, with_more, side_renewed, renewed}
use Rattle.commit_journal.specs.Batch.{or_none}
use Rattle.commit_journal.specs.Views.{kept_first, located}
use Rattle.commit_journal.specs.Written.{IsWritten, IsUntouched}
use Rattle.commit_journal.specs.Renewal.{LeavesRenewed}

-- what contracts see of a journal
pub record View (D : Type 0) : Type 0 where
  pub disk : D
  -- how far it has come
  pub stage : Stage
  -- the side that counts, its head, and the acknowledged payloads, where the disk tells its contents
  pub kept : Kept
  -- the payloads that aren't written yet
  pub batch : List (List ℕ)
  -- how many bytes the side has with the batch, as the journal counts them
  pub length : ℕ
  -- the records that were found at opening, and none once it is renewed
  pub records : List Record
  -- how many bytes a side may have
  pub limit : ℕ

-- the payloads behind the header, if there is one
abbrev pub behind_front : Front → List (List ℕ)
behind_front Blank = []
behind_front NoHeader = []
behind_front (Header head bytes) = or_none (payloads_of bytes)

-- the payloads of a side
unfoldable pub payloads_on : List ℕ → List (List ℕ)
payloads_on side = behind_front (front side)

-- what a journal keeps, by its fields and its disk
abbrev pub kept_by : Side → Format → ℕ → List ℕ → List ℕ → DiskState → Kept
kept_by side format generation deployment snapshot disk = record {
  side = side;
  head = record { format = format; generation = generation; deployment = deployment; snapshot = snapshot };
  payloads = payloads_on (on side disk.seen);
}

-- what is true of the fields of each journal
pub record IsSound (stage : Stage) (kept : Kept) (end : ℕ) (batch : List (List ℕ)) (limit : ℕ) (disk : DiskState) : Type 0 where
  pub ready : stage ≡ Ready → IsTrue disk.told → StandsIn kept end [] disk.seen
  pub found : stage ≡ Found → IsTrue disk.told → StandsFound kept end disk.seen
  pub blank : stage ≡ stages.Blank → IsTrue disk.told → AreBlank disk.seen
  -- nothing is added before it is begun
  pub idle : (stage ≡ Found) ⊎ (stage ≡ stages.Blank) → batch ≡ []
  pub first : stage ≡ stages.Blank → kept.head.snapshot ≡ []
  -- a side that it writes is of the second format
  pub current : (stage ≡ Ready) ⊎ (stage ≡ stages.Blank) → kept.head.format ≡ Two
  pub short : stage ≢ stages.Blank → FitsText kept.head.deployment
  pub sized : length kept.head.deployment + DEPLOYMENT_MARGIN < 2 ^ 63
  -- places and sizes are numbers of 64 bits
  pub room : end + records_size batch < 2 ^ 64 - 2 ^ 20
  pub limited : limit ≤ SIDE_LIMIT

-- an opened journal is what the bytes stand for
abbrev pub IsOpenedAs : {D : Type 0} → List ℕ → Result (Option Kept) Wrong → View D → Type 0
IsOpenedAs deployment read v = ((v.stage ≡ Found) × (read ≡ Ok (Some v.kept))) ⊎ ((v.stage ≡ stages.Blank) × (read ≡ Ok None) × (v.kept ≡ kept_first deployment))

-- ---- opening

-- a journal that was opened, whatever the disk tells
pub record IsOpen {D : Type 0} (deployment : List ℕ) (limit : ℕ) (v : View D) : Type 0 where
  pub running : v.stage ≢ Stopped
  pub empty : v.batch ≡ []
  pub named : v.kept.head.deployment ≡ deployment
  pub plain : v.stage ≡ stages.Blank → v.kept.head.snapshot ≡ []
  pub limited : v.limit ≡ limit

-- a journal that was opened over these sides
pub record IsOpenOver {D : Type 0} (deployment : List ℕ) (sides : Sides) (v : View D) : Type 0 where
  pub read : IsOpenedAs deployment (recovered deployment sides) v
  pub located_are : v.records ≡ located (first_gate v.kept.head) v.kept.payloads
  pub stands : Stands v.stage v.kept sides

-- nothing was written: a crash since then leaves what was seen, and nothing is pending
pub record StaysClean (old new : DiskState) : Type 0 where
  pub leaves : LeavesOnly old new (λ image. image ≡ old.seen)
  pub clean : IsTrue (is_clean new)

-- ---- room

-- the counted length is that of the side with the batch
abbrev pub IsCounted : {D : Type 0} → (D → DiskState) → View D → Type 0
IsCounted state v = IsTrue (state v.disk).told → v.length ≡ size v.kept.head (v.kept.payloads ++ v.batch)

-- a payload of so many bytes fits
abbrev pub HasRoomFor : {D : Type 0} → View D → ℕ → Type 0
HasRoomFor v payload_len = v.length + (RECORD_FRAME + payload_len) ≤ v.limit

-- it doesn't: the side with the batch and the record would be longer than the limit
abbrev pub IsFullFor : {D : Type 0} → View D → ℕ → ℕ → ℕ → Type 0
IsFullFor v payload_len length adding = (length ≡ v.length) × (adding ≡ RECORD_FRAME + payload_len) × (v.limit < length + adding)

-- why a payload isn't taken
abbrev pub IsRefused : {D : Type 0} → View D → ℕ → AppendFault → Type 0
IsRefused v payload_len (append_faults.Full length adding) = IsFullFor v payload_len length adding
IsRefused v payload_len append_faults.NoMemory = HasRoomFor v payload_len

-- a payload was added to the batch
abbrev pub with_payload : {D : Type 0} → View D → List ℕ → View D
with_payload v payload = record v { batch = v.batch ++ payload ∷ []; length = v.length + (RECORD_FRAME + length payload) }

-- ---- calls that write

-- the same side counts, with the same head, and the records and the limit are as before
pub record IsSameSide {D : Type 0} (old new : View D) : Type 0 where
  pub side : new.kept.side ≡ old.kept.side
  pub head : new.kept.head ≡ old.kept.head
  pub records : new.records ≡ old.records
  pub limit : new.limit ≡ old.limit

-- this is kept on the disk, whole, after each crash too
pub record IsDurable (kept : Kept) (disk : DiskState) : Type 0 where
  pub whole : IsWhole kept disk.seen
  pub seen : Keeps kept disk.seen
  pub images : (image : Sides) → disk.images image → Keeps kept image
  pub clean : IsTrue (is_clean disk)

-- how many bytes a side that is written anew has: none, where one stands already
abbrev pub size_begun : Stage → Head → ℕ
size_begun stages.Blank head = size head []
size_begun stages.Found head = 0
size_begun stages.Ready head = 0
size_begun stages.Stopped head = 0

-- a side of this size is refused, for the size alone where it is above the limit
abbrev pub IsTooLarge : ℕ → ℕ → BeginFault → Type 0
IsTooLarge size limit (begin_faults.Full length adding) = (length ≡ 0) × (adding ≡ size) × (limit < size)
IsTooLarge size limit begin_faults.NoMemory = size ≤ limit
IsTooLarge size limit begin_faults.DiskFault = size ≤ limit

-- after a refusal nothing has changed, but that the journal is stopped where the disk has failed
abbrev pub IsLeft : {D : Type 0} → View D → View D → BeginFault → Type 0
IsLeft old new (begin_faults.Full length adding) = new ≡ old
IsLeft old new begin_faults.NoMemory = new ≡ old
IsLeft old new begin_faults.DiskFault = (new.stage ≡ Stopped) × IsSameSide old new

-- it is begun: a blank side was written whole, any other was cut behind its last gate, and the other side is left alone
pub record IsBegun {D : Type 0} (state : D → DiskState) (old new : View D) : Type 0 where
  pub same : new ≡ record old { disk = new.disk; stage = Ready; length = new.length }
  pub durable : IsDurable new.kept (state new.disk)
  pub written : old.stage ≡ stages.Blank → IsWritten new.kept (state new.disk).seen
  pub cut : old.stage ≢ stages.Blank → on old.kept.side (state new.disk).seen ≡ take (size old.kept.head old.kept.payloads) (on old.kept.side (state old.disk).seen)
  pub beside : IsUntouched (other old.kept.side) (state old.disk).seen (state new.disk).seen

-- it isn't begun; to cut a side takes no memory
pub record IsRefusedBegin {D : Type 0} (old new : View D) (fault : BeginFault) : Type 0 where
  pub cause : IsTooLarge (size_begun old.stage old.kept.head) old.limit fault
  pub left : IsLeft old new fault
  pub memory : fault ≡ begin_faults.NoMemory → old.stage ≡ stages.Blank

-- the batch was written and is acknowledged: the last gate is a zero, and the other side is left alone
pub record IsFlushed {D : Type 0} (state : D → DiskState) (old new : View D) : Type 0 where
  pub same : new ≡ record old { disk = new.disk; kept = with_more old.kept old.batch; batch = [] }
  pub seen : Stands new.stage new.kept (state new.disk).seen
  pub whole : old.stage ≡ Ready → IsWhole new.kept (state new.disk).seen
  pub written : old.batch ≢ [] → IsWritten new.kept (state new.disk).seen
  pub beside : IsUntouched (other old.kept.side) (state old.disk).seen (state new.disk).seen

-- what is kept stands after each crash, and nothing is pending
pub record IsSettled {D : Type 0} (state : D → DiskState) (v : View D) : Type 0 where
  pub images : (image : Sides) → (state v.disk).images image → Stands v.stage v.kept image
  pub clean : IsTrue (is_clean (state v.disk))

-- it goes on with the renewed side, on which there is no record
pub record GoesOn {D : Type 0} (old : View D) (snapshot : List ℕ) (new : View D) (generation : ℕ) : Type 0 where
  pub generation_is : generation ≡ (renewed old.stage old.kept snapshot).head.generation
  pub head : new.kept.head ≡ (renewed old.stage old.kept snapshot).head
  pub side : new.kept.side ≡ (renewed old.stage old.kept snapshot).side
  pub ready : new.stage ≡ Ready
  pub empty : new.batch ≡ []
  pub records : new.records ≡ []

-- it is renewed: the new side is written whole, and the other one stays as the flush leaves it
pub record IsRenewed {D : Type 0} (state : D → DiskState) (old : View D) (snapshot : List ℕ) (new : View D) : Type 0 where
  pub same : new ≡ record old { disk = new.disk; stage = Ready; kept = renewed old.stage old.kept snapshot; batch = []; length = new.length; records = [] }
  pub durable : IsDurable new.kept (state new.disk)
  pub written : IsWritten new.kept (state new.disk).seen
  pub beside : old.batch ≡ [] → IsUntouched (other (side_renewed old.stage old.kept.side)) (state old.disk).seen (state new.disk).seen
  pub beside_flushed : old.batch ≢ [] → IsWritten (with_more old.kept old.batch) (state new.disk).seen

-- Up to the end of the flush a crash leaves what was acknowledged, with the batch or without; from then on all of that, or the
-- renewed side. Where the batch is still there, the flush has failed.
pub record LeavesInRenewal {D : Type 0} (state : D → DiskState) (old : View D) (snapshot : List ℕ) (new : View D) : Type 0 where
  pub flushed : new.batch ≡ [] → LeavesRenewed state old.stage old.kept old.batch snapshot old.disk new.disk
  pub unflushed : new.batch ≢ [] → LeavesOnly (state old.disk) (state new.disk) (StandsOrMore old.stage old.kept old.batch)

-- it isn't renewed; the batch is still there, or it was flushed
pub record IsRefusedRenewal {D : Type 0} (old : View D) (snapshot : List ℕ) (new : View D) (fault : BeginFault) : Type 0 where
  pub cause : IsTooLarge (size (renewed old.stage old.kept snapshot).head []) old.limit fault
  pub left : IsLeft old new fault
  pub unwritten : (new.batch ≡ old.batch) ⊎ (new.batch ≡ [])
