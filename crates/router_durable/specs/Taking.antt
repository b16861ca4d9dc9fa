-- How a journal that was read is made ready for records: it is begun, or renewed where it is of the first format.
use Rattle.std.specs.Prelude.{◌≡◌, ◌⊎◌, ℕ, ◌<◌, ◌≤◌, ◌^◌, length, List, [], IsTrue}
use Rattle.slee_disk.specs.declared.side.Side.{Side}
use Rattle.slee_disk.specs.Causes.{Rose}
use Rattle.slee_disk.specs.Sides.{Sides, other}
use Rattle.slee_disk.specs.Disk.{DiskState, LeavesOnly, is_clean}
use Rattle.commit_journal.specs.declared.format.Format.{Format}
use Rattle.commit_journal.specs.declared.format.Format.TheVariants.{One, Two}
use Rattle.commit_journal.specs.declared.record.Record.{Record}
use Rattle.commit_journal.specs.declared.stage.Stage.{Stage}
use Rattle.commit_journal.specs.declared.stage.Stage.TheVariants.{Ready}
use Rattle.commit_journal.specs.Beginning.{MayLeave, size_left}
use Rattle.commit_journal.specs.Journal.{View, IsDurable, size_begun}
use Rattle.commit_journal.specs.Kept.{Stands, Keeps, side_renewed}
use Rattle.commit_journal.specs.Reading.{Kept}
use Rattle.commit_journal.specs.Spelling.{Head, size}
use Rattle.router_state.specs.Snapshot.{spelled_state}
use Rattle.router_state.specs.State.{State}
use Rattle.router_durable.specs.declared.fault.OpenFault.{OpenFault}
use Rattle.router_durable.specs.declared.fault.OpenFault.TheVariants as faults
use Rattle.router_durable.specs.Anew.{left_by}
use Rattle.router_durable.specs.Choices.{written_format}
use Rattle.router_durable.specs.Opening.{IsUntouchedFor}

-- the state on which records follow then
abbrev pub start_left : State → State → Format → State
start_left s start One = s
start_left s start Two = start

-- the records that stand then
abbrev pub records_left : List Record → Format → List Record
records_left rs One = []
records_left rs Two = rs

-- what is kept then
abbrev pub kept_taken : {D : Type 0} → State → View D → Kept
kept_taken s v = left_by s v.stage v.kept v.kept.head.format

-- how many bytes a side that is written anew has: none, where one stands already
abbrev pub size_taken : Stage → Kept → Format → Kept → ℕ
size_taken stage kept One left = size left.head []
size_taken stage kept Two left = size_begun stage kept.head

-- what a crash leaves besides what it might have left before: all but this side from so many bytes on
abbrev pub LeavesTaken : Stage → Kept → Format → DiskState → DiskState → Type 0
LeavesTaken stage kept One old new = MayLeave (side_renewed stage kept.side) 0 old new
LeavesTaken stage kept Two old new = MayLeave kept.side (size_left stage kept) old new

-- the bytes of a state that is written can be counted
abbrev pub IsShort : State → Format → Type 0
IsShort s One = length (spelled_state written_format s) < 2 ^ 64
IsShort s Two = Unit {0}

-- sides stand for what was read, or for what is kept then
abbrev pub StandsOrTaken : {D : Type 0} → State → View D → Sides → Type 0
StandsOrTaken s v image = Stands v.stage v.kept image ⊎ (IsShort s v.kept.head.format × Keeps (kept_taken s v) image)

-- what it does in any case
pub record Takes {D : Type 0} (state : D → DiskState) (s : State) (v w : View D) : Type 0 where
  pub told : (state w.disk).told ≡ (state v.disk).told
  pub rising : (state v.disk).faults ≤ (state w.disk).faults
  pub leaves : IsTrue (is_clean (state v.disk)) → LeavesOnly (state v.disk) (state w.disk) (StandsOrTaken s v)
  pub stays : IsTrue (state v.disk).told → LeavesTaken v.stage v.kept v.kept.head.format (state v.disk) (state w.disk)

-- what it does where nothing fails
pub record IsTaken {D : Type 0} (state : D → DiskState) (s : State) (v w : View D) : Type 0 where
  pub stage : w.stage ≡ Ready
  pub batch : w.batch ≡ []
  pub limit : w.limit ≡ v.limit
  pub head : w.kept.head ≡ (kept_taken s v).head
  pub records : w.records ≡ records_left v.records v.kept.head.format
  pub short : IsShort s v.kept.head.format
  pub fits : size_taken v.stage v.kept v.kept.head.format (kept_taken s v) ≤ v.limit
  pub kept : IsTrue (state v.disk).told → w.kept ≡ kept_taken s v
  pub durable : IsTrue (state v.disk).told → IsDurable w.kept (state w.disk)

-- a fault for the size is that of the side that would be written
abbrev pub IsLarge : ℕ → ℕ → OpenFault → Type 0
IsLarge size limit (faults.Full length adding) = (length ≡ 0) × (adding ≡ size) × (limit < size)
IsLarge size limit faults.DiskFault = Unit {0}
IsLarge size limit faults.NoMemory = Unit {0}
IsLarge size limit (faults.BadJournal side at kind) = ⊥
IsLarge size limit (faults.OtherDeployment kept_len place) = ⊥

-- and where it is refused
pub record IsNotTaken {D : Type 0} (state : D → DiskState) (s : State) (v : View D) (fault : OpenFault) (w : View D) : Type 0 where
  pub cause : IsLarge (size_taken v.stage v.kept v.kept.head.format (kept_taken s v)) v.limit fault
  pub rose : fault ≡ faults.DiskFault → Rose (state v.disk).faults (state w.disk).faults
  pub untouched : IsUntouchedFor fault (state v.disk) (state w.disk)
